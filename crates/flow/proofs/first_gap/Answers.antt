-- `flow::first_gap` meets its contract: each of the three loops has found nothing so far in its own search, `gap_by_c`, `gap_by_b` and `first_gap`.
use Rattle.basis.proofs.SearchLaws.{first-none, first_next, first_hit, first_end}
use Rattle.flow.proofs.GapLaws.{gap_at-none, gap_at_hit, whole_by_c}
use Rattle.flow.specs.Gap.{gap_by_c, gap_by_b, first_gap, gap_told, told}
use native.Mathlib.Omega.{arith}
use mathlib.Core.Path.{refl, sym, ◌∙◌, ap}
use Rattle.flow.proofs.first_gap.Goals as goal
use Rattle.flow.proofs.first_gap.Goals.{then-not-is_whole+else-loop-c-test, else-not-is_whole}

pub search-init : goal.search-init
search-init c = (omega arith, refl, first-none _)

pub loop-b-init : goal.loop-b-init
loop-b-init c = (omega arith, c.search.invariant.1, first-none _)

pub loop-c-init : goal.loop-c-init
loop-c-init c = (omega arith, c.loop-b.invariant.1, first-none _)

pub loop-c-preserved : goal.loop-c-preserved
loop-c-preserved c =
    (omega arith, c.loop-c.invariant.1, first_next _ _ c.loop-c.invariant.2 (gap_at-none _ _ _ _ (sym c.breaks.ensures ∙ c.if-breaks.false)))

pub loop-b-preserved : goal.loop-b-preserved
unfolding gap_by_c
loop-b-preserved c =
    let i = c.loop-b.invariant in
    elim c.if-not-is_whole.branch [
      | then-not-is_whole+else-loop-c-test w ↦ (
        omega arith,
        w.found-is ∙ w.loop-c.invariant.1,
        first_next _ _ i.2 (first_end _ _ _ w.loop-c.invariant.2 w.loop-c.invariant.0 w.loop-c-test.false),
      )
      | else-not-is_whole w ↦ (
        omega arith,
        w.found-is ∙ i.1,
        first_next _ _ i.2 (whole_by_c _ _ _ _ (c.is_whole.ensures w.if-not-is_whole.false)),
      )
    ]

pub search-preserved : goal.search-preserved
unfolding gap_by_b
search-preserved c =
    let i = c.loop-b.invariant in
    (omega arith, i.1, first_next _ _ c.search.invariant.2 (first_end _ _ _ i.2 i.0 c.loop-b-test.false))

pub returns-after-search : goal.returns-after-search
unfolding first_gap
returns-after-search c =
    let i = c.search.invariant in
    ap told i.1 ∙ sym (ap gap_told (first_end _ _ _ i.2 i.0 c.search-test.false))

pub returns-then-breaks : goal.returns-then-breaks
unfolding first_gap gap_by_b gap_by_c
returns-then-breaks c =
    let hit = gap_at_hit _ _ _ _ (sym c.breaks.ensures ∙ c.if-breaks.true) in
    let by-c = first_hit _ _ _ _ c.loop-c.invariant.2 hit c.loop-c-test.true in
    let by-b = first_hit _ _ _ _ c.loop-b.invariant.2 by-c c.loop-b-test.true in
    sym (ap gap_told (first_hit _ _ _ _ c.search.invariant.2 by-b c.search-test.true))
