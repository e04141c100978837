use Rattle.table.specs.Threads.{field_count, fields}
use Rattle.table.specs.Ranges.{range, within, field_range, field_ranges}
use Rattle.table.specs.declared.Range.{Range}
use Rattle.table.specs.declared.Thread.{Thread}
use Rattle.table.specs.Legal.{field_ok, thread_ok}
use Rattle.basis.proofs.TestLaws.{every-none, every-next, every_fails, every_end}
use mathlib.Core.Bool.{Bool}
use mathlib.Core.List.{List}
use lib.ListN.{get_or}
use mathlib.Core.Path.{◌≡◌, sym, ◌∙◌}
use Prim.Native.Nat.{ℕ}
use borrow.Author.Rules.{rules}
use Rattle.table.proofs.judge.thread_passes.Goals as goal

-- The test of field k, by the ranges of a thread that has these fields.
field-test : (v d : ℕ) (th : Thread) (vs : List ℕ) (ranges : List Range) (k : ℕ) (b : Bool) → vs ≡ fields th
    → ranges ≡ field_ranges v d th.period th.offset th.budget → within (get_or ranges k (range 0 0)) (get_or vs k 0) ≡ b → field_ok v d vs k ≡ b
unfolding field_ok field_range
field-test v d th vs ranges k b e f g = rw (← g, f, e)

pub loop-k-init : goal.loop-k-init
loop-k-init c = (search rules, every-none _)

pub returns-then-not-in_range : goal.returns-then-not-in_range
unfolding thread_ok
returns-then-not-in_range c =
    rw (← c.fields-vs.ensures)
    (sym (every_fails (field_ok c.args.version c.args.domains c.fields-vs.result) _ field_count
    (field-test _ _ _ _ _ _ _ c.fields-vs.ensures c.field_ranges-ranges.ensures (sym c.in_range.ensures ∙ c.if-not-in_range.true))
    c.loop-k-test.true))

pub loop-k-preserved : goal.loop-k-preserved
loop-k-preserved c = (
  search rules,
  every-next _ _ c.loop-k.invariant.1
      (field-test _ _ _ _ _ _ _ c.fields-vs.ensures c.field_ranges-ranges.ensures (sym c.in_range.ensures ∙ c.if-not-in_range.false)),
)

pub returns : goal.returns
unfolding thread_ok
returns c = rw (← c.fields-vs.ensures) (sym (every_end _ _ _ c.loop-k.invariant.1 c.loop-k.invariant.0 c.loop-k-test.false))
