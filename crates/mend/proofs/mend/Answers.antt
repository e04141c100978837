-- Each refusal is that of `mending`, and so is the answer: the laws of OutcomeLaws, at each place.
use mathlib.Core.Path.{◌≡◌, sym, ◌∙◌, ap}
use mathlib.Core.Bool.{true}
use mathlib.Core.Logic.{⊎_elim}
use native.Mathlib.Omega.{arith}
use lib.ListN.{length}
use Prim.Native.Nat.{◌≤◌}
use Rattle.basis.specs.Search.{nothing}
use Rattle.mend.specs.Rows.{mended, added, count}
use Rattle.mend.specs.Mend.{full, count_ok, bad_row, sought}
use Rattle.mend.proofs.OutcomeLaws.{count_in, count-zero, count_over, mended_wider, told-count, told_row, told-short, done_as}
use Rattle.mend.proofs.CountLaws.{Wider, added-count, wider_counted}
use Rattle.mend.proofs.mend.Goals as goal
use Rattle.mend.proofs.mend.Goals.{After-count_added-count, After-first_bad, After-mended-ms, Else-n-gt16, Else-pairs-count, In_default}

-- The domains, and the rows that passed, at each place.
at-start : (c : Else-n-gt16) → count_ok (length c.args.given.now) ≡ true
at-start c = count_in _ (omega arith) (omega arith)

-- What the search for a row that does not pass answers of the rows given.
searched : (c : After-first_bad) → bad_row (length c.args.given.now) (full c.args.given.now) ≡ sought c.first_bad.result
searched c = sym (ap (bad_row _) c.copied-rows.ensures) ∙ sym c.first_bad.ensures

none-bad : (c : In_default) → bad_row (length c.args.given.now) (full c.args.given.now) ≡ nothing
none-bad c = (sym (ap (bad_row _) c.copied-rows.ensures) ∙ sym c.first_bad.ensures) ∙ ap sought c.in_default.is

-- The rows mended, and how many pairs they have more.
rows-mended : (c : After-mended-ms) →
    c.mended-ms.result ≡ mended (length c.args.given.now) (full c.args.given.now)
rows-mended c = c.mended-ms.ensures ∙ ap (mended _) c.copied-rows.ensures

counted : (c : After-count_added-count) →
    c.count_added-count.result ≡ count (full c.args.given.now) (mended (length c.args.given.now) (full c.args.given.now)) 16
counted c = c.count_added-count.ensures ∙ rw (c.copied-rows.ensures, c.mended-ms.ensures ∙ ap (mended _) c.copied-rows.ensures)

-- They have room.
all_room : (c : Else-pairs-count) → length (added c.copied-rows.result c.mended-ms.result 256)
    ≤ length c.args.pairs.now
all_room c =
    let w : Wider c.copied-rows.result c.mended-ms.result = rw c.mended-ms.ensures (mended_wider _ _ c.if-n-gt16.false) in
    omega (arith, added-count c.copied-rows.result c.mended-ms.result w, c.count_added-count.ensures, c.if-pairs-count.false)

pub returns-then-n-eq0 : goal.returns-then-n-eq0
returns-then-n-eq0 c = told-count _ _ (⊎_elim (λ z. count-zero _ z) (λ p. count_over _ p.1) c.then-n-eq0.either)

pub returns-in-Some : goal.returns-in-Some
returns-in-Some c = told_row _ _ _ (at-start (goal.at.returns-in-Some c).Else-n-gt16) (searched (goal.at.returns-in-Some c).After-first_bad ∙ ap sought c.in-Some.is)

pub count_added-count-requires : goal.count_added-count-requires
count_added-count-requires c =
    rw c.mended-ms.ensures (wider_counted _ _ (mended_wider _ _ c.if-n-gt16.false))

pub returns-then-pairs-count : goal.returns-then-pairs-count
returns-then-pairs-count c =
    told-short _ _ (at-start (goal.at.returns-then-pairs-count c).Else-n-gt16) (none-bad (goal.at.returns-then-pairs-count c).In_default) (omega (arith, counted (goal.at.returns-then-pairs-count c).After-count_added-count, c.if-pairs-count.true))

pub list_added-requires : goal.list_added-requires
list_added-requires c = all_room (goal.at.list_added-requires c).Else-pairs-count

pub returns : goal.returns
returns c =
    done_as _ _ c.copied-rows.result c.mended-ms.result _ c.count_added-count.result c.copied-rows.ensures (rows-mended (goal.at.returns c).After-mended-ms) c.count_added-count.ensures
    c.list_added.ensures (at-start (goal.at.returns c).Else-n-gt16) (none-bad (goal.at.returns c).In_default) (omega (arith, c.if-pairs-count.false))
