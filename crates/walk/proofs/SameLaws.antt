-- Whom a mark names changes no schedule.
use Prim.Native.Nat.{ℕ, ◌-◌}
use mathlib.Core.Path.{◌≡◌, refl, sym, ◌∙◌, ap}
use Rattle.std.specs.Prelude.{Bool, true, false, Some, None, is_some}
use mathlib.Core.List.{List, ◌++◌}
use lib.ListN.{replicate}
use lib.Dec.{ltb}
use borrow.Author.Tests.{ltb-true, ltb-false}
use Rattle.basis.specs.Tests.{pick, some}
use Rattle.basis.specs.Search.{nothing, listed}
use Rattle.basis.proofs.TestLaws.{by_test}
use Rattle.basis.proofs.SearchLaws.{listed_at, listed_past}
use Rattle.table.specs.Mark.{hidden_below, protects, mark, marks_of, is_set}
use Rattle.table.specs.Mark.{Mark}
use Rattle.table.specs.declared.Table.{Table}
use Rattle.table.proofs.MarkLaws.{marked-some, set_exactly}
use Rattle.state.specs.Release.{release}
use Rattle.state.specs.declared.State.{State}
use Rattle.frame.specs.Mode.{Mode, threads_at}
use Rattle.frame.proofs.ModeLaws.{at_below}
use Rattle.walk.specs.Step.{Input, advance, step}
use Rattle.walk.proofs.MarksLaws.{walk_sets, step_by}

-- A mark as it was before it named a thread: set where some thread of the table is barred and below, whichever it is.
abbrev bare : Table → ℕ → Mark
bare t i = pick (some t.count (hidden_below t i)) (Some 0) None

is-set : (b : Bool) → is_some {T = ℕ} (pick b (Some 0) None) ≡ b
unfolding pick
is-set true = refl
is-set false = refl

unfoldable pub bare_marks : Table → List Mark
bare_marks t = listed t.count (bare t) ++ replicate (32 - t.count) (mark nothing)

bare-same : (t : Table) (i : ℕ) → is_set (bare_marks t) i ≡ is_set (marks_of t) i
unfolding bare_marks marks_of
bare-same t i =
    by_test (ltb i t.count)
    (λ e. ap (λ (m : Mark). is_some m) (listed_at (bare t) t.count i (replicate (32 - t.count) (mark nothing)) (mark nothing) (ltb-true _ _ e))
    ∙ is-set (some t.count (hidden_below t i)) ∙ sym (marked-some t i) ∙ sym (set_exactly t i (ltb-true _ _ e)))
    (λ e. ap (λ (m : Mark). is_some m) (listed_past (bare t) t.count (32 - t.count) i (mark nothing) (ltb-false _ _ e)
    ∙ sym (listed_past (λ k. mark (protects t k)) t.count (32 - t.count) i (mark nothing) (ltb-false _ _ e))))

-- The step by those marks is the step, of every table, from every state, for all events and bytes: the schedule stayed as it was.
pub same_schedule : (t : Table) (mode : Mode) (x : Input) (s : State) → advance t (bare_marks t) (threads_at t mode s.clock) x s ≡ step t mode x s
unfolding advance
same_schedule t mode x s =
    rw (step_by t mode x s, walk_sets t.count (bare_marks t) (marks_of t) (λ i l. bare-same t i) x.bytes (threads_at t mode s.clock) (release t x.mask s) (at_below t mode s.clock))
