-- Laws of the start: what a fresh state has, when it is refused, and that no second answer fits.
use Prim.Native.Nat.{ℕ, ◌-◌, ◌<◌}
use mathlib.Core.Path.{◌≡◌, refl, sym, ◌∙◌, ap}
use mathlib.Core.Logic.{◌≢◌, ◌↔◌}
use mathlib.Core.List.{[]}
use mathlib.Core.Bool.{true, false}
use native.Mathlib.Omega.{arith}
use lib.ListN.{replicate}
use Rattle.basis.specs.Tests.{pick}
use Rattle.basis.specs.Told.{Told, answered, refused}
use Rattle.basis.proofs.TestLaws.{by_test}
use Rattle.basis.proofs.SearchLaws.{listed_at}
use Rattle.table.specs.Threads.{thread}
use Rattle.table.specs.Legal.{legal}
use Rattle.table.specs.declared.Table.{Table}
use Rattle.state.specs.State.{no_progress, with_since, progress, ready, fresh, no_state, told, given, starting, fresh_given}
use Rattle.state.specs.declared.State.{State}
use Rattle.basis.specs.declared.refusal.Refusal.{Refusal}
use Rattle.basis.proofs.RefusalLaws.{done-apart}
use Rattle.std.specs.Prelude.{Result}
use Rattle.state.proofs.FitLaws.{longest-event, longest_periodic}

-- Fresh: the clock is 0, all is zero and unmarked, and an event thread has P steps since release.
pub fresh_clock : (t : Table) → (fresh t).clock ≡ 0
unfolding fresh
fresh_clock t = refl

fresh_at : (t : Table) (i : ℕ) → i < t.count → progress (fresh t) i ≡ ready t i
unfolding fresh
fresh_at t i l = listed_at (ready t) t.count i (replicate (32 - t.count) no_progress) no_progress l

pub fresh-event : (t : Table) (i : ℕ) → i < t.count → (thread t i).kind ≡ 1 → progress (fresh t) i ≡ with_since (thread t i).period no_progress
fresh-event t i l k = fresh_at t i l ∙ ap (λ n. with_since n no_progress) (longest-event (thread t i) k)

pub fresh_periodic : (t : Table) (i : ℕ) → i < t.count → (thread t i).kind ≢ 1 → progress (fresh t) i ≡ no_progress
fresh_periodic t i l k = fresh_at t i l ∙ ap (λ n. with_since n no_progress) (longest_periodic (thread t i) k)

-- It is refused with 11 exactly where the table is not legal, and is then zero; else it is the fresh state.
pub fresh-refused : (t : Table) → (starting t ≡ refused 11) ↔ (legal t ≡ false)
unfolding starting pick
fresh-refused t = (
  λ e. by_test (legal t) (λ l. let z : (starting t).number ≡ 0 = rw l in let n = ap (λ (w : Told). w.number) e in absurd (omega arith)) (λ l. l),
  λ l. rw l,
)

pub fresh-answered : (t : Table) → (starting t ≡ answered []) ↔ (legal t ≡ true)
unfolding starting pick
fresh-answered t = (
  λ e. by_test (legal t) (λ l. l) (λ l. let z : (starting t).number ≡ 11 = rw l in let n = ap (λ (w : Told). w.number) e in absurd (omega arith)),
  λ l. rw l,
)

pub fresh-zero : (t : Table) → legal t ≡ false → fresh_given t ≡ no_state
unfolding fresh_given pick
fresh-zero t l = rw l

pub fresh-legal : (t : Table) → legal t ≡ true → fresh_given t ≡ fresh t
unfolding fresh_given pick
fresh-legal t l = rw l

-- No second answer fits `fresh`.
pub fresh_unique : (t : Table) (r q : Result State Refusal) → (told r ≡ starting t) × (given r ≡ fresh_given t)
    → (told q ≡ starting t) × (given q ≡ fresh_given t) → r ≡ q
fresh_unique t r q e f = done-apart _ r q (e.0 ∙ sym f.0) (e.1 ∙ sym f.1)
