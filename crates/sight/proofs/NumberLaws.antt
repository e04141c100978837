-- Each number of what a domain is shown is given exactly when its row holds, by asking the tests in turn.
use Prim.Native.Nat.{ℕ, ◌<◌}
use mathlib.Core.Path.{◌≡◌, refl, ap}
use mathlib.Core.Logic.{◌↔◌}
use native.Mathlib.Omega.{arith}
use lib.ListN.{replicate}
use lib.Dec.{ltb}
use borrow.Author.Tests.{ltb-true, ltb-false, lt-ltb, le-ltb}
use Rattle.basis.specs.Tests.{pick}
use Rattle.basis.specs.Told.{Told}
use Rattle.basis.proofs.TestLaws.{by_test}
use Rattle.basis.proofs.BackLaws.{exactly_by, row_here}
use Rattle.table.specs.Legal.{legal}
use Rattle.table.specs.declared.Table.{Table}
use Rattle.state.specs.State.{no_progress, fits}
use Rattle.state.specs.declared.State.{State}
use Rattle.walk.specs.declared.Answer.{Answer}
use Rattle.walk.specs.declared.Answer.TheVariants.{Ran, IdleFor, Idle}
use Rattle.sight.specs.Shown.{visible, view, showing, showing_state, threads_shown}
use Rattle.sight.proofs.SightLaws.{seen-run, unseen_gap}
use Rattle.sight.specs.Numbered.{ViewNumbered, not-legal, no_domain, shows, StateNumbered, illegal, misfit, lacks_domain, shows_state}

-- A thread or a gap is no refusal.
pub view-number : (t : Table) (d : ℕ) (a : Answer) → (view t d a).number ≡ 0
unfolding view
view-number t d (Ran i) =
    let number : Told → ℕ = λ w. w.number in
    by_test (visible t d i) (λ e. ap number (seen-run t d i e)) (λ e. ap number (unseen_gap t d i e))
view-number t d (IdleFor i) = refl
view-number t d Idle = refl

module _ (t : Table) (d : ℕ) (a : Answer) where
  view_only : {n : ℕ} → ViewNumbered t d n → (showing t d a).number ≡ n
  unfolding showing pick
  view_only (not-legal l) = rw l
  view_only (no_domain l h) = rw (l, le-ltb _ _ h)
  view_only (shows l h) = rw (l, lt-ltb _ _ h) (view-number t d a)

  here : {n : ℕ} → ViewNumbered t d n → ViewNumbered t d (showing t d a).number
  here r = row_here (ViewNumbered t d) r (view_only r)

  view-given : ViewNumbered t d (showing t d a).number
  view-given =
      by_test (legal t)
      (λ l. by_test (ltb d t.domains) (λ h. here (shows l (ltb-true _ _ h))) (λ h. here (no_domain l (ltb-false _ _ h))))
      (λ l. here (not-legal l))

  pub view_number_exactly : (n : ℕ) → ((showing t d a).number ≡ n) ↔ ViewNumbered t d n
  view_number_exactly = exactly_by (ViewNumbered t d) view-given (λ n r. view_only r)

module _ (t : Table) (s : State) (d : ℕ) where
  state_only : {n : ℕ} → StateNumbered t s d n → (showing_state t s d).number ≡ n
  unfolding showing_state pick
  state_only (illegal l) = rw l
  state_only (misfit l f) = rw (l, f)
  state_only (lacks_domain l f h) = rw (l, f, le-ltb _ _ h)
  state_only (shows_state l f h) = rw (l, f, lt-ltb _ _ h)

  state-here : {n : ℕ} → StateNumbered t s d n → StateNumbered t s d (showing_state t s d).number
  state-here r = row_here (StateNumbered t s d) r (state_only r)

  state-given : StateNumbered t s d (showing_state t s d).number
  state-given =
      by_test (legal t)
      (λ l. by_test (fits t s)
      (λ f. by_test (ltb d t.domains)
      (λ h. state-here (shows_state l f (ltb-true _ _ h)))
      (λ h. state-here (lacks_domain l f (ltb-false _ _ h))))
      (λ f. state-here (misfit l f)))
      (λ l. state-here (illegal l))

  pub state_number_exactly : (n : ℕ) → ((showing_state t s d).number ≡ n) ↔ StateNumbered t s d n
  state_number_exactly = exactly_by (StateNumbered t s d) state-given (λ n r. state_only r)

-- A refused domain is shown zeros.
pub refused_zeros : (t : Table) (s : State) (d : ℕ) → 0 < (showing_state t s d).number → threads_shown t s d ≡ replicate 32 no_progress
unfolding threads_shown pick
refused_zeros t s d h = zeros (state-given t s d) refl
  where
    zeros : {n : ℕ} → StateNumbered t s d n → (showing_state t s d).number ≡ n → threads_shown t s d ≡ replicate 32 no_progress
    zeros (illegal l) e = rw l
    zeros (misfit l f) e = rw (l, f)
    zeros (lacks_domain l f k) e = rw (l, f, le-ltb _ _ k)
    zeros (shows_state l f k) e = absurd (omega arith)
