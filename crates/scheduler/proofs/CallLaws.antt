-- A run of calls: each hands back a fitting state, and where nothing refuses one the run is that of the inner steps.
use Prim.Native.Nat.{ℕ, suc, ◌+◌, ◌≤◌, ◌<◌}
use mathlib.Core.Path.{◌≡◌, refl, sym, ◌∙◌, ap, ap₂}
use mathlib.Core.List.{List, [], ◌∷◌, map}
use mathlib.Core.Bool.{true}
use native.Mathlib.Omega.{arith}
use borrow.Author.Tests.{ltb-true}
use lib.ListN.{length}
use lib.Dec.{eqb, ltb}
use Rattle.basis.specs.Tests.{pick}
use Rattle.basis.specs.Turns.{in_turn}
use Rattle.basis.proofs.TestLaws.{either}
use Rattle.table.specs.Legal.{legal}
use Rattle.table.specs.declared.Table.{Table}
use Rattle.state.specs.State.{last_clock, Fits}
use Rattle.state.specs.declared.State.{State}
use Rattle.state.proofs.FitLaws.{fits_complete}
use Rattle.frame.specs.Mode.{Mode, mode_ok}
use Rattle.walk.specs.Step.{Input, step}
use Rattle.walk.specs.declared.Walked.{Walked}
use Rattle.walk.proofs.StepLaws.{step_clock, step_fits}
use Rattle.scheduler.specs.Taken.{Taken, took, refused_step, mask_ok, taken_then, taken}
use Rattle.scheduler.specs.Calls.{WholeSteps, ended, next, calls, steps}
use Rattle.scheduler.proofs.RefusalLaws.{taken-steps}

module _ (t : Table) (mode : Mode) (ok : legal t ≡ true) where
  -- On a fitting state a call is refused by its frame, the number of bytes, the mask or the clock, and by nothing else.
  pub call_by : (x : Input) (s : State) → Fits t s
      → taken t mode x s
      ≡ pick (mode_ok t mode)
      (pick (eqb (length x.bytes) t.count)
      (pick (mask_ok t x.mask) (pick (ltb s.clock last_clock) (took (step t mode x s)) (refused_step 14 s)) (refused_step 18 s)) (refused_step 13 s))
      (refused_step 19 s)
  unfolding taken taken_then pick
  call_by x s f = rw (ok, fits_complete t s f)

  pub call_fits : (x : Input) (s : State) → Fits t s → Fits t (taken t mode x s).state
  call_fits x s f =
      let P : Taken → Type 0 = λ r. Fits t r.state in
      rw (call_by x s f)
      (either P (mode_ok t mode)
      (λ _. either P (eqb (length x.bytes) t.count)
      (λ _. either P (mask_ok t x.mask)
      (λ _. either P (ltb s.clock last_clock) (λ e. step_fits t mode x s f (ltb-true _ _ e)) (λ _. f)) (λ _. f)) (λ _. f)) (λ _. f))

  -- With one byte a thread at each step, and clocks below the last, the calls give what the steps give.
  pub calls-steps : mode_ok t mode ≡ true → (a : List Input) → WholeSteps t a → (s : State) → Fits t s → s.clock + length a ≤ last_clock
      → calls t mode a s ≡ map took (steps t mode a s)
  unfolding calls steps in_turn
  calls-steps o a ended s f h = refl
  calls-steps o a (next {x} {more} e m w) s f h =
      let l : s.clock < last_clock = omega arith in
      let c : taken t mode x s ≡ took (step t mode x s) = taken-steps t mode x s ok o (fits_complete t s f) e m l in
      ap₂ ◌∷◌ c (rw c (calls-steps o more w (step t mode x s).state (step_fits t mode x s f l) (omega (arith, step_clock t mode x s))))
