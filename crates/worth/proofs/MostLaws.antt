-- Steps in turn, without a frame: the clock after them, and what is paid in two parts adds up.
use Prim.Native.Nat.{ℕ, ◌+◌}
use mathlib.Core.Path.{◌≡◌}
use mathlib.Core.List.{List, [], ◌∷◌, ◌++◌}
use native.Mathlib.Omega.{arith}
use lib.ListN.{length}
use Rattle.basis.specs.Turns.{after}
use Rattle.table.specs.declared.Table.{Table}
use Rattle.state.specs.declared.State.{State}
use Rattle.frame.specs.Mode.{unframed}
use Rattle.walk.specs.Step.{Input, step}
use Rattle.walk.specs.Paid.{payments}
use Rattle.walk.specs.declared.Walked.{Walked}
use Rattle.walk.proofs.StepLaws.{step_clock}

-- The state after steps in turn, where nothing is tested.
abbrev pub onward : Table → List Input → State → State
onward t a s = after (step t unframed) (λ (w : Walked). w.state) a s

module _ (t : Table) where
  pub onward_clock : (a : List Input) (s : State) → (onward t a s).clock ≡ s.clock + length a
  unfolding after
  onward_clock [] s = omega arith
  onward_clock (x ∷ a) s = omega (arith, onward_clock a (step t unframed x s).state, step_clock t unframed x s)

  pub payments_join : (i : ℕ) (a b : List Input) (s : State)
      → payments t unframed i (a ++ b) s ≡ payments t unframed i a s + payments t unframed i b (onward t a s)
  unfolding after payments
  payments_join i [] b s = omega arith
  payments_join i (x ∷ a) b s = omega (arith, payments_join i a b (step t unframed x s).state)
