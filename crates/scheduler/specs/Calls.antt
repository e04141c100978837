-- A run of calls: each call of the step is handed the state that the one before it handed back, refused or not.
use Rattle.std.specs.Prelude.{◌≡◌, ℕ, List, [], ◌∷◌, map, true, length}
use Rattle.basis.specs.Turns.{in_turn}
use Rattle.table.specs.declared.Table.{Table}
use Rattle.state.specs.declared.State.{State}
use Rattle.frame.specs.Mode.{Mode}
use Rattle.walk.specs.Step.{Input, quiet, step}
use Rattle.walk.specs.declared.Walked.{Walked}
use Rattle.scheduler.specs.Taken.{Taken, mask_ok, taken}

-- Steps that bring these bytes, and no event.
abbrev pub quietly : List (List ℕ) → List Input
quietly = map quiet

-- What each call gives, in turn.
unfoldable pub calls : Table → Mode → List Input → State → List Taken
calls t mode a s = in_turn (taken t mode) (λ (r : Taken). r.state) a s

-- What each inner step gives, in turn, where nothing is tested.
unfoldable pub steps : Table → Mode → List Input → State → List Walked
steps t mode a s = in_turn (step t mode) (λ (w : Walked). w.state) a s

-- Each step has one byte for each thread, and events of event threads only.
pub data WholeSteps (t : Table) : List Input → Type 0 where
  ended : WholeSteps t []
  next : {x : Input} {more : List Input} → length x.bytes ≡ t.count → mask_ok t x.mask ≡ true → WholeSteps t more → WholeSteps t (x ∷ more)
