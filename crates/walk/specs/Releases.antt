-- Which steps of a run are releases of a thread.
use Rattle.std.specs.Prelude.{ℕ, List, [], ◌∷◌, Bool}
use Rattle.table.specs.declared.Table.{Table}
use Rattle.state.specs.Release.{releases}
use Rattle.state.specs.declared.State.{State}
use Rattle.frame.specs.Mode.{Mode}
use Rattle.walk.specs.Step.{Input, step}

-- Whether each step is a release of thread i, over steps in turn.
unfoldable pub releases_in : Table → Mode → ℕ → List Input → State → List Bool
releases_in t mode i [] s = []
releases_in t mode i (x ∷ more) s = releases t i x.mask s ∷ releases_in t mode i more (step t mode x s).state
