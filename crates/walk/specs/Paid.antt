-- What a thread pays, in one step and over steps in turn, how often it runs, and how often the processor idles on its account.
use Rattle.std.specs.Prelude.{ℕ, ◌+◌, ◌-◌, ◌≡◌, List, [], ◌∷◌, false}
use Rattle.table.specs.declared.Table.{Table}
use Rattle.state.specs.State.{progress}
use Rattle.state.specs.Release.{release, releases}
use Rattle.state.specs.declared.State.{State}
use Rattle.frame.specs.Mode.{Mode}
use Rattle.walk.specs.Step.{Input, step, ran_by, idled_by}

-- What thread i pays in a step: the rest it has after the release, less the rest it has after the step.
unfoldable pub pays : Table → Mode → Input → State → ℕ → ℕ
pays t mode x s i = (progress (release t x.mask s) i).rest - (progress (step t mode x s).state i).rest

-- What thread i pays in all, over steps in turn.
unfoldable pub payments : Table → Mode → ℕ → List Input → State → ℕ
payments t mode i [] s = 0
payments t mode i (x ∷ more) s = pays t mode x s i + payments t mode i more (step t mode x s).state

-- How often thread i runs, over steps in turn.
unfoldable pub runs_of : Table → Mode → ℕ → List Input → State → ℕ
runs_of t mode i [] s = 0
runs_of t mode i (x ∷ more) s = ran_by i (step t mode x s).answer + runs_of t mode i more (step t mode x s).state

-- How often the processor idles on thread i's account, over steps in turn.
unfoldable pub idles_of : Table → Mode → ℕ → List Input → State → ℕ
idles_of t mode i [] s = 0
idles_of t mode i (x ∷ more) s = idled_by i (step t mode x s).answer + idles_of t mode i more (step t mode x s).state

-- None of these steps is a release of thread i.
abbrev pub Unreleased : Table → Mode → ℕ → List Input → State → Type 0
Unreleased t mode i [] s = Unit {0}
Unreleased t mode i (x ∷ more) s = (releases t i x.mask s ≡ false) × Unreleased t mode i more (step t mode x s).state
