-- Demand 3: change at will the bytes of all threads whose domain may not flow to d, with the same public masks, and at every step of a run
-- from a fresh start d is shown the same thread or the same gap, and of each thread that it may see the same rests, finish mark and count.
use Rattle.std.specs.Prelude.{ℕ, ◌<◌, ◌≡◌, List, [], ◌∷◌, map, true, length, get_or, eqb}
use Rattle.basis.specs.Tests.{pick}
use Rattle.basis.specs.Told.{Told}
use Rattle.table.specs.declared.Table.{Table}
use Rattle.state.specs.State.{fresh}
use Rattle.state.specs.declared.Progress.{Progress}
use Rattle.frame.specs.Mode.{Mode}
use Rattle.walk.specs.Step.{Input}
use Rattle.scheduler.specs.Taken.{Taken, answer_of}
use Rattle.scheduler.specs.Calls.{calls}
use Rattle.sight.specs.Shown.{visible, showing, showing_state, threads_shown}

-- What d is told of a call: what it is shown of the answer, or the number that the call is refused with (0: not refused).
unfoldable pub telling : Table → ℕ → Told → Told
telling t d r = pick (eqb r.number 0) (showing t d (answer_of r.values)) r

-- All that d is shown of a call: what it is told of it, what it is told of the state handed back, and that state's threads.
pub record ShownCall : Type 0 where
  pub told : Told
  pub state-told : Told
  pub threads : List Progress

-- What the operations for what a domain is shown give of a call's answer and state.
unfoldable pub shown_of : Table → ℕ → Taken → ShownCall
shown_of t d r = record {
  told = telling t d r.told;
  state-told = showing_state t r.state d;
  threads = threads_shown t r.state d;
}

-- Two steps with the same mask and as many bytes (13 refuses both or neither), the same for each thread whose domain may flow to d.
pub record SameStep (t : Table) (d : ℕ) (x y : Input) : Type 0 where
  pub masks : x.mask ≡ y.mask
  pub long : length x.bytes ≡ length y.bytes
  pub same : (i : ℕ) → visible t d i ≡ true → get_or x.bytes i 0 ≡ get_or y.bytes i 0

-- As many steps in both lists, and each two so.
pub data SameSteps (t : Table) (d : ℕ) : List Input → List Input → Type 0 where
  ended : SameSteps t d [] []
  next : {x y : Input} {us vs : List Input} → SameStep t d x y → SameSteps t d us vs → SameSteps t d (x ∷ us) (y ∷ vs)

-- From a fresh start each domain of the table is shown the same at every step, in whichever mode the steps are: the same frame in both runs.
abbrev pub Isolated : Table → Mode → Type 0
Isolated t mode = (d : ℕ) → d < t.domains → (a b : List Input) → SameSteps t d a b
    → map (shown_of t d) (calls t mode a (fresh t)) ≡ map (shown_of t d) (calls t mode b (fresh t))
