-- Runs of any length, and what is promised of position and command over them.
use Rattle.std.specs.Prelude.{ℕ, suc, ◌+◌, ◌-◌, ◌*◌, ◌≤◌, ◌<◌, ◌≡◌, List, [], ◌∷◌, map, true, length, get_or, take, drop, eqb, ℤ, pos, ◌≤ℤ◌}
use Rattle.basis.specs.Tests.{pick}
use Rattle.basis.specs.Turns.{in_turn}
use Rattle.table.specs.declared.Table.{Table}
use Rattle.state.specs.State.{fresh}
use Rattle.frame.specs.Mode.{Mode}
use Rattle.scheduler.specs.Taken.{Taken}
use Rattle.sight.specs.Shown.{visible}
use Rattle.isolation.specs.Isolated.{shown_of, SameSteps}
use Rattle.state.specs.declared.State.{State}
use Rattle.actuator.specs.Motion.{drawn, distance}
use Rattle.actuator.specs.Drive.{Brought, Drove, driven}
use Rattle.actuator.specs.Numbered.{InRange}
use Rattle.actuator.specs.declared.Actuator.{Actuator}

-- What each call of the drive gives, in turn: a call is handed the state and the actuator that the one before it handed back,
-- refused or not.
unfoldable pub drives : Table → Mode → List Brought → State → Actuator → List Drove
drives t mode bs s a =
    in_turn (λ (b : Brought) (x : State × Actuator). driven t mode b x.0 x.1) (λ (r : Drove). (r.state, r.actuator)) bs (s, a)

-- The actuator before the first call, and after each.
unfoldable pub actuators : Table → Mode → List Brought → State → Actuator → List Actuator
actuators t mode bs s a = a ∷ map (λ (r : Drove). r.actuator) (drives t mode bs s a)

-- Its positions.
unfoldable pub positions : Table → Mode → List Brought → State → Actuator → List ℤ
positions t mode bs s a = map (λ (x : Actuator). x.position) (actuators t mode bs s a)

-- The actuator after k calls, and where it stands. Past the last call, which no promise speaks of, all is zero.
abbrev pub actuator_after : Table → Mode → List Brought → State → Actuator → ℕ → Actuator
actuator_after t mode bs s a k = get_or (actuators t mode bs s a) k (record { position = pos 0; command = pos 0; rate = 0; thread = 0 })

abbrev pub position_after : Table → Mode → List Brought → State → Actuator → ℕ → ℤ
position_after t mode bs s a k = (actuator_after t mode bs s a k).position

-- A position in its range stays there.
abbrev pub RangeKept : Type 0
RangeKept = (t : Table) (mode : Mode) (bs : List Brought) (s : State) (a : Actuator) → InRange a.position
    → (k : ℕ) → k ≤ length bs → InRange (position_after t mode bs s a k)

-- So does a stored command: one that is taken is drawn into the range, and a refused call keeps the last.
abbrev pub CommandKept : Type 0
CommandKept = (t : Table) (mode : Mode) (bs : List Brought) (s : State) (a : Actuator) → InRange a.command
    → (k : ℕ) → k ≤ length bs → InRange (actuator_after t mode bs s a k).command

-- How many calls of a run are steps: a refused call is none.
unfoldable pub steps_among : List Drove → ℕ
steps_among [] = 0
steps_among (r ∷ rs) = pick (eqb r.told.number 0) (suc (steps_among rs)) (steps_among rs)

-- How many of the k calls after the first i are steps.
abbrev pub steps_between : List Drove → ℕ → ℕ → ℕ
steps_between rs i k = steps_among (take k (drop i rs))

-- Positions k steps apart differ by at most k times the rate.
abbrev pub RateKept : Type 0
RateKept = (t : Table) (mode : Mode) (bs : List Brought) (s : State) (a : Actuator) (i k : ℕ) → i + k ≤ length bs
    → distance (position_after t mode bs s a i) (position_after t mode bs s a (i + k)) ≤ steps_between (drives t mode bs s a) i k * a.rate

-- A standing command: each step leaves the command c; a refused call is no step.
pub data Standing (c : ℤ) : List Drove → Type 0 where
  ended : Standing c []
  next : {r : Drove} {rs : List Drove} → r.told.number ≡ 0 → r.actuator.command ≡ c → Standing c rs → Standing c (r ∷ rs)
  passed : {r : Drove} {rs : List Drove} → 0 < r.told.number → Standing c rs → Standing c (r ∷ rs)

-- A command stands where it is the last one already and each call brings a number that is drawn to it.
pub data Brings (c : ℤ) : List Brought → Type 0 where
  no_more : Brings c []
  again : {b : Brought} {bs : List Brought} → drawn b.command ≡ c → Brings c bs → Brings c (b ∷ bs)

abbrev pub BroughtStands : Type 0
BroughtStands = (t : Table) (mode : Mode) (bs : List Brought) (s : State) (a : Actuator) (c : ℤ) → a.command ≡ c → Brings c bs
    → Standing c (drives t mode bs s a)

-- Under it the distance after k steps is the larger of 0 and the first distance less k times the rate: `◌-◌` does not go below 0.
abbrev pub DistanceFalls : Type 0
DistanceFalls = (t : Table) (mode : Mode) (bs : List Brought) (s : State) (a : Actuator) (c : ℤ) → Standing c (drives t mode bs s a)
    → (k : ℕ) → k ≤ length bs
    → distance (position_after t mode bs s a k) c ≡ distance a.position c - steps_between (drives t mode bs s a) 0 k * a.rate

-- q lies between p and c.
pub record Between (p c q : ℤ) : Type 0 where
  pub rising : p ≤ℤ c → (p ≤ℤ q) × (q ≤ℤ c)
  pub falling : c ≤ℤ p → (c ≤ℤ q) × (q ≤ℤ p)

-- It never passes the command: each position lies between the first one and the command, ..
abbrev pub NeverOvershoots : Type 0
NeverOvershoots = (t : Table) (mode : Mode) (bs : List Brought) (s : State) (a : Actuator) (c : ℤ) → Standing c (drives t mode bs s a)
    → (k : ℕ) → k ≤ length bs → Between a.position c (position_after t mode bs s a k)

-- .. and in each call, refused or not, between the one before and the command that stands after it.
abbrev pub CallBetween : Type 0
CallBetween = (t : Table) (mode : Mode) (b : Brought) (s : State) (a : Actuator)
    → Between a.position (driven t mode b s a).actuator.command (driven t mode b s a).actuator.position

-- What the scheduler's part of a drive gives.
abbrev pub step_part : Drove → Taken
step_part r = record { told = r.told; state = r.state }

-- From a fresh start each domain of the table is shown the same of every drive, whatever the commands are.
abbrev pub IsolatedDrives : Table → Mode → Type 0
IsolatedDrives t mode = (d : ℕ) → d < t.domains → (a : Actuator) (us vs : List Brought)
    → SameSteps t d (map (λ (b : Brought). b.input) us) (map (λ (b : Brought). b.input) vs)
    → map (λ (r : Drove). shown_of t d (step_part r)) (drives t mode us (fresh t) a) ≡ map (λ (r : Drove). shown_of t d (step_part r)) (drives t mode vs (fresh t) a)

-- Two runs that demand 3 speaks of, with the same commands.
pub record SameRuns (t : Table) (d : ℕ) (us vs : List Brought) : Type 0 where
  pub steps : SameSteps t d (map (λ (b : Brought). b.input) us) (map (λ (b : Brought). b.input) vs)
  pub commands : map (λ (b : Brought). b.command) us ≡ map (λ (b : Brought). b.command) vs

-- With the same actuator at the start, each domain that may see the pitch thread is given the same positions at every step.
abbrev pub SamePositions : Table → Mode → Type 0
SamePositions t mode = (d : ℕ) → d < t.domains → (a : Actuator) → visible t d a.thread ≡ true → (us vs : List Brought) → SameRuns t d us vs
    → positions t mode us (fresh t) a ≡ positions t mode vs (fresh t) a
