-- What admission buys (Q-12), for tables without a frame: from a fresh start, take a thread with a bound x and one of its releases from
-- which, that step counted, the run makes x steps. If its byte is 1 at each of those x steps, then it runs W - B of them, whatever the other
-- threads send. Event threads count, by their least gap P: bounds and releases are those of both kinds.
use Rattle.std.specs.Prelude.{ℕ, ◌+◌, ◌-◌, ◌%◌, ◌≤◌, ◌≡◌, List, [], ◌∷◌, map, true, ◌≢◌, length, get_or, take, drop, replicate}
use Rattle.basis.specs.Told.{answered}
use Rattle.basis.specs.Turns.{after}
use Rattle.table.specs.Threads.{thread}
use Rattle.table.specs.declared.Table.{Table}
use Rattle.state.specs.State.{progress, fresh, last_clock, execution_budget}
use Rattle.state.specs.Release.{releases}
use Rattle.state.specs.declared.State.{State}
use Rattle.frame.specs.Mode.{unframed}
use Rattle.walk.specs.Step.{Input, quiet, ran_by}
use Rattle.walk.specs.Paid.{payments}
use Rattle.scheduler.specs.Taken.{Taken, answer_of, taken}
use Rattle.scheduler.specs.Calls.{calls, WholeSteps}
use Rattle.admission.specs.Bounded.{bounding}

-- The n entries of a list from place r on.
abbrev pub from : {A : Type 0} → ℕ → ℕ → List A → List A
from r n l = take n (drop r l)

-- The state after calls in turn.
abbrev pub after_calls : Table → List Input → State → State
after_calls t a s = after (taken t unframed) (λ (c : Taken). c.state) a s

-- A run of calls from a fresh start: what each call gives, and the state that call r is handed.
abbrev pub calls_of : Table → List Input → List Taken
calls_of t run = calls t unframed run (fresh t)

abbrev pub state_at : Table → List Input → ℕ → State
state_at t run r = after_calls t (take r run) (fresh t)

-- Call r is a release of thread i.
abbrev pub ReleasedAt : Table → ℕ → List Input → ℕ → Type 0
ReleasedAt t i run r = releases t i (get_or run r (quiet [])).mask (state_at t run r) ≡ true

-- The number that each call is given: 0 for a step.
abbrev pub numbers : List Taken → List ℕ
numbers cs = map (λ (c : Taken). c.told.number) cs

-- Thread i's byte at each step.
abbrev pub bytes_of : ℕ → List Input → List ℕ
bytes_of i a = map (λ (y : Input). get_or y.bytes i 0) a

-- How many of these calls answer that thread i ran.
unfoldable pub runs_told : ℕ → List Taken → ℕ
runs_told i [] = 0
runs_told i (c ∷ more) = ran_by i (answer_of c.told.values) + runs_told i more

-- A thread with a bound x, and one of its releases from which, that step counted, the run makes x steps.
pub record BoundedRelease (t : Table) (i x r : ℕ) (run : List Input) : Type 0 where
  -- `bound_of` tells x, so the table is legal and has a thread i
  pub bounded : bounding t i ≡ answered (x ∷ [])
  pub release : ReleasedAt t i run r
  -- from there on x calls are given 0; of those before it some may have been refused, and are no steps
  pub makes : numbers (from r x (calls_of t run)) ≡ replicate x 0

-- What it runs in those x steps, by their answers and by its count: W - B.
pub record Bought (t : Table) (i x r : ℕ) (run : List Input) : Type 0 where
  pub runs : runs_told i (from r x (calls_of t run)) ≡ execution_budget (thread t i)
  pub counts : (progress (state_at t run (r + x)) i).ran ≡ (progress (state_at t run r) i).ran + execution_budget (thread t i)

-- Q-12: for every thread that has a bound, each of its releases, and every run in which its byte is 1 at each of those x steps.
abbrev pub Worth : Table → Type 0
Worth t = (i x r : ℕ) (run : List Input) → BoundedRelease t i x r run → bytes_of i (from r x run) ≡ replicate x 1 → Bought t i x r run

-- The core of it: in those x steps the thread pays W, whatever anybody sends, itself included.
abbrev pub PaysBudget : Table → Type 0
PaysBudget t = (i x r : ℕ) (run : List Input) → BoundedRelease t i x r run
    → payments t unframed i (from r x run) (state_at t run r) ≡ (thread t i).budget

-- In a run in which no call is refused call r stands at clock r, and a periodic thread is released there if r is O or later and the phase is 0.
pub record ClockRelease (t : Table) (i x r : ℕ) (run : List Input) : Type 0 where
  pub bounded : bounding t i ≡ answered (x ∷ [])
  pub periodic : (thread t i).kind ≢ 1
  pub begun : (thread t i).offset ≤ r
  pub phase : (r - (thread t i).offset) % (thread t i).period ≡ 0
  pub whole : WholeSteps t run
  pub calls : r + x ≤ length run
  pub clocks : length run ≤ last_clock
