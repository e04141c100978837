-- The state: a clock, and for each thread the rest of its budget, its rest of execution, a finish mark, a count of steps run and, where it
-- is released by events, its steps since release.
use Rattle.std.specs.Prelude.{ℕ, zero, suc, ◌-◌, ◌≤◌, ◌<◌, ◌≡◌, [], ◌++◌, Bool, false, not, length, get_or, set, replicate, eqb, ltb, leb, Result}
use Rattle.basis.specs.Tests.{pick, and, every}
use Rattle.basis.specs.Search.{listed}
use Rattle.basis.specs.Told.{Told, answered, refused}
use Rattle.basis.specs.Refusals.{told_done, given_or}
use Rattle.table.specs.Threads.{thread}
use Rattle.table.specs.Legal.{legal}
use Rattle.table.specs.declared.Table.{Table}
use Rattle.table.specs.declared.Thread.{Thread}
use Rattle.state.specs.declared.Progress.{Progress}
use Rattle.basis.specs.declared.refusal.Refusal.{Refusal}
use Rattle.state.specs.declared.State.{State}

-- A progress is written out here only: what stands in a place that is not in use, zero and unmarked, and one with another value for a field.
abbrev pub no_progress : Progress
no_progress = record { rest = 0; execution = 0; finished = false; ran = 0; since = 0 }

abbrev pub with_rest : ℕ → Progress → Progress
with_rest n p = record { rest = n; execution = p.execution; finished = p.finished; ran = p.ran; since = p.since }

abbrev pub with_execution : ℕ → Progress → Progress
with_execution n p = record { rest = p.rest; execution = n; finished = p.finished; ran = p.ran; since = p.since }

abbrev pub with_finished : Bool → Progress → Progress
with_finished b p = record { rest = p.rest; execution = p.execution; finished = b; ran = p.ran; since = p.since }

abbrev pub with_count : ℕ → Progress → Progress
with_count n p = record { rest = p.rest; execution = p.execution; finished = p.finished; ran = n; since = p.since }

abbrev pub with_since : ℕ → Progress → Progress
with_since n p = record { rest = p.rest; execution = p.execution; finished = p.finished; ran = p.ran; since = n }

-- The progress of thread i, and the state with another progress for it.
abbrev pub progress : State → ℕ → Progress
progress s i = get_or s.threads i no_progress

abbrev pub put : State → ℕ → Progress → State
put s i p = record { clock = s.clock; threads = set s.threads i p }

-- The state with each of its first n threads changed by f, which is told the thread's number.
unfoldable pub each_thread : (ℕ → Progress → Progress) → ℕ → State → State
each_thread f zero s = s
each_thread f (suc n) s = put (each_thread f n s) n (f n (progress (each_thread f n s) n))

-- All zero, no mark.
abbrev pub no_state : State
no_state = record { clock = 0; threads = replicate 32 no_progress }

-- The steps since release that a thread has at most, and has when fresh: P where it is released by events, 0 where by the clock.
unfoldable pub longest_since : Thread → ℕ
longest_since th = pick (eqb th.kind 1) th.period 0

-- Fresh: all zero, no mark, and each event thread ready for an event.
abbrev pub ready : Table → ℕ → Progress
ready t i = with_since (longest_since (thread t i)) no_progress

unfoldable pub fresh : Table → State
fresh t = record { clock = 0; threads = listed t.count (ready t) ++ replicate (32 - t.count) no_progress }

-- `fresh` of a table: 11 where it is not legal, and then all zero.
abbrev pub told : Result State Refusal → Told
told r = told_done r

unfoldable pub starting : Table → Told
starting t = pick (legal t) (answered []) (refused 11)

unfoldable pub fresh_given : Table → State
fresh_given t = pick (legal t) (fresh t) no_state

-- What an answer of the code gives beside.
abbrev pub given : Result State Refusal → State
given r = given_or no_state r

-- The last clock: a step is refused there.
abbrev pub last_clock : ℕ
last_clock = 1000000000

-- How many steps a thread may run from one release to the next: W - B.
abbrev pub execution_budget : Thread → ℕ
execution_budget th = th.budget - th.blocking

-- A thread's progress fits at clock c: its rest is at most W, its rest of execution at most W - B, its count at most the clock, and its
-- steps since release at most P, and 0 where it is periodic.
unfoldable pub used_fits : Thread → ℕ → Progress → Bool
used_fits th c p =
    and (leb p.rest th.budget) (and (leb p.execution (execution_budget th)) (and (leb p.ran c) (leb p.since (longest_since th))))

-- What stands past the last thread is zero and unmarked.
unfoldable pub unused_fits : Progress → Bool
unused_fits p = and (eqb p.rest 0) (and (eqb p.execution 0) (and (not p.finished) (and (eqb p.ran 0) (eqb p.since 0))))

unfoldable pub place_fits : Table → ℕ → ℕ → Progress → Bool
place_fits t c i p = pick (ltb i t.count) (used_fits (thread t i) c p) (unused_fits p)

unfoldable pub fits : Table → State → Bool
fits t s = and (leb s.clock last_clock) (every 32 (λ i. place_fits t s.clock i (progress s i)))

-- The plain reading of a place that fits.
pub record PlaceFits (t : Table) (c i : ℕ) (p : Progress) : Type 0 where
  pub rest_high : i < t.count → p.rest ≤ (thread t i).budget
  pub execution_high : i < t.count → p.execution ≤ execution_budget (thread t i)
  pub ran_high : p.ran ≤ c
  pub since_high : i < t.count → p.since ≤ longest_since (thread t i)
  pub unused : t.count ≤ i → p ≡ no_progress

-- The plain reading of a state that fits its table.
pub record Fits (t : Table) (s : State) : Type 0 where
  pub clock_high : s.clock ≤ last_clock
  pub long : length s.threads ≡ 32
  pub places : (i : ℕ) → PlaceFits t s.clock i (progress s i)
