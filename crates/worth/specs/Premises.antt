-- What each premise of Q-12 is worth, for a class: in each lesson one of them is left out and the others hold, and the thread runs less than
-- W - B of the steps. And no bound can be smaller: one step fewer is too few.
use Rattle.std.specs.Prelude.{ℕ, ◌≡◌, refl, List, [], ◌∷◌, ◌++◌, map, Bool, true, false, get_or, take, replicate}
use Rattle.basis.specs.Told.{Told, answered}
use Rattle.basis.specs.Turns.{after}
use Rattle.table.specs.Threads.{thread}
use Rattle.table.specs.declared.Table.{Table}
use Rattle.example.specs.Example.{table_of, task, event, in_version, example, upper, lower, sent}
use Rattle.state.specs.State.{no_progress, with_rest, with_execution, fresh, execution_budget}
use Rattle.state.specs.Release.{releases}
use Rattle.state.specs.declared.State.{State}
use Rattle.frame.specs.Frame.{no_window}
use Rattle.frame.specs.Mode.{Mode, unframed, framed}
use Rattle.walk.specs.Step.{Input, quiet, ran_by}
use Rattle.scheduler.specs.Taken.{Taken, taken}
use Rattle.scheduler.specs.Calls.{quietly, calls}
use Rattle.scheduler.specs.Opened.{opened as calls-opened}
use Rattle.admission.specs.Bounded.{bounding}
use Rattle.admission.specs.Opened.{opened as bounds-opened}
use Rattle.worth.specs.Worth.{from, numbers, bytes_of, runs_told}

-- What there is to see of a thread in n calls from call r on: what `bound_of` tells of it, whether call r is a release of it, the calls'
-- numbers, its bytes, its W - B, and how many of the calls answer that it ran.
pub record Seen : Type 0 where
  pub bound : Told
  pub release : Bool
  pub numbers : List ℕ
  pub bytes : List ℕ
  pub worth : ℕ
  pub ran : ℕ

-- In a mode and from a state. To open it is to open all that it computes with.
unfoldable pub seen : Table → Mode → State → ℕ → List Input → ℕ → ℕ → Seen
unfolding calls-opened bounds-opened ran_by runs_told
seen t mode s i run r n = record {
  bound = bounding t i;
  release = releases t i (get_or run r (quiet [])).mask (after (taken t mode) (λ (c : Taken). c.state) (take r run) s);
  numbers = numbers (from r n (calls t mode run s));
  bytes = bytes_of i (from r n run);
  worth = execution_budget (thread t i);
  ran = runs_told i (from r n (calls t mode run s));
}

-- Thread 1 of example E: its bound is 7, and it has W 3 and B 0. Both threads send 1 always.
abbrev both_run : List Input
both_run = quietly (sent (replicate 20 1))

abbrev thread_1 : Table → Mode → List Input → ℕ → ℕ → Seen
thread_1 t mode run r n = seen t mode (fresh t) 1 run r n

-- As Q-12 has it: from its release at clock 10 on it runs three of seven steps.
pub bought : thread_1 example unframed both_run 10 7
    ≡ record { bound = answered (7 ∷ []); release = true; numbers = replicate 7 0; bytes = replicate 7 1; worth = 3; ran = 3 }
unfolding seen
bought = refl

-- The bound is tight: in six steps it runs two.
pub one_step_fewer : thread_1 example unframed both_run 10 6
    ≡ record { bound = answered (7 ∷ []); release = true; numbers = replicate 6 0; bytes = replicate 6 1; worth = 3; ran = 2 }
unfolding seen
one_step_fewer = refl

-- Without a bound: with W 7 it has none (K-6), and in all the ten steps to its deadline it runs six.
abbrev seven : Table
seven = table_of (3 ∷ 2 ∷ []) (upper ∷ task 0 20 10 0 7 10 0 ∷ [])

pub without_a_bound : thread_1 seven unframed both_run 10 10
    ≡ record { bound = answered []; release = true; numbers = replicate 10 0; bytes = replicate 10 1; worth = 7; ran = 6 }
unfolding seen
without_a_bound = refl

-- From a clock that is no release: from clock 5 on it runs two of seven steps.
pub from_no_release : thread_1 example unframed both_run 5 7
    ≡ record { bound = answered (7 ∷ []); release = false; numbers = replicate 7 0; bytes = replicate 7 1; worth = 3; ran = 2 }
unfolding seen
from_no_release = refl

-- With other bytes: thread 1 finishes, or waits, at clock 5, its second step.
abbrev then : ℕ → List Input
then b = quietly (replicate 5 (1 ∷ 1 ∷ []) ++ ((1 ∷ b ∷ []) ∷ replicate 4 (1 ∷ 1 ∷ [])))

pub with_a_finish : thread_1 example unframed (then 2) 0 7
    ≡ record { bound = answered (7 ∷ []); release = true; numbers = replicate 7 0; bytes = replicate 5 1 ++ (2 ∷ 1 ∷ []); worth = 3; ran = 1 }
unfolding seen
with_a_finish = refl

pub with_a_wait : thread_1 example unframed (then 0) 0 7
    ≡ record { bound = answered (7 ∷ []); release = true; numbers = replicate 7 0; bytes = replicate 5 1 ++ (0 ∷ 1 ∷ []); worth = 3; ran = 2 }
unfolding seen
with_a_wait = refl

-- With a frame: two steps of domain 1, in which thread 0 is walked alone, then three of domain 0, and so on.
abbrev windows : Mode
windows = framed (record { count = 2; windows = record { domain = 1; length = 2 } ∷ record { domain = 0; length = 3 } ∷ replicate 62 no_window })

pub with_a_frame : thread_1 example windows both_run 10 7
    ≡ record { bound = answered (7 ∷ []); release = true; numbers = replicate 7 0; bytes = replicate 7 1; worth = 3; ran = 1 }
unfolding seen
with_a_frame = refl

-- Where the run does not make x steps: call 2 brings an event for thread 0, which is periodic, and is refused with 18.
abbrev wrong_mask : List Input
wrong_mask = map (λ (m : ℕ). record { mask = m; bytes = 1 ∷ 1 ∷ [] }) (0 ∷ 0 ∷ 1 ∷ replicate 7 0)

pub with_a_refusal : thread_1 example unframed wrong_mask 0 7
    ≡ record { bound = answered (7 ∷ []); release = true; numbers = 0 ∷ 0 ∷ 18 ∷ replicate 4 0; bytes = replicate 7 1; worth = 3; ran = 2 }
unfolding seen
with_a_refusal = refl

-- From a state that only fits: thread 0 is released at clock 5 for the first time, and has a rest of 4 at clock 0.
abbrev later : Table
later = table_of (3 ∷ 2 ∷ []) (task 1 30 10 5 4 10 2 ∷ lower ∷ [])

abbrev stale : State
stale = record { clock = 0; threads = with_rest 4 (with_execution 2 no_progress) ∷ replicate 31 no_progress }

pub from_no_fresh_start : seen later unframed stale 1 both_run 0 7
    ≡ record { bound = answered (7 ∷ []); release = true; numbers = replicate 7 0; bytes = replicate 7 1; worth = 3; ran = 1 }
unfolding seen
from_no_fresh_start = refl

-- Event threads, P 10 both: thread 0 has an event at each step from clock 3 on, of which those at clocks 3 and 13 release it, and thread 1,
-- with W 2 and a bound of 6, one at clock 3.
abbrev events : Table
events = in_version 2 (table_of (3 ∷ 2 ∷ []) (event 1 30 10 4 10 2 ∷ event 0 20 10 2 10 0 ∷ []))

abbrev with_events : List Input
with_events = map (λ (m : ℕ). record { mask = m; bytes = 1 ∷ 1 ∷ [] }) (0 ∷ 0 ∷ 0 ∷ 3 ∷ replicate 10 1)

pub event_bought : thread_1 events unframed with_events 3 6
    ≡ record { bound = answered (6 ∷ []); release = true; numbers = replicate 6 0; bytes = replicate 6 1; worth = 2; ran = 2 }
unfolding seen
event_bought = refl

pub event_one_step_fewer : thread_1 events unframed with_events 3 5
    ≡ record { bound = answered (6 ∷ []); release = true; numbers = replicate 5 0; bytes = replicate 5 1; worth = 2; ran = 1 }
unfolding seen
event_one_step_fewer = refl
