-- What the two figures of Q-4 are worth, for a class: the prohibition time is an estimate from B that a run may pass, and the figure that holds
-- needs its one W more.
use Rattle.std.specs.Prelude.{ℕ, ◌*◌, ◌≡◌, refl, List, [], ◌∷◌, ◌++◌, replicate}
use Rattle.basis.specs.Tests.{pick}
use Rattle.basis.specs.Ceil.{ceil}
use Rattle.basis.specs.Told.{Told, answered}
use Rattle.table.specs.Threads.{thread}
use Rattle.table.specs.declared.Table.{Table}
use Rattle.example.specs.Example.{table_of, task, example, upper, lower, sent, waiting}
use Rattle.state.specs.State.{fresh}
use Rattle.frame.specs.Mode.{unframed}
use Rattle.walk.specs.Step.{Input, idled_by}
use Rattle.scheduler.specs.Taken.{Taken}
use Rattle.scheduler.specs.Calls.{quietly, calls}
use Rattle.scheduler.specs.Opened.{opened as calls-opened}
use Rattle.admission.specs.Demand.{sum, above}
use Rattle.admission.specs.Prohibition.{prohibiting}
use Rattle.admission.specs.IdleMost.{idling}
use Rattle.admission.specs.Opened.{opened as figures-opened}
use Rattle.worth.specs.Worth.{from}
use Rattle.worth.specs.Account.{idles_told}

-- In one period of thread l from call r on: the idle steps on the account of the threads above it, and its prohibition time.
pub record Prohibited : Type 0 where
  pub idle : ℕ
  pub time : Told

-- The idle steps among these calls on the account of the threads above l.
unfoldable pub idle_above : Table → ℕ → List Taken → ℕ
idle_above t l cs = sum t.count (λ h. pick (above (thread t l) (thread t h)) (idles_told h cs) 0)

-- To open it is to open all that it computes with.
unfoldable pub prohibited : Table → List Input → ℕ → ℕ → Prohibited
unfolding calls-opened figures-opened idled_by idles_told idle_above
prohibited t run l r = record {
  idle = idle_above t l (from r (thread t l).period (calls t unframed run (fresh t)));
  time = prohibiting t l;
}

-- The planner's case: a thread with P 10 and B 2, which runs two steps and waits two, above one with P 25. It prohibits three times, two steps each.
abbrev planned : Table
planned = table_of (3 ∷ 2 ∷ []) (upper ∷ task 0 20 25 0 3 25 0 ∷ [])

abbrev two_and_two : List ℕ
two_and_two = 1 ∷ 1 ∷ 0 ∷ 0 ∷ replicate 6 1

pub three_stretches : prohibited planned (quietly (sent (two_and_two ++ two_and_two ++ two_and_two))) 1 0 ≡ record { idle = 6; time = answered (6 ∷ []) }
unfolding prohibited
three_stretches = refl

-- It is no bound: in document 01's own run of E the processor idles three steps on thread 0's account, in the first period of thread 1.
pub estimate_passed : prohibited example (quietly (sent waiting)) 1 0 ≡ record { idle = 3; time = answered (2 ∷ []) }
unfolding prohibited
estimate_passed = refl

-- And all of W where thread 0 always waits.
pub whole_budget_idled : prohibited example (quietly (sent (replicate 10 0))) 1 0 ≡ record { idle = 4; time = answered (2 ∷ []) }
unfolding prohibited
whole_budget_idled = refl

-- In n calls from call r on: the idle steps on thread h's account, W for each of ceil(n / P) releases, and what `idle_most` tells.
pub record Accounted : Type 0 where
  pub idle : ℕ
  pub releases_alone : ℕ
  pub most : Told

unfoldable pub accounted : Table → List Input → ℕ → ℕ → ℕ → Accounted
unfolding calls-opened figures-opened idled_by idles_told
accounted t run h r n = record {
  idle = idles_told h (from r n (calls t unframed run (fresh t)));
  releases_alone = ceil n (thread t h).period * (thread t h).budget;
  most = idling t h n;
}

-- Above E's two threads a third, with W 6. It runs from its first release on, so that thread 1 waits at the end of its own period; from the second
-- on it waits itself, and thread 1 is reached at once.
abbrev pushed : Table
pushed = table_of (3 ∷ 2 ∷ []) (task 0 40 10 0 6 10 0 ∷ upper ∷ lower ∷ [])

abbrev pushing : List Input
pushing = quietly (replicate 10 (1 ∷ 0 ∷ 1 ∷ []) ++ replicate 4 (0 ∷ 0 ∷ 1 ∷ []))

-- The eight steps from clock 6 on all idle on thread 1's account: twice W, though it is released once in them. The figure is reached.
pub one_more_needed : accounted pushed pushing 1 6 8 ≡ record { idle = 8; releases_alone = 4; most = answered (8 ∷ []) }
unfolding accounted
one_more_needed = refl
