-- What the methods on the state do, each to one thread or to the clock.
use Rattle.std.specs.Prelude.{ℕ, ◌+◌, ◌-◌, true, ltb}
use Rattle.basis.specs.Tests.{pick}
use Rattle.table.specs.Threads.{thread}
use Rattle.table.specs.declared.Table.{Table}
use Rattle.table.specs.declared.Thread.{Thread}
use Rattle.state.specs.State.{with_rest, with_execution, with_finished, with_count, with_since, longest_since, progress, put, each_thread}
use Rattle.state.specs.declared.Progress.{Progress}
use Rattle.state.specs.declared.State.{State}

-- A reached thread pays one.
abbrev pub paid : Progress → Progress
paid p = with_rest (p.rest - 1) p

unfoldable pub pay : State → ℕ → State
pay s i = put s i (paid (progress s i))

-- Finish sets the finish mark.
abbrev pub done : Progress → Progress
done p = with_finished true p

unfoldable pub finish : State → ℕ → State
finish s i = put s i (done (progress s i))

-- The count of a thread that runs goes up by one, and its rest of execution down.
abbrev pub counted : Progress → Progress
counted p = with_execution (p.execution - 1) (with_count (p.ran + 1) p)

unfoldable pub count : State → ℕ → State
count s i = put s i (counted (progress s i))

-- The steps since a thread's release go up by one with the clock: P at most, and only where it is released by events.
unfoldable pub aged : Thread → Progress → Progress
aged th p = pick (ltb p.since (longest_since th)) (with_since (p.since + 1) p) p

-- The clock goes up by one, and with it the steps since each release.
unfoldable pub tick : Table → State → State
tick t s = record { clock = s.clock + 1; threads = (each_thread (λ i. aged (thread t i)) t.count s).threads }
