-- Part 1 of a step: the release, by the clock or by an event.
use Rattle.std.specs.Prelude.{ℕ, ◌-◌, ◌/◌, ◌%◌, ◌^◌, ◌≤◌, ◌≡◌, ◌≢◌, Bool, true, false, eqb, ltb, leb}
use Rattle.basis.specs.Tests.{pick, and}
use Rattle.table.specs.Threads.{thread}
use Rattle.table.specs.declared.Table.{Table}
use Rattle.table.specs.declared.Thread.{Thread}
use Rattle.state.specs.State.{with_rest, with_execution, with_finished, with_since, execution_budget, progress, each_thread}
use Rattle.state.specs.declared.Progress.{Progress}
use Rattle.state.specs.declared.State.{State}

-- Thread i has an event in a step whose mask this is.
unfoldable pub has_event : ℕ → ℕ → Bool
has_event mask i = eqb (mask / 2 ^ i % 2) 1

-- A release sets the rest to W and the rest of execution to W - B and clears the finish mark; no steps have passed since.
abbrev pub refilled : Thread → Progress → Progress
refilled th p = with_finished false (with_execution (execution_budget th) (with_rest th.budget (with_since 0 p)))

-- At the deadline both rests are lost.
abbrev pub cut : Progress → Progress
cut p = with_execution 0 (with_rest 0 p)

-- Phase 0 releases, phase D or more is past the deadline, other phases change nothing.
unfoldable pub at_phase : Thread → ℕ → Progress → Progress
at_phase th f p = pick (eqb f 0) (refilled th p) (pick (leb th.deadline f) (cut p) p)

-- A periodic thread: before O nothing happens; from then on the phase is (clock - O) mod P.
unfoldable pub by_clock : Thread → ℕ → Progress → Progress
by_clock th c p = pick (ltb c th.offset) p (at_phase th ((c - th.offset) % th.period) p)

-- An event thread: an event releases it unless fewer than P steps have passed since its last release; D or more steps after that release
-- it is past its deadline.
unfoldable pub by_event : Thread → Bool → Progress → Progress
by_event th e p = pick (and e (leb th.period p.since)) (refilled th p) (pick (leb th.deadline p.since) (cut p) p)

unfoldable pub released : Thread → ℕ → Bool → Progress → Progress
released th c e p = pick (eqb th.kind 1) (by_event th e p) (by_clock th c p)

-- Every thread released, in a step with this mask.
unfoldable pub release : Table → ℕ → State → State
release t mask s = each_thread (λ i. released (thread t i) s.clock (has_event mask i)) t.count s

-- A step with this mask from this state is a release of thread i: an event that is not too early, or by the clock at least O and phase 0.
unfoldable pub releases : Table → ℕ → ℕ → State → Bool
releases t i mask s =
    pick (eqb (thread t i).kind 1) (and (has_event mask i) (leb (thread t i).period (progress s i).since))
    (and (leb (thread t i).offset s.clock) (eqb ((s.clock - (thread t i).offset) % (thread t i).period) 0))

-- The plain reading of a release, by the thread's kind.
pub data ReleaseDue (t : Table) (i mask : ℕ) (s : State) : Type 0 where
  by_its_event : (thread t i).kind ≡ 1 → has_event mask i ≡ true → (thread t i).period ≤ (progress s i).since → ReleaseDue t i mask s
  by_the_clock : (thread t i).kind ≢ 1 → (thread t i).offset ≤ s.clock → (s.clock - (thread t i).offset) % (thread t i).period ≡ 0
      → ReleaseDue t i mask s
