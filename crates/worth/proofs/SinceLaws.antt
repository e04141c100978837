-- From a release of a thread to its deadline no release touches it: for a periodic thread since the phase counts the steps, for an event
-- thread since its steps since release do, and both stay below P.
use Prim.Native.Nat.{ℕ, ◌+◌, ◌-◌, ◌%◌, ◌≤◌, ◌<◌}
use mathlib.Core.Path.{◌≡◌, ◌∙◌, ap}
use mathlib.Core.Bool.{Bool, true, false}
use mathlib.Core.Logic.{◌≢◌}
use native.Mathlib.Nat.{zero-add, mod-add-mod, mod-eq_of_lt}
use native.Mathlib.Omega.{arith}
use lib.ListN.{length}
use Rattle.table.specs.Threads.{thread}
use Rattle.table.specs.Legal.{Legal}
use Rattle.table.specs.declared.Table.{Table}
use Rattle.table.specs.declared.Thread.{Thread}
use Rattle.state.specs.State.{progress, Fits}
use Rattle.state.specs.Release.{has_event, by_event, released, release, releases, ReleaseDue, by_its_event, by_the_clock}
use Rattle.state.specs.declared.Progress.{Progress}
use Rattle.state.specs.declared.State.{State}
use Rattle.state.proofs.ReleaseLaws.{release-at, clock_released, event-released, other_phases, at-release, at-event, early_event, before_deadline, releases_exactly}
use Rattle.frame.specs.Mode.{unframed}
use Rattle.walk.specs.Step.{Input, step}
use Rattle.walk.proofs.StepLaws.{step_clock}
use Rattle.walk.proofs.ReleasedLaws.{since_grows}

-- Thread i was released n steps before s.
pub data Since (t : Table) (i n : ℕ) (s : State) : Type 0 where
  by_events : (thread t i).kind ≡ 1 → (progress s i).since ≡ n → Since t i n s
  by_clocks : (thread t i).kind ≢ 1 → (thread t i).offset + n ≤ s.clock → (s.clock - (thread t i).offset - n) % (thread t i).period ≡ 0 → Since t i n s

-- n steps after phase 0, and fewer than P, the phase is n.
phase_after : (c o p n : ℕ) → o + n ≤ c → (c - o - n) % p ≡ 0 → n < p → (c - o) % p ≡ n
phase_after c o p n l z h =
    let q : c - o ≡ c - o - n + n = omega arith in
    rw q (rw (← mod-add-mod (c - o - n) p n, z, zero-add, mod-eq_of_lt h))

-- What an event thread does before its deadline: nothing.
quiet-event : (th : Thread) (e : Bool) (p : Progress) → p.since < th.deadline → th.deadline ≤ th.period → by_event th e p ≡ p
quiet-event th true p l d = early_event th p (omega arith) ∙ before_deadline th p l
quiet-event th false p l d = before_deadline th p l

module _ (t : Table) (g : Legal t) (i : ℕ) (l : i < t.count) (x : Input) (s : State) (f : Fits t s) where
  abbrev th : Thread
  th = thread t i

  long : i < length s.threads
  long = omega (arith, f.long, g.count_high)

  abbrev now : progress (release t x.mask s) i ≡ released th s.clock (has_event x.mask i) (progress s i)
  now = release-at t x.mask s i l long

  -- between a release and the deadline no release touches the thread
  pub calm : (n : ℕ) → 1 ≤ n → n < th.deadline → Since t i n s → progress (release t x.mask s) i ≡ progress s i
  calm n a b (by_events k e) =
      now ∙ event-released th s.clock (has_event x.mask i) (progress s i) k
      ∙ quiet-event th (has_event x.mask i) (progress s i) (omega arith) (g.threads i l).deadline_high
  calm n a b (by_clocks k o z) =
      let d : th.deadline ≤ th.period = (g.threads i l).deadline_high in
      let p : (s.clock - th.offset) % th.period ≡ n = phase_after s.clock th.offset th.period n o z (omega arith) in
      now ∙ clock_released th s.clock (has_event x.mask i) (progress s i) k
      ∙ other_phases th s.clock (progress s i) (omega arith) (λ q. omega (arith, p, q)) (omega (arith, p))

  -- and each step is one more since
  pub since_next : (n : ℕ) → 1 ≤ n → n < th.deadline → Since t i n s → Since t i (n + 1) (step t unframed x s).state
  since_next n a b (by_events k e) =
      let d : th.deadline ≤ th.period = (g.threads i l).deadline_high in
      let c : (progress (release t x.mask s) i).since ≡ (progress s i).since = ap (λ (p : Progress). p.since) (calm n a b (by_events k e)) in
      by_events k (since_grows t unframed x s i l long k (omega arith) ∙ ap (λ (m : ℕ). m + 1) (c ∙ e))
  since_next n a b (by_clocks k o z) =
      let c : (step t unframed x s).state.clock ≡ s.clock + 1 = step_clock t unframed x s in
      let q : (step t unframed x s).state.clock - th.offset - (n + 1) ≡ s.clock - th.offset - n = omega arith in
      by_clocks k (omega arith) (rw q z)

  -- a release is one step before the state that it leads to
  pub since_release : releases t i x.mask s ≡ true → Since t i 1 (step t unframed x s).state
  since_release rel = go ((releases_exactly t i x.mask s).0 rel)
    where
      go : ReleaseDue t i x.mask s → Since t i 1 (step t unframed x s).state
      go (by_its_event k h m) =
          let z : (progress (release t x.mask s) i).since ≡ 0
          = ap (λ (p : Progress). p.since) (now ∙ event-released th s.clock (has_event x.mask i) (progress s i) k) ∙ rw h (at-event th (progress s i) m).4 in
          by_events k (since_grows t unframed x s i l long k (omega (arith, (g.threads i l).period_low)) ∙ ap (λ (m : ℕ). m + 1) z)
      go (by_the_clock k o z) =
          let c : (step t unframed x s).state.clock ≡ s.clock + 1 = step_clock t unframed x s in
          let q : (step t unframed x s).state.clock - th.offset - 1 ≡ s.clock - th.offset = omega arith in
          by_clocks k (omega arith) (rw q z)

  -- a release fills both rests and clears the finish mark
  pub record Filled (p : Progress) : Type 0 where
    pub rest : p.rest ≡ th.budget
    pub execution : p.execution ≡ th.budget - th.blocking
    pub unmarked : p.finished ≡ false

  pub fills : releases t i x.mask s ≡ true → Filled (progress (release t x.mask s) i)
  fills rel = rw now (go ((releases_exactly t i x.mask s).0 rel))
    where
      go : ReleaseDue t i x.mask s → Filled (released th s.clock (has_event x.mask i) (progress s i))
      go (by_its_event k h m) =
          let a = at-event th (progress s i) m in
          rw (event-released th s.clock (has_event x.mask i) (progress s i) k, h) (record { rest = a.0; execution = a.1; unmarked = a.2 })
      go (by_the_clock k o z) =
          let a = at-release th s.clock (progress s i) o z in
          rw (clock_released th s.clock (has_event x.mask i) (progress s i) k) (record { rest = a.0; execution = a.1; unmarked = a.2 })
