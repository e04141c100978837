-- Laws of the release: what it keeps, what it sets, and that nothing but a release raises a rest.
use Prim.Native.Nat.{ℕ, ◌-◌, ◌%◌, ◌≤◌, ◌<◌, zero-le}
use mathlib.Core.Path.{◌≡◌, refl, ◌∙◌, ap}
use mathlib.Core.Bool.{Bool, true, false}
use mathlib.Core.Logic.{◌≢◌, ◌↔◌}
use native.Mathlib.Omega.{arith}
use native.Mathlib.Nat.{le_refl}
use borrow.Author.Tests.{lt-ltb, le-ltb, eq-eqb, ne_eqb, eqb-true, eqb-false, ltb-true, ltb-false, leb-true, lt-leb, le-leb}
use lib.ListN.{length}
use lib.Dec.{eqb, ltb, leb}
use Rattle.basis.specs.Tests.{pick, and}
use Rattle.basis.proofs.TestLaws.{by_test, both_ways, either, and_both, and-of, refuted}
use Rattle.table.specs.Threads.{thread}
use Rattle.table.specs.declared.Table.{Table}
use Rattle.table.specs.declared.Thread.{Thread}
use Rattle.state.specs.State.{progress, Fits}
use Rattle.state.specs.Release.{has_event, refilled, cut, at_phase, by_clock, by_event, released, release, releases, ReleaseDue, by_its_event, by_the_clock}
use Rattle.state.specs.Given.{Each}
use Rattle.state.specs.declared.Progress.{Progress}
use Rattle.state.specs.declared.State.{State}
use Rattle.state.proofs.StateLaws.{each_keeps, each_clock, each-length, each_past, each_at, each_out}

module _ (t : Table) (mask : ℕ) (s : State) where
  abbrev own : ℕ → Progress → Progress
  own i = released (thread t i) s.clock (has_event mask i)

  -- A release, thread by thread.
  pub release-each : (P : ℕ → Progress → Type 0) → ((i : ℕ) (p : Progress) → i < t.count → P i p → P i (own i p)) → Each P s → Each P (release t mask s)
  unfolding release
  release-each P k h = each_keeps own P t.count k t.count (le_refl _) s h

  pub release_past : (i : ℕ) → t.count ≤ i → progress (release t mask s) i ≡ progress s i
  unfolding release
  release_past i h = each_past own t.count s i h

  pub release-at : (i : ℕ) → i < t.count → i < length s.threads
      → progress (release t mask s) i ≡ released (thread t i) s.clock (has_event mask i) (progress s i)
  unfolding release
  release-at i h l = each_at own t.count s i h l

  release_out : (i : ℕ) → length s.threads ≤ i → progress (release t mask s) i ≡ progress s i
  unfolding release
  release_out i h = each_out own t.count s i h

  -- It leaves the clock, and the number of places.
  pub release_clock : (release t mask s).clock ≡ s.clock
  unfolding release
  release_clock = each_clock own t.count s

  pub release_length : length (release t mask s).threads ≡ length s.threads
  unfolding release
  release_length = each-length own t.count s

-- A released thread is refilled, cut or left alone, whichever its kind.
pub released-one : (P : Progress → Type 0) (th : Thread) (k : ℕ) (e : Bool) (p : Progress) → P (refilled th p) → P (cut p) → P p → P (released th k e p)
unfolding released by_event by_clock at_phase
released-one P th k e p full none still =
    both_ways P _ _ _ (both_ways P _ _ _ full (both_ways P _ _ _ none still))
    (both_ways P _ _ _ still (both_ways P _ _ _ full (both_ways P _ _ _ none still)))

-- It leaves the counts.
pub released-ran : (th : Thread) (k : ℕ) (e : Bool) (p : Progress) → (released th k e p).ran ≡ p.ran
released-ran th k e p = released-one (λ x. x.ran ≡ p.ran) th k e p refl refl refl

-- A periodic thread goes by the clock, an event thread by its events.
pub clock_released : (th : Thread) (c : ℕ) (e : Bool) (p : Progress) → th.kind ≢ 1 → released th c e p ≡ by_clock th c p
unfolding released pick
clock_released th c e p k = rw (ne_eqb _ _ k)

pub event-released : (th : Thread) (c : ℕ) (e : Bool) (p : Progress) → th.kind ≡ 1 → released th c e p ≡ by_event th e p
unfolding released pick
event-released th c e p k = rw (eq-eqb _ _ k)

-- Phase 0 sets the rest to W and the rest of execution to W - B, clears the finish mark and leaves the count.
pub at-release : (th : Thread) (c : ℕ) (p : Progress) → th.offset ≤ c → (c - th.offset) % th.period ≡ 0
    → ((by_clock th c p).rest ≡ th.budget) × ((by_clock th c p).execution ≡ th.budget - th.blocking)
    × ((by_clock th c p).finished ≡ false) × ((by_clock th c p).ran ≡ p.ran)
unfolding by_clock at_phase pick
at-release th c p late start = rw (le-ltb _ _ late, eq-eqb _ _ start) (refl, refl, refl, refl)

-- Before O nothing happens, ..
pub before_offset : (th : Thread) (c : ℕ) (p : Progress) → c < th.offset → by_clock th c p ≡ p
unfolding by_clock pick
before_offset th c p h = rw (lt-ltb _ _ h)

-- .. phases other than 0 and below D change nothing, ..
pub other_phases : (th : Thread) (c : ℕ) (p : Progress) → th.offset ≤ c → (c - th.offset) % th.period ≢ 0
    → (c - th.offset) % th.period < th.deadline → by_clock th c p ≡ p
unfolding by_clock at_phase pick
other_phases th c p late some early = rw (le-ltb _ _ late, ne_eqb _ _ some, lt-leb _ _ early)

-- .. and from D on both rests are 0, and mark and count stay.
pub past_deadline : (th : Thread) (c : ℕ) (p : Progress) → th.offset ≤ c → (c - th.offset) % th.period ≢ 0
    → th.deadline ≤ (c - th.offset) % th.period → by_clock th c p ≡ cut p
unfolding by_clock at_phase pick
past_deadline th c p late some over = rw (le-ltb _ _ late, ne_eqb _ _ some, le-leb _ _ over)

-- A step is a release of a periodic thread exactly if the clock is at least O and the phase is 0, of an event thread exactly if its event
-- comes P or more steps after its last release.
pub releases_exactly : (t : Table) (i mask : ℕ) (s : State) → (releases t i mask s ≡ true) ↔ ReleaseDue t i mask s
unfolding releases pick
releases_exactly t i mask s = (
  λ e. by_test (eqb (thread t i).kind 1)
      (λ k. let b = and_both (has_event mask i) _ (rw k at e) in by_its_event (eqb-true _ _ k) b.0 (leb-true _ _ b.1))
      (λ k. let b = and_both (leb (thread t i).offset s.clock) _ (rw k at e) in by_the_clock (eqb-false _ _ k) (leb-true _ _ b.0) (eqb-true _ _ b.1)),
  given,
)
  where
    given : ReleaseDue t i mask s → releases t i mask s ≡ true
    given (by_its_event k h l) = rw (eq-eqb _ _ k) (and-of h (le-leb _ _ l))
    given (by_the_clock k h l) = rw (ne_eqb _ _ k) (and-of (le-leb _ _ h) (eq-eqb _ _ l))

-- An event P or more steps after the last release sets both rests, clears the mark, leaves the count, and no steps have passed since, ..
pub at-event : (th : Thread) (p : Progress) → th.period ≤ p.since
    → ((by_event th true p).rest ≡ th.budget) × ((by_event th true p).execution ≡ th.budget - th.blocking)
    × ((by_event th true p).finished ≡ false) × ((by_event th true p).ran ≡ p.ran) × ((by_event th true p).since ≡ 0)
unfolding by_event pick
at-event th p h = rw (le-leb _ _ h) (refl, refl, refl, refl, refl)

-- .. an earlier one is lost: it does what no event does, ..
pub early_event : (th : Thread) (p : Progress) → p.since < th.period → by_event th true p ≡ by_event th false p
unfolding by_event pick
early_event th p h = rw (lt-leb _ _ h)

-- .. and without a release a thread is left alone before D and cut from D on.
pub before_deadline : (th : Thread) (p : Progress) → p.since < th.deadline → by_event th false p ≡ p
unfolding by_event pick
before_deadline th p h = rw (lt-leb _ _ h)

pub after_deadline : (th : Thread) (p : Progress) → th.deadline ≤ p.since → by_event th false p ≡ cut p
unfolding by_event pick
after_deadline th p h = rw (le-leb _ _ h)

-- A cut takes all of both rests, and leaves the finish mark and the count.
pub cut_empties : (p : Progress) → ((cut p).rest ≡ 0) × ((cut p).execution ≡ 0) × ((cut p).finished ≡ p.finished) × ((cut p).ran ≡ p.ran)
cut_empties p = (refl, refl, refl, refl)

-- A release refills, whichever the kind; so the rest is W then.
refills : (t : Table) (i mask : ℕ) (s : State) → releases t i mask s ≡ true
    → released (thread t i) s.clock (has_event mask i) (progress s i) ≡ refilled (thread t i) (progress s i)
unfolding releases released by_event by_clock at_phase pick
refills t i mask s e =
    by_test (eqb (thread t i).kind 1)
    (λ k. let h : and (has_event mask i) (leb (thread t i).period (progress s i).since) ≡ true = rw k at e in rw (k, h))
    (λ k.
    let b = and_both (leb (thread t i).offset s.clock) _ (rw k at e) in
    rw (k, le-ltb s.clock (thread t i).offset (leb-true _ _ b.0), b.1))

pub rest_after_release : (t : Table) (mask : ℕ) (s : State) (i : ℕ) → t.count ≤ 32 → Fits t s → i < t.count → releases t i mask s ≡ true
    → (progress (release t mask s) i).rest ≡ (thread t i).budget
rest_after_release t mask s i few f l e =
    ap (λ (p : Progress). p.rest) (release-at t mask s i l (rw f.long (omega arith)) ∙ refills t i mask s e)

-- A step that is no release of thread i leaves its progress or cuts it; so what a cut does not raise is not raised.
module _ (f : Progress → ℕ) (lower : (p : Progress) → f (cut p) ≤ f p) where
  unreleased : (t : Table) (i mask : ℕ) (s : State) → releases t i mask s ≡ false
      → f (released (thread t i) s.clock (has_event mask i) (progress s i)) ≤ f (progress s i)
  unfolding releases released by_event by_clock at_phase pick
  unreleased t i mask s n =
      let th : Thread = thread t i in
      let p : Progress = progress s i in
      let R : Progress → Type 0 = λ x. f x ≤ f p in
      either R (eqb th.kind 1)
      (λ k. either R (and (has_event mask i) (leb th.period p.since)) (λ q. refuted q (rw k at n))
      (λ q. both_ways R (leb th.deadline p.since) _ _ (lower p) (le_refl _)))
      (λ k. either R (ltb s.clock th.offset) (λ e. le_refl _)
      (λ e. either R (eqb ((s.clock - th.offset) % th.period) 0)
      (λ q. refuted (and-of (le-leb th.offset s.clock (ltb-false s.clock th.offset e)) q) (rw k at n))
      (λ q. both_ways R (leb th.deadline ((s.clock - th.offset) % th.period)) _ _ (lower p) (le_refl _))))

  spends : (t : Table) (i mask : ℕ) (s : State) → releases t i mask s ≡ false → f (progress (release t mask s) i) ≤ f (progress s i)
  spends t i mask s n =
      by_test (ltb i t.count)
      (λ a. by_test (ltb i (length s.threads))
      (λ b. rw (release-at t mask s i (ltb-true _ _ a) (ltb-true _ _ b)) (unreleased t i mask s n))
      (λ b. rw (release_out t mask s i (ltb-false _ _ b)) (le_refl _)))
      (λ a. rw (release_past t mask s i (ltb-false _ _ a)) (le_refl _))

pub release_spends : (t : Table) (i mask : ℕ) (s : State) → releases t i mask s ≡ false
    → (progress (release t mask s) i).rest ≤ (progress s i).rest
release_spends = spends (λ p. p.rest) (λ p. zero-le)

pub release_slows : (t : Table) (i mask : ℕ) (s : State) → releases t i mask s ≡ false
    → (progress (release t mask s) i).execution ≤ (progress s i).execution
release_slows = spends (λ p. p.execution) (λ p. zero-le)
