-- Two releases of one thread are at least P steps apart, and in any L steps in a row it is released ceil(L / P) times at most: for an event
-- thread since an early event is lost, for a periodic one since two clocks at phase 0 lie whole periods apart.
use Prim.Native.Nat.{ℕ, suc, ◌+◌, ◌-◌, ◌*◌, ◌/◌, ◌%◌, ◌≤◌, ◌<◌, zero-le}
use mathlib.Core.Path.{◌≡◌, refl, sym, ◌∙◌, ap}
use mathlib.Core.List.{List, [], ◌∷◌}
use mathlib.Core.Bool.{Bool, true, false}
use mathlib.Core.Logic.{◌≢◌}
use native.Mathlib.Nat.{sub-zero, div-add-mod', mod-lt, mul-mod_left, suc-mul, mul-le-mul_right, lt_of_mul-lt-mul_right}
use native.Mathlib.Omega.{arith}
use borrow.Author.Tests.{eqb-true, eqb-false, eq-eqb, ne_eqb, leb-true, le-leb, ltb-true, ltb-false}
use lib.ListN.{length, get_or, take, drop}
use lib.Dec.{eqb, ltb, leb}
use Rattle.basis.specs.Tests.{pick, and}
use Rattle.basis.specs.Ceil.{ceil}
use Rattle.basis.specs.Spaced.{Spaced, happened}
use Rattle.basis.proofs.TestLaws.{by_test, both_ways, either, and_both, and-of, refuted}
use Rattle.basis.proofs.SpacedLaws.{spaced_apart, spaced_sooner, spaced_most, spaced_most_in}
use Rattle.table.specs.Threads.{thread}
use Rattle.table.specs.Legal.{legal, Sized}
use Rattle.table.specs.declared.Table.{Table}
use Rattle.table.specs.declared.Thread.{Thread}
use Rattle.state.specs.State.{progress, Fits}
use Rattle.state.specs.Release.{has_event, by_event, released, release, releases}
use Rattle.state.specs.Methods.{aged, tick}
use Rattle.state.specs.declared.Progress.{Progress}
use Rattle.state.specs.declared.State.{State}
use Rattle.state.proofs.StateLaws.{each_at}
use Rattle.state.proofs.ReleaseLaws.{release-at, release_length, event-released}
use Rattle.state.proofs.TickLaws.{tick-length, aged_grows, aged_stops, aged_periodic}
use Rattle.state.proofs.FitLaws.{usable, longest-event}
use Rattle.frame.specs.Mode.{Mode, threads_at}
use Rattle.frame.proofs.ModeLaws.{at_below}
use Rattle.walk.specs.Walk.{walk}
use Rattle.walk.specs.Step.{Input, ticked, advance, marks_at, step}
use Rattle.walk.specs.Releases.{releases_in}
use Rattle.walk.proofs.WalkLaws.{walk-each, walk-length}
use Rattle.walk.proofs.StepLaws.{step_clock}

-- When a step is a release, by kind.
event-releases : (t : Table) (i mask : ℕ) (s : State) → (thread t i).kind ≡ 1
    → releases t i mask s ≡ and (has_event mask i) (leb (thread t i).period (progress s i).since)
unfolding releases pick
event-releases t i mask s k = rw (eq-eqb _ _ k)

clock_releases : (t : Table) (i mask : ℕ) (s : State) → (thread t i).kind ≢ 1
    → releases t i mask s ≡ and (leb (thread t i).offset s.clock) (eqb ((s.clock - (thread t i).offset) % (thread t i).period) 0)
unfolding releases pick
clock_releases t i mask s k = rw (ne_eqb _ _ k)

-- W s w: from state s on thread i waits w steps for its next release at least. Where every step counts this down, and a release comes with
-- nothing left and sets it to P - 1, the releases are spaced.
module _ (t : Table) (mode : Mode) (i : ℕ) where
  record CountsDown (W : State → ℕ → Type 0) : Type 0 where
    at-release : (x : Input) (s : State) (w : ℕ) → W s w → releases t i x.mask s ≡ true → (w ≡ 0) × W (step t mode x s).state ((thread t i).period - 1)
    else_less : (x : Input) (s : State) (w : ℕ) → W s w → releases t i x.mask s ≡ false → W (step t mode x s).state (w - 1)

  spaced_by : (W : State → ℕ → Type 0) → CountsDown W → (a : List Input) (s : State) (w : ℕ) → W s w
      → Spaced (thread t i).period w (releases_in t mode i a s)
  unfolding releases_in
  spaced_by W c [] s w h = tt
  spaced_by W c (x ∷ more) s w h =
      by_test (releases t i x.mask s)
      (λ e. let r = c.at-release x s w h e in rw e (r.0, spaced_by W c more (step t mode x s).state ((thread t i).period - 1) r.1))
      (λ e. rw e (spaced_by W c more (step t mode x s).state (w - 1) (c.else_less x s w h e)))

-- Event threads. A release sets the steps since release to 0 and else leaves them, ..
module _ (th : Thread) (k : th.kind ≡ 1) (c : ℕ) (e : Bool) (p : Progress) where
  since_reset : and e (leb th.period p.since) ≡ true → (released th c e p).since ≡ 0
  unfolding by_event pick
  since_reset h = rw (event-released th c e p k, h)

  since_kept : and e (leb th.period p.since) ≡ false → (released th c e p).since ≡ p.since
  unfolding by_event pick
  since_kept h = rw (event-released th c e p k, h) (both_ways (λ (q : Progress). q.since ≡ p.since) (leb th.deadline p.since) _ _ refl refl)

-- .. the walk leaves them, and the tick adds one, up to P.
aged_waits : (th : Thread) → th.kind ≡ 1 → (p : Progress) → th.period - (aged th p).since ≡ th.period - p.since - 1
unfolding aged
aged_waits th k p =
    rw (longest-event th k)
    (either (λ (q : Progress). th.period - q.since ≡ th.period - p.since - 1) (ltb p.since th.period)
    (λ e. omega (arith, ltb-true p.since th.period e)) (λ e. omega (arith, ltb-false p.since th.period e)))

module _ (t : Table) (mode : Mode) (x : Input) (s : State) where
  abbrev walked_on : State
  walked_on = (walk (marks_at t mode s.clock) x.bytes (threads_at t mode s.clock) (release t x.mask s)).state

  step-length : length (step t mode x s).state.threads ≡ length s.threads
  unfolding step advance ticked
  step-length = tick-length t _ ∙ walk-length (marks_at t mode s.clock) x.bytes (threads_at t mode s.clock) (release t x.mask s) ∙ release_length t x.mask s

  walk_since : (i : ℕ) → (progress walked_on i).since ≡ (progress (release t x.mask s) i).since
  walk_since i =
      let r : State = release t x.mask s in
      let P : ℕ → Progress → Type 0 = λ j p. p.since ≡ (progress r j).since in
      (walk-each (marks_at t mode s.clock) t.count P (record { pays = λ j p l h. h; finishes = λ j p l h. h }) P (λ j p h. h) (λ j p l h. h)
      x.bytes (threads_at t mode s.clock) r (at_below t mode s.clock) (record { at = λ j. refl })).at i

  step_ages : (i : ℕ) → i < t.count → i < length s.threads → progress (step t mode x s).state i ≡ aged (thread t i) (progress walked_on i)
  unfolding step advance ticked tick
  step_ages i l k =
      each_at (λ j. aged (thread t j)) t.count walked_on i l
      (rw (walk-length (marks_at t mode s.clock) x.bytes (threads_at t mode s.clock) (release t x.mask s), release_length t x.mask s) k)

  -- So over a step they go up by one while an event thread has fewer than P, and stay from then on; a periodic thread's stay.
  step_since : (i n : ℕ) → i < t.count → i < length s.threads → (aged (thread t i) (progress walked_on i)).since ≡ n
      → (progress (step t mode x s).state i).since ≡ n
  step_since i n l k e = ap (λ (p : Progress). p.since) (step_ages i l k) ∙ e

  pub since_grows : (i : ℕ) → i < t.count → i < length s.threads → (thread t i).kind ≡ 1
      → (progress (release t x.mask s) i).since < (thread t i).period
      → (progress (step t mode x s).state i).since ≡ (progress (release t x.mask s) i).since + 1
  since_grows i l k e h =
      step_since i _ l k (aged_grows (thread t i) (progress walked_on i) e (rw (walk_since i) h) ∙ ap (λ n. n + 1) (walk_since i))

  pub since_stops : (i : ℕ) → i < t.count → i < length s.threads → (thread t i).kind ≡ 1
      → (thread t i).period ≤ (progress (release t x.mask s) i).since
      → (progress (step t mode x s).state i).since ≡ (progress (release t x.mask s) i).since
  since_stops i l k e h =
      step_since i _ l k (aged_stops (thread t i) (progress walked_on i) e (rw (walk_since i) h) ∙ walk_since i)

  pub since_periodic : (i : ℕ) → i < t.count → i < length s.threads → (thread t i).kind ≢ 1
      → (progress (step t mode x s).state i).since ≡ (progress (release t x.mask s) i).since
  since_periodic i l k e = step_since i _ l k (aged_periodic (thread t i) (progress walked_on i) e ∙ walk_since i)

  step_waits : (i : ℕ) → i < t.count → i < length s.threads → (thread t i).kind ≡ 1
      → (thread t i).period - (progress (step t mode x s).state i).since
      ≡ (thread t i).period - (released (thread t i) s.clock (has_event x.mask i) (progress s i)).since - 1
  step_waits i l k e =
      let f : Progress → ℕ = λ p. (thread t i).period - p.since in
      ap f (step_ages i l k)
      ∙ aged_waits (thread t i) e (progress walked_on i)
      ∙ ap (λ n. (thread t i).period - n - 1) (walk_since i ∙ ap (λ (p : Progress). p.since) (release-at t x.mask s i l k))

module _ (t : Table) (mode : Mode) (i : ℕ) (l : i < t.count) where
  -- P less the steps since release.
  abbrev ByEvents : State → ℕ → Type 0
  ByEvents s w = (i < length s.threads) × (w ≡ (thread t i).period - (progress s i).since)

  events-count : (thread t i).kind ≡ 1 → CountsDown t mode i ByEvents
  events-count k = record {
    at-release = λ x s w h e.
        let g : and (has_event x.mask i) (leb (thread t i).period (progress s i).since) ≡ true = sym (event-releases t i x.mask s k) ∙ e in
        let full : (thread t i).period ≤ (progress s i).since = leb-true _ _ (and_both (has_event x.mask i) _ g).1 in
        let now : w ≡ (thread t i).period - (progress s i).since = h.1 in
        let z = since_reset (thread t i) k s.clock (has_event x.mask i) (progress s i) g in
        (omega arith, (rw (step-length t mode x s) h.0, omega (arith, step_waits t mode x s i l h.0 k, z)));
    else_less = λ x s w h e.
        let g : and (has_event x.mask i) (leb (thread t i).period (progress s i).since) ≡ false = sym (event-releases t i x.mask s k) ∙ e in
        let z = since_kept (thread t i) k s.clock (has_event x.mask i) (progress s i) g in
        (rw (step-length t mode x s) h.0, omega (arith, h.1, step_waits t mode x s i l h.0 k, z));
  }

-- Periodic threads. The next clock at phase 0 is w steps away: O and some turns of P, and no whole turn too far.
record Due (th : Thread) (c w : ℕ) : Type 0 where
  turns : ℕ
  clock : c + w ≡ th.offset + turns * th.period
  near : turns * th.period < th.period + (c - th.offset)

module _ (th : Thread) (h : 1 ≤ th.period) (c w : ℕ) (d : Due th c w) where
  -- At phase 0 it is now, ..
  due-now : th.offset ≤ c → (c - th.offset) % th.period ≡ 0 → w ≡ 0
  due-now o z =
      let q : ℕ = (c - th.offset) / th.period in
      let e : q * th.period ≡ c - th.offset = omega (arith, div-add-mod' (c - th.offset) th.period) in
      let a : d.turns * th.period < suc q * th.period = omega (arith, d.near, suc-mul q th.period) in
      let b : d.turns * th.period ≤ q * th.period = mul-le-mul_right th.period (omega (arith, lt_of_mul-lt-mul_right th.period a)) in
      omega (arith, d.clock)

  -- .. and then again a whole period later, ..
  due_again : w ≡ 0 → Due th (c + 1) (th.period - 1)
  due_again z = record {
    turns = suc d.turns;
    clock = omega (arith, d.clock, suc-mul d.turns th.period);
    near = omega (arith, d.clock, suc-mul d.turns th.period);
  }

  -- .. and at every other clock it comes one nearer.
  not-now : and (leb th.offset c) (eqb ((c - th.offset) % th.period) 0) ≡ false → 1 ≤ w
  not-now n =
      by_test (eqb w 0)
      (λ e. let z : w ≡ 0 = eqb-true w 0 e in
      let q : c - th.offset ≡ d.turns * th.period = omega (arith, d.clock) in
      refuted (and-of (le-leb th.offset c (omega (arith, d.clock))) (eq-eqb _ _ (ap (λ m. m % th.period) q ∙ mul-mod_left d.turns th.period))) n)
      (λ e. let z = eqb-false w 0 e in omega (arith, z))

  due_nearer : 1 ≤ w → Due th (c + 1) (w - 1)
  due_nearer z = record { turns = d.turns; clock = omega (arith, d.clock); near = omega (arith, d.near) }

module _ (t : Table) (mode : Mode) (i : ℕ) (h : 1 ≤ (thread t i).period) (k : (thread t i).kind ≢ 1) where
  abbrev ByClock : State → ℕ → Type 0
  ByClock s w = Due (thread t i) s.clock w

  clock_counts : CountsDown t mode i ByClock
  clock_counts = record {
    at-release = λ x s w d e.
        let g = and_both (leb (thread t i).offset s.clock) _ (sym (clock_releases t i x.mask s k) ∙ e) in
        let z : w ≡ 0 = due-now (thread t i) h s.clock w d (leb-true _ _ g.0) (eqb-true _ _ g.1) in
        (z, rw (step_clock t mode x s) (due_again (thread t i) h s.clock w d z));
    else_less = λ x s w d e.
        rw (step_clock t mode x s)
        (due_nearer (thread t i) h s.clock w d (not-now (thread t i) h s.clock w d (sym (clock_releases t i x.mask s k) ∙ e)));
  }

  clock_spaced : (a : List Input) (s : State) → Spaced (thread t i).period 0 (releases_in t mode i a s)
  clock_spaced a s =
      let th : Thread = thread t i in
      let c : ℕ = s.clock in
      let q : ℕ = (c - th.offset) / th.period in
      let r : ℕ = (c - th.offset) % th.period in
      let m : q * th.period + r ≡ c - th.offset = div-add-mod' (c - th.offset) th.period in
      let b : r < th.period = mod-lt (c - th.offset) h in
      by_test (eqb r 0)
      (λ e. let z : r ≡ 0 = eqb-true r 0 e in
      spaced_sooner th.period (releases_in t mode i a s) (th.offset - c) 0 zero-le
      (spaced_by t mode i ByClock clock_counts a s (th.offset - c) (record { turns = q; clock = omega arith; near = omega arith })))
      (λ e. let z = eqb-false r 0 e in
      spaced_sooner th.period (releases_in t mode i a s) (th.period - r) 0 zero-le
      (spaced_by t mode i ByClock clock_counts a s (th.period - r)
      (record { turns = suc q; clock = omega (arith, z, suc-mul q th.period); near = omega (arith, z, suc-mul q th.period) })))

length-releases_in : (t : Table) (mode : Mode) (i : ℕ) (a : List Input) (s : State) → length (releases_in t mode i a s) ≡ length a
unfolding releases_in
length-releases_in t mode i [] s = refl
length-releases_in t mode i (x ∷ more) s = ap suc (length-releases_in t mode i more (step t mode x s).state)

-- Both kinds, from every fitting state of a legal table.
module _ (t : Table) (mode : Mode) (ok : legal t ≡ true) (z : Sized t) (i : ℕ) (l : i < t.count) (a : List Input) (s : State) (f : Fits t s) where
  period_low : 1 ≤ (thread t i).period
  period_low = (usable t z ok).period i l

  pub releases_spaced : Spaced (thread t i).period 0 (releases_in t mode i a s)
  releases_spaced =
      by_test (eqb (thread t i).kind 1)
      (λ e. let few : t.count ≤ 32 = (usable t z ok).few in
      let long : length s.threads ≡ 32 = f.long in
      let w : ℕ = (thread t i).period - (progress s i).since in
      spaced_sooner (thread t i).period (releases_in t mode i a s) w 0 zero-le (spaced_by t mode i (ByEvents t mode i l) (events-count t mode i l (eqb-true _ _ e)) a s w (omega arith, refl)))
      (λ e. clock_spaced t mode i period_low (eqb-false _ _ e) a s)

  -- Two releases of one thread are at least P steps apart: the steps j and k of a run.
  pub releases-apart : (j k : ℕ) → j < k → get_or (releases_in t mode i a s) j false ≡ true → get_or (releases_in t mode i a s) k false ≡ true
      → j + (thread t i).period ≤ k
  releases-apart j k h p q = spaced_apart (thread t i).period (releases_in t mode i a s) 0 j k releases_spaced h p q

  -- In a run of L steps a thread is released ceil(L / P) times at most, and so it is in any n steps in a row of a run, from its step j on.
  pub releases-most : happened (releases_in t mode i a s) ≤ ceil (length a) (thread t i).period
  releases-most = rw (length-releases_in t mode i a s, sub-zero (length a)) at (spaced_most (thread t i).period period_low (releases_in t mode i a s) 0 releases_spaced)

  pub releases_most_in : (j n : ℕ) → happened (take n (drop j (releases_in t mode i a s))) ≤ ceil n (thread t i).period
  releases_most_in j n = spaced_most_in (thread t i).period period_low (releases_in t mode i a s) 0 releases_spaced j n
