-- The test of a state says exactly that it fits; a fresh state fits, and a release keeps that.
use Prim.Native.Nat.{ℕ, ◌+◌, ◌-◌, ◌≤◌, ◌<◌, zero-le}
use mathlib.Core.Path.{◌≡◌, refl, ◌∙◌}
use mathlib.Core.Bool.{Bool, true, false, not}
use mathlib.Core.Logic.{◌≢◌}
use native.Mathlib.Omega.{arith}
use native.Mathlib.Nat.{le_refl}
use borrow.Author.Tests.{leb-true, le-leb, eq-eqb, ne_eqb, eqb-true, not-true, ltb-true, ltb-false}
use lib.ListN.{length, replicate, get_or-eq_default, length-append, length-replicate}
use lib.Dec.{ltb, leb, eqb}
use Rattle.basis.specs.Tests.{pick}
use Rattle.basis.proofs.TestLaws.{by_test, either, and_both, and-of, every-at, every-all}
use Rattle.basis.specs.Search.{listed}
use Rattle.basis.proofs.SearchLaws.{length-listed, listed_at, listed_past}
use Rattle.table.specs.Threads.{thread}
use Rattle.table.specs.Legal.{legal, Sized, Legal}
use Rattle.table.proofs.LegalLaws.{legal_sound}
use Rattle.table.specs.declared.Table.{Table}
use Rattle.table.specs.declared.Thread.{Thread}
use Rattle.state.specs.declared.Progress.{Progress}
use Rattle.state.specs.declared.State.{State}
use Rattle.state.specs.State.{no_progress, execution_budget, longest_since, ready, fresh, last_clock, used_fits, unused_fits, place_fits, fits, PlaceFits, Fits}
use Rattle.state.specs.Given.{Usable, Each}
use Rattle.state.specs.Release.{has_event, released, release}
use Rattle.state.specs.Methods.{aged}
use Rattle.state.proofs.ReleaseLaws.{release-each, released-one, released-ran}

-- A record is equal to another by its fields; at fields of a variable this is the variable itself.
whole : {a e c n : ℕ} {b : Bool} → a ≡ 0 → e ≡ 0 → b ≡ false → c ≡ 0 → n ≡ 0
    → ◌≡◌ {A = Progress} (record { rest = a; execution = e; finished = b; ran = c; since = n }) no_progress
whole p o q r s = cc

module _ (t : Table) (c : ℕ) where
  place_sound : (i : ℕ) (p : Progress) → place_fits t c i p ≡ true → PlaceFits t c i p
  unfolding place_fits used_fits unused_fits pick
  place_sound i p e = by_test (ltb i t.count)
      (λ l. let b = and_both (leb p.rest (thread t i).budget) _ (rw l at e) in
      let x = and_both (leb p.execution (execution_budget (thread t i))) _ b.1 in
      let y = and_both (leb p.ran c) _ x.1 in
      record {
        rest_high = λ u. leb-true _ _ b.0;
        execution_high = λ u. leb-true _ _ x.0;
        ran_high = leb-true _ _ y.0;
        since_high = λ u. leb-true _ _ y.1;
        unused = λ u. absurd (omega (arith, ltb-true i t.count l));
      })
      (λ l. let b = and_both (eqb p.rest 0) _ (rw l at e) in
      let x = and_both (eqb p.execution 0) _ b.1 in
      let d = and_both (not p.finished) _ x.1 in
      let y = and_both (eqb p.ran 0) _ d.1 in
      let n : p.ran ≡ 0 = eqb-true _ _ y.0 in
      record {
        rest_high = λ u. absurd (omega (arith, ltb-false i t.count l));
        execution_high = λ u. absurd (omega (arith, ltb-false i t.count l));
        ran_high = omega arith;
        since_high = λ u. absurd (omega (arith, ltb-false i t.count l));
        unused = λ u. whole (eqb-true _ _ b.0) (eqb-true _ _ x.0) (not-true _ d.0) n (eqb-true _ _ y.1);
      })

  place_complete : (i : ℕ) (p : Progress) → PlaceFits t c i p → place_fits t c i p ≡ true
  unfolding place_fits used_fits unused_fits pick
  place_complete i p f = by_test (ltb i t.count)
      (λ l. let u = ltb-true i t.count l in
      rw l (and-of (le-leb _ _ (f.rest_high u)) (and-of (le-leb _ _ (f.execution_high u)) (and-of (le-leb _ _ f.ran_high) (le-leb _ _ (f.since_high u))))))
      (λ l. rw (l, f.unused (ltb-false i t.count l)))

  zero-fits : (i : ℕ) → t.count ≤ i → PlaceFits t c i no_progress
  zero-fits i l = record { rest_high = λ u. zero-le; execution_high = λ u. zero-le; ran_high = zero-le; since_high = λ u. zero-le; unused = λ u. refl }

-- The law of `fits`.
pub fits_sound : (t : Table) (s : State) → t.count ≤ 32 → length s.threads ≡ 32 → fits t s ≡ true → Fits t s
unfolding fits
fits_sound t s few h e =
    let b = and_both (leb s.clock last_clock) _ e in
    record {
      clock_high = leb-true _ _ b.0;
      long = h;
      places = λ i. by_test (ltb i 32)
          (λ l. place_sound t s.clock i _ (every-at _ 32 i b.1 (ltb-true i 32 l)))
          (λ l. let k : 32 ≤ i = ltb-false i 32 l in
          rw (get_or-eq_default s.threads no_progress {n = i} (omega arith)) (zero-fits t s.clock i (omega arith)));
    }

pub fits_complete : (t : Table) (s : State) → Fits t s → fits t s ≡ true
unfolding fits
fits_complete t s f = and-of (le-leb _ _ f.clock_high) (every-all _ 32 (λ i l. place_complete t s.clock i _ (f.places i)))

-- The steps since release are P at most where a thread is released by events, and 0 where by the clock.
pub longest-event : (th : Thread) → th.kind ≡ 1 → longest_since th ≡ th.period
unfolding longest_since pick
longest-event th k = rw (eq-eqb _ _ k)

pub longest_periodic : (th : Thread) → th.kind ≢ 1 → longest_since th ≡ 0
unfolding longest_since pick
longest_periodic th k = rw (ne_eqb _ _ k)

-- A fresh state fits its table.
pub fresh-fits : (t : Table) → t.count ≤ 32 → Fits t (fresh t)
unfolding fresh
fresh-fits t few =
    record {
      clock_high = zero-le;
      long = length-append (listed t.count (ready t)) (replicate (32 - t.count) no_progress)
          ∙ rw (length-listed t.count (ready t), length-replicate (32 - t.count) no_progress) (omega arith);
      places = λ i. by_test (ltb i t.count)
          (λ l. rw (listed_at (ready t) t.count i (replicate (32 - t.count) no_progress) no_progress (ltb-true _ _ l))
          (record {
            rest_high = λ u. zero-le;
            execution_high = λ u. zero-le;
            ran_high = zero-le;
            since_high = λ u. le_refl _;
            unused = λ u. absurd (omega (arith, ltb-true i t.count l));
          }))
          (λ l. rw (listed_past (ready t) t.count (32 - t.count) i no_progress (ltb-false _ _ l)) (zero-fits t 0 i (ltb-false _ _ l)));
    }

module _ (t : Table) (c : ℕ) where
  released-fits : (k : ℕ) (e : Bool) (i : ℕ) (p : Progress) → i < t.count → PlaceFits t c i p → PlaceFits t c i (released (thread t i) k e p)
  released-fits k e i p l h =
      let th : Thread = thread t i in
      record {
        rest_high = λ u. released-one (λ x. x.rest ≤ th.budget) th k e p (le_refl _) zero-le (h.rest_high u);
        execution_high = λ u. released-one (λ x. x.execution ≤ execution_budget th) th k e p (le_refl _) zero-le (h.execution_high u);
        ran_high = rw (released-ran th k e p) h.ran_high;
        since_high = λ u. released-one (λ x. x.since ≤ longest_since th) th k e p zero-le (h.since_high u) (h.since_high u);
        unused = λ u. absurd (omega arith);
      }

  pub aged-fits : (i : ℕ) (p : Progress) → i < t.count → PlaceFits t c i p → PlaceFits t c i (aged (thread t i) p)
  unfolding aged
  aged-fits i p l h =
      either (PlaceFits t c i) (ltb p.since (longest_since (thread t i)))
      (λ e. record {
        rest_high = h.rest_high;
        execution_high = h.execution_high;
        ran_high = h.ran_high;
        since_high = λ u. omega (arith, ltb-true p.since (longest_since (thread t i)) e);
        unused = λ u. absurd (omega arith);
      })
      (λ e. h)

  pub later-fits : (i : ℕ) (p : Progress) → PlaceFits t c i p → PlaceFits t (c + 1) i p
  later-fits i p h = record {
    rest_high = h.rest_high;
    execution_high = h.execution_high;
    ran_high = omega (arith, h.ran_high);
    since_high = h.since_high;
    unused = h.unused;
  }

pub release-fits : (t : Table) (mask : ℕ) (s : State) → Fits t s → Each (PlaceFits t s.clock) (release t mask s)
release-fits t mask s f =
    release-each t mask s (PlaceFits t s.clock) (λ i p. released-fits t s.clock s.clock (has_event mask i) i p) (record { at = f.places })

-- What the code needs of a table, from the test that it is legal.
pub usable : (t : Table) → Sized t → legal t ≡ true → Usable t
usable t z e =
    let g : Legal t = legal_sound t z e in
    record { few = g.count_high; period = λ i l. (g.threads i l).period_low }
