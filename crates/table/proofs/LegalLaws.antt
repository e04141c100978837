-- The test of a table passes exactly the legal tables. Between the two stand the test's parts, each taken apart once.
use Prim.Native.Nat.{ℕ, ◌≤◌, ◌<◌}
use mathlib.Core.Path.{◌≡◌, refl, sym, ap}
use mathlib.Core.Bool.{true, false, not, false≢true}
use native.Mathlib.Omega.{arith}
use native.Mathlib.Decide.{dec_lt}
use lib.ListN.{get_or, get_or-eq_default}
use lib.Dec.{eqb, ltb}
use borrow.Author.Tests.{eqb-true, eqb-false, eq-eqb, lt-ltb, le-ltb, not-true, ltb-true, ltb-false}
use Rattle.basis.specs.Tests.{pick, every}
use Rattle.basis.specs.Search.{Sought, nothing, found}
use Rattle.basis.proofs.TestLaws.{by_test, fails, and_both, every-at, every-all, some-false, some-found, Passing}
use Rattle.flow.specs.Flow.{row_ok}
use Rattle.flow.specs.Gap.{Triple, first_gap}
use Rattle.flow.proofs.FlowLaws.{row_known, row_own, row_of}
use Rattle.flow.proofs.GapLaws.{gap-nothing, no_gap, whole-flows, flows-whole}
use Rattle.table.specs.Threads.{none, thread}
use Rattle.table.specs.Ranges.{within, versions, domain_counts, thread_counts}
use Rattle.table.specs.Legal.{row_legal, is_nothing, thread_ok, taken, place_legal, legal, Sized, Legal}
use Rattle.table.specs.declared.Table.{Table}
use Rattle.table.specs.declared.Thread.{Thread}
use Rattle.table.proofs.RangeLaws.{within_low, within_high, within-is, periodic, thread_of_test, test_of_thread, none_of_test, none_passes}

-- The parts of the test, at each row and each thread place.
pub record Parts (t : Table) : Type 0 where
  pub sized : Sized t
  pub version : within versions t.version ≡ true
  pub domains : within domain_counts t.domains ≡ true
  pub count : within thread_counts t.count ≡ true
  pub row : (i : ℕ) → i < t.domains → row_ok t.domains i (get_or t.rows i 0) ≡ true
  pub rows_unused : (i : ℕ) → t.domains ≤ i → get_or t.rows i 0 ≡ 0
  pub whole : first_gap t.rows t.domains ≡ nothing
  pub threads : (i : ℕ) → i < t.count → thread_ok t.version t.domains (thread t i) ≡ true
  pub untaken : (i : ℕ) → i < t.count → taken t.threads i (thread t i).priority ≡ false
  pub threads_unused : (i : ℕ) → t.count ≤ i → thread t i ≡ none

nothing-of : (s : Sought Triple) → is_nothing s ≡ true → s ≡ nothing
nothing-of nothing e = refl
nothing-of (found g) e = absurd (false≢true e)

pub legal_small : (t : Table) → legal t ≡ true → (t.domains ≤ 16) × (t.count ≤ 32) × (t.version ≤ 2)
unfolding legal
legal_small t e =
    let v = and_both (within versions t.version) _ e in
    let a = and_both (within domain_counts t.domains) _ v.1 in
    let b = and_both (within thread_counts t.count) _ a.1 in
    omega (arith, within_high domain_counts t.domains a.0, within_high thread_counts t.count b.0, within_high versions t.version v.0)

module _ (t : Table) (z : Sized t) where
  -- a list's place past its end reads as what is not in use
  pub parts_of_test : legal t ≡ true → Parts t
  unfolding legal row_legal place_legal pick
  parts_of_test e =
      let v = and_both (within versions t.version) _ e in
      let a = and_both (within domain_counts t.domains) _ v.1 in
      let b = and_both (within thread_counts t.count) _ a.1 in
      let c = and_both (every 16 (row_legal t.rows t.domains)) _ b.1 in
      let g = and_both (is_nothing (first_gap t.rows t.domains)) (every 32 (place_legal t)) c.1 in
      let dh : t.domains < 17 = within_high domain_counts t.domains a.0 in
      let nh : t.count < 33 = within_high thread_counts t.count b.0 in
      let row_at : (i : ℕ) → i < 16 → row_legal t.rows t.domains i ≡ true = λ i h. every-at _ 16 i c.0 h in
      let place_at : (i : ℕ) → i < 32 → place_legal t i ≡ true = λ i h. every-at _ 32 i g.1 h in
      let used : (i : ℕ) → i < t.count → (thread_ok t.version t.domains (thread t i) ≡ true) × (not (taken t.threads i (thread t i).priority) ≡ true)
      = λ i h. and_both (thread_ok t.version t.domains (thread t i)) _ (rw (lt-ltb i t.count h) at (place_at i (omega arith))) in
      record {
        sized = z;
        version = v.0;
        domains = a.0;
        count = b.0;
        row = λ i h. rw (lt-ltb i t.domains h) at (row_at i (omega arith));
        rows_unused = λ i h. by_test (ltb i 16)
            (λ l. eqb-true _ _ (rw (le-ltb i t.domains h) at (row_at i (ltb-true i 16 l))))
            (λ l. get_or-eq_default t.rows 0 (rw z.rows (ltb-false i 16 l)));
        whole = nothing-of _ g.0;
        threads = λ i h. (used i h).0;
        untaken = λ i h. not-true _ (used i h).1;
        threads_unused = λ i h. by_test (ltb i 32)
            (λ l. none_of_test (thread t i) (rw (le-ltb i t.count h) at (place_at i (ltb-true i 32 l))))
            (λ l. get_or-eq_default t.threads none (rw z.threads (ltb-false i 32 l)));
      }

module _ (t : Table) (p : Parts t) where
  row_is : (i : ℕ) → i < 16 → row_legal t.rows t.domains i ≡ true
  unfolding row_legal pick
  row_is i h = by_test (ltb i t.domains)
      (λ e. rw e (p.row i (ltb-true i t.domains e)))
      (λ e. rw e (eq-eqb _ _ (p.rows_unused i (ltb-false i t.domains e))))

  place_is : (i : ℕ) → i < 32 → place_legal t i ≡ true
  unfolding place_legal pick
  place_is i h = by_test (ltb i t.count)
      (λ e. let k : i < t.count = ltb-true i t.count e in rw (e, p.threads i k, p.untaken i k))
      (λ e. rw (e, p.threads_unused i (ltb-false i t.count e)) none_passes)

  pub test_of_parts : legal t ≡ true
  unfolding legal
  test_of_parts =
      rw (p.version, p.domains, p.count, every-all (row_legal t.rows t.domains) 16 row_is, p.whole)
      (every-all (place_legal t) 32 place_is)

  before_differs : (i j : ℕ) → i < t.count → j < i → (thread t i).priority ≡ (thread t j).priority → ⊥
  unfolding taken
  before_differs i j h l e = eqb-false _ _ (some-false _ i j (p.untaken i h) l) (sym e)

  pub legal_of_parts : Legal t
  legal_of_parts = record {
    sized = p.sized;
    version_low = within_low versions t.version p.version;
    version_high = omega (arith, within_high versions t.version p.version);
    domains_low = within_low domain_counts t.domains p.domains;
    domains_high = omega (arith, within_high domain_counts t.domains p.domains);
    count_low = within_low thread_counts t.count p.count;
    count_high = omega (arith, within_high thread_counts t.count p.count);
    known = λ i j h e. row_known t.rows t.domains i j (p.row i h) e;
    reflexive = λ i h. row_own t.rows t.domains i (p.row i h);
    transitive = whole-flows t.rows t.domains (gap-nothing t.rows t.domains p.whole);
    rows_unused = p.rows_unused;
    threads = λ i h. thread_of_test t.version t.domains (thread t i) (p.threads i h);
    distinct = λ i j h k e. same i j h k e (dec_lt i j) (dec_lt j i);
    threads_unused = p.threads_unused;
  }
    where
      same : (i j : ℕ) → i < t.count → j < t.count → (thread t i).priority ≡ (thread t j).priority → Dec (i < j) → Dec (j < i) → i ≡ j
      same i j h k e (yes l) d = absurd (before_differs j i k l (sym e))
      same i j h k e (no l) (yes m) = absurd (before_differs i j h m e)
      same i j h k e (no l) (no m) = omega arith

pub parts_of_legal : (t : Table) → Legal t → Parts t
unfolding taken
parts_of_legal t g = record {
  sized = g.sized;
  version = within-is versions t.version g.version_low (omega (arith, g.version_high));
  domains = within-is domain_counts t.domains g.domains_low (omega (arith, g.domains_high));
  count = within-is thread_counts t.count g.count_low (omega (arith, g.count_high));
  row = λ i h. row_of t.rows t.domains i (λ j e. g.known i j h e) (g.reflexive i h);
  rows_unused = g.rows_unused;
  whole = no_gap t.rows t.domains (flows-whole t.rows t.domains g.transitive);
  threads = λ i h. test_of_thread t.version t.domains (thread t i) (g.threads i h);
  untaken = λ i h. fails _ (λ e.
      let f : Passing (λ j. eqb (thread t j).priority (thread t i).priority) i = some-found _ i e in
      let q : f.number ≡ i = g.distinct f.number i (omega (arith, f.below)) h (eqb-true _ _ f.passes) in
      omega (arith, f.below));
  threads_unused = g.threads_unused;
}

-- The test passes only legal tables, and each of them: the law of `legal`.
pub legal_sound : (t : Table) → Sized t → legal t ≡ true → Legal t
legal_sound t z e = legal_of_parts t (parts_of_test t z e)

pub legal_complete : (t : Table) → Legal t → legal t ≡ true
legal_complete t g = test_of_parts t (parts_of_legal t g)

-- A legal table of version 1 has periodic threads alone.
pub all_periodic : (t : Table) → Legal t → t.version ≡ 1 → (i : ℕ) → (thread t i).kind ≡ 0
all_periodic t g e i =
    by_test (ltb i t.count) (λ l. periodic t.version t.domains (thread t i) (g.threads i (ltb-true i t.count l)) e)
    (λ l. ap (λ (th : Thread). th.kind) (g.threads_unused i (ltb-false i t.count l)))
