-- Laws of the ranges: what it is to be within one, and that a thread's fields are in theirs exactly where its plain ranges hold.
use Prim.Native.Nat.{ℕ, zero, suc, ◌+◌, ◌-◌, ◌≤◌, ◌<◌}
use mathlib.Core.Path.{◌≡◌, refl, sym, ◌∙◌, ap}
use mathlib.Core.Bool.{true}
use mathlib.Core.List.{List}
use native.Mathlib.Omega.{arith}
use lib.ListN.{length, get_or, replicate, get_or-replicate}
use lib.Seq.{ext_get_or}
use lib.Dec.{eqb, ltb, leb}
use borrow.Author.Tests.{leb-true, ltb-true, le-leb, lt-ltb, eqb-true, eqb-false, eq-eqb}
use Rattle.basis.specs.Tests.{pick, and, every}
use Rattle.basis.specs.Search.{listed}
use Rattle.basis.proofs.TestLaws.{by_test, both_ways, and_both, every-at}
use Rattle.basis.proofs.ListLaws.{each_at}
use Rattle.basis.proofs.SearchLaws.{listed-all}
use Rattle.table.specs.Threads.{field_count, fields_in, fields, thread_of, Narrow, none}
use Rattle.table.specs.Ranges.{range, within, kinds, field_ranges, field_range}
use Rattle.table.specs.Legal.{field_ok, thread_ok, field_zero, thread_zero, LegalThread}
use Rattle.table.specs.declared.Range.{Range}
use Rattle.table.specs.declared.Thread.{Thread}

pub within_low : (r : Range) (v : ℕ) → within r v ≡ true → r.low ≤ v
unfolding within
within_low r v e = leb-true r.low v (and_both (leb r.low v) (ltb v r.below) e).0

pub within_high : (r : Range) (v : ℕ) → within r v ≡ true → v < r.below
unfolding within
within_high r v e = ltb-true v r.below (and_both (leb r.low v) (ltb v r.below) e).1

pub within-is : (r : Range) (v : ℕ) → r.low ≤ v → v < r.below → within r v ≡ true
unfolding within
within-is r v h k = rw (le-leb r.low v h, lt-ltb v r.below k)

-- The range of a field is decided by the fields before it: from the deadline on, by the period, the offset and the budget.
pub field_range_by : (v d : ℕ) (vs ws : List ℕ) (k : ℕ) → ((j : ℕ) → j < k → get_or vs j 0 ≡ get_or ws j 0) → field_range v d vs k ≡ field_range v d ws k
unfolding field_range field_ranges
field_range_by v d vs ws zero h = refl
field_range_by v d vs ws (suc zero) h = refl
field_range_by v d vs ws (suc (suc zero)) h = refl
field_range_by v d vs ws (suc (suc (suc zero))) h = ap (range 0) (h 2 (omega arith))
field_range_by v d vs ws (suc (suc (suc (suc zero)))) h = ap (λ p. range 1 (p + 1)) (h 2 (omega arith))
field_range_by v d vs ws (suc (suc (suc (suc (suc k))))) h =
    let at : ℕ → ℕ → ℕ → Range = λ p o w. get_or (field_ranges v d p o w) (suc (suc (suc (suc (suc k))))) (range 0 0) in
    ap (λ p. at p (get_or vs 3 0) (get_or vs 4 0)) (h 2 (omega arith)) ∙ ap (λ o. at (get_or ws 2 0) o (get_or vs 4 0)) (h 3 (omega arith))
    ∙ ap (at (get_or ws 2 0) (get_or ws 3 0)) (h 4 (omega arith))

-- A thread is of one of two kinds at most, and periodic in version 1 or with an offset.
kinds-most : (v o : ℕ) → kinds v o ≤ 2
kinds-most v o = both_ways (λ n. n ≤ 2) (and (eqb v 2) (eqb o 0)) 2 1 (omega arith) (omega arith)

kinds_least : (v o : ℕ) → 0 < kinds v o
kinds_least v o = both_ways (λ n. 0 < n) (and (eqb v 2) (eqb o 0)) 2 1 (omega arith) (omega arith)

kinds-two : (v o n : ℕ) → n < kinds v o → n ≡ 1 → (v ≡ 2) × (o ≡ 0)
unfolding pick
kinds-two v o n h e =
    by_test (and (eqb v 2) (eqb o 0))
    (λ t. let b = and_both (eqb v 2) (eqb o 0) t in (eqb-true v 2 b.0, eqb-true o 0 b.1))
    (λ t. let l : n < 1 = rw t at h in absurd (omega arith))

kinds_are : (v o n : ℕ) → n ≤ 1 → (n ≡ 1 → v ≡ 2) → (n ≡ 1 → o ≡ 0) → n < kinds v o
unfolding pick
kinds_are v o n h f g =
    by_test (eqb n 1)
    (λ t. let e : n ≡ 1 = eqb-true n 1 t in rw (eq-eqb v 2 (f e), eq-eqb o 0 (g e)) (omega arith))
    (λ t. let l : n < 1 = omega (arith, eqb-false n 1 t) in
    by_test (and (eqb v 2) (eqb o 0)) (λ u. rw u (omega arith)) (λ u. rw u l))

-- What holds of 7 fields and of 8 holds of those in the bytes of a version.
pub by_fields : (P : ℕ → Type 0) (v : ℕ) → P 7 → P 8 → P (fields_in v)
unfolding fields_in
by_fields P v p q = both_ways P (eqb v 1) 7 8 p q

pub fields_in-most : (v : ℕ) → fields_in v ≤ field_count
fields_in-most v = by_fields (λ n. n ≤ field_count) v (omega arith) (omega arith)

pub fields_in_least : (v : ℕ) → 7 ≤ fields_in v
fields_in_least v = by_fields (λ n. 7 ≤ n) v (omega arith) (omega arith)

fields-in_one : (v : ℕ) → fields_in v < field_count → v ≡ 1
unfolding fields_in pick
fields-in_one v h = by_test (eqb v 1) (λ e. eqb-true v 1 e) (λ e. let l : 8 < 8 = rw e at h in absurd (omega arith))

-- Each range ends where the bytes can hold its numbers.
pub below_small : (v d : ℕ) (vs : List ℕ) (k : ℕ) → d < 65536 → get_or vs 2 0 < 65536 → get_or vs 4 0 < 65536 → (field_range v d vs k).below ≤ 65536
unfolding field_range field_ranges every
below_small v d vs k h p w =
    each_at (λ (r : Range). r.below ≤ 65536) (field_ranges v d (get_or vs 2 0) (get_or vs 3 0) (get_or vs 4 0)) (range 0 0)
    (omega arith, (omega arith, (omega arith, (omega arith, (omega arith, (omega arith, (omega arith, (omega (arith, kinds-most v (get_or vs 3 0)), tt)))))))) (omega arith) k

-- The fields that a thread keeps in one byte are small enough in any table.
pub narrow_by : (v d : ℕ) (vs : List ℕ) → d < 256 → ((k : ℕ) → k < field_count → get_or vs k 0 ≤ (field_range v d vs k).below - 1) → Narrow vs
unfolding field_range field_ranges
narrow_by v d vs h e = record {
  domain = omega (arith, e 0 (omega arith));
  priority = omega (arith, e 1 (omega arith));
  kind = omega (arith, e 7 (omega arith), kinds-most v (get_or vs 3 0));
}

-- A thread has the fields that it was made from, and is made from the fields that it has.
pub fields_back : (vs : List ℕ) → length vs ≡ field_count → fields (thread_of vs) ≡ vs
unfolding listed
fields_back vs e = rw e at (listed-all vs 0)

pub thread_back : (th : Thread) → thread_of (fields th) ≡ th
thread_back th = refl

-- The tests of a thread's fields, by the plain ranges.
pub thread_of_test : (v d : ℕ) (th : Thread) → thread_ok v d th ≡ true → LegalThread v d th
unfolding thread_ok field_ok field_range field_ranges
thread_of_test v d th e =
    let at : (k : ℕ) → k < field_count → field_ok v d (fields th) k ≡ true = λ k h. every-at (field_ok v d (fields th)) field_count k e h in
    record {
      domain_high = within_high (range 0 d) th.domain (at 0 (omega arith));
      priority_high = omega (arith, within_high (range 0 256) th.priority (at 1 (omega arith)));
      period_low = within_low (range 1 60001) th.period (at 2 (omega arith));
      period_high = omega (arith, within_high (range 1 60001) th.period (at 2 (omega arith)));
      offset_high = within_high (range 0 th.period) th.offset (at 3 (omega arith));
      budget_low = within_low (range 1 (th.period + 1)) th.budget (at 4 (omega arith));
      budget_high = omega (arith, within_high (range 1 (th.period + 1)) th.budget (at 4 (omega arith)));
      deadline_low = within_low (range th.budget (th.period + 1)) th.deadline (at 5 (omega arith));
      deadline_high = omega (arith, within_high (range th.budget (th.period + 1)) th.deadline (at 5 (omega arith)));
      blocking_high = omega (arith, within_high (range 0 (th.budget + 1)) th.blocking (at 6 (omega arith)));
      kind_high = omega (arith, within_high (range 0 (kinds v th.offset)) th.kind (at 7 (omega arith)), kinds-most v th.offset);
      kind_version = λ k. (kinds-two v th.offset th.kind (within_high (range 0 (kinds v th.offset)) th.kind (at 7 (omega arith))) k).0;
      kind_offset = λ k. (kinds-two v th.offset th.kind (within_high (range 0 (kinds v th.offset)) th.kind (at 7 (omega arith))) k).1;
    }

pub test_of_thread : (v d : ℕ) (th : Thread) → LegalThread v d th → thread_ok v d th ≡ true
unfolding thread_ok field_ok field_range field_ranges every
test_of_thread v d th g = rw (
  within-is (range 0 d) th.domain (omega arith) g.domain_high,
  within-is (range 0 256) th.priority (omega arith) (omega (arith, g.priority_high)),
  within-is (range 1 60001) th.period g.period_low (omega (arith, g.period_high)),
  within-is (range 0 th.period) th.offset (omega arith) g.offset_high,
  within-is (range 1 (th.period + 1)) th.budget g.budget_low (omega (arith, g.budget_high)),
  within-is (range th.budget (th.period + 1)) th.deadline g.deadline_low (omega (arith, g.deadline_high)),
  within-is (range 0 (th.budget + 1)) th.blocking (omega arith) (omega (arith, g.blocking_high)),
  within-is (range 0 (kinds v th.offset)) th.kind (omega arith)
      (kinds_are v th.offset th.kind g.kind_high g.kind_version g.kind_offset),
)

-- In version 1 every thread is periodic.
pub periodic : (v d : ℕ) (th : Thread) → LegalThread v d th → v ≡ 1 → th.kind ≡ 0
periodic v d th g e =
    by_test (eqb th.kind 1) (λ t. absurd (omega (arith, g.kind_version (eqb-true th.kind 1 t))))
    (λ t. omega (arith, g.kind_high, eqb-false th.kind 1 t))

-- A field that does not stand in the bytes of a version is the kind: it is 0 in a thread of that version, and then in its range.
pub unwritten_zero : (v d : ℕ) (th : Thread) → thread_ok v d th ≡ true → (k : ℕ) → fields_in v ≤ k → k < field_count → get_or (fields th) k 0 ≡ 0
unwritten_zero v d th e k h l =
    let q : k ≡ 7 = omega (arith, fields_in_least v) in
    rw q (periodic v d th (thread_of_test v d th e) (fields-in_one v (omega arith)))

pub unwritten_ok : (v d : ℕ) (vs : List ℕ) (k : ℕ) → fields_in v ≤ k → k < field_count → get_or vs k 0 ≡ 0 → field_ok v d vs k ≡ true
unfolding field_ok field_range field_ranges
unwritten_ok v d vs k h l z =
    let q : k ≡ 7 = omega (arith, fields_in_least v) in
    let y : get_or vs 7 0 ≡ 0 = rw q at z in
    rw (q, y) (within-is (range 0 (kinds v (get_or vs 3 0))) 0 (omega arith) (kinds_least v (get_or vs 3 0)))

pub none_of_test : (th : Thread) → thread_zero th ≡ true → th ≡ none
unfolding thread_zero field_zero
none_of_test th e =
    let at : (k : ℕ) → k < field_count → get_or (fields th) k 0 ≡ 0 = λ k h. eqb-true _ _ (every-at (field_zero (fields th)) field_count k e h) in
    ap thread_of (ext_get_or 0 (fields th) (replicate field_count 0) refl (λ k h. at k h ∙ sym (get_or-replicate field_count k 0 0 h)))

pub none_passes : thread_zero none ≡ true
unfolding thread_zero field_zero every
none_passes = refl
