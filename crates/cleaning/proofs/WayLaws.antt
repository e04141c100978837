-- What the scan is handed of a legal table says of two threads what the table says: so the scan's cleanings are the table's.
use Prim.Native.Nat.{ℕ, ◌+◌, ◌%◌, ◌<◌, ◌≤◌}
use mathlib.Core.Path.{◌≡◌, sym, ◌∙◌, ap, subst}
use mathlib.Core.List.{List}
use mathlib.Core.Bool.{Bool, true, not}
use native.Mathlib.Omega.{arith}
use borrow.Author.Tests.{ltb-true, lt-ltb, eqb-true, eqb-false}
use lib.Dec.{eqb, ltb}
use lib.ListN.{length, get_or, set, length-set}
use lib.Seq.{get_or-set_same, get_or-set_other}
use Rattle.basis.specs.Tests.{pick, and, every}
use Rattle.basis.proofs.TestLaws.{by_test, and_both, every-at}
use Rattle.flow.specs.Flow.{flows}
use Rattle.flow.specs.Gap.{first_gap}
use Rattle.table.specs.Legal.{row_legal, is_nothing, thread_ok, place_legal, legal}
use Rattle.table.specs.Ranges.{versions, domain_counts, thread_counts, within}
use Rattle.table.specs.Threads.{thread}
use Rattle.table.specs.declared.Table.{Table}
use Rattle.table.proofs.LegalLaws.{legal_small}
use Rattle.table.proofs.RangeLaws.{thread_of_test}
use Rattle.cleaning.specs.Cleanings.{nobody, may_pass, must_clean, cleaned, cleanings}
use Rattle.cleaning.specs.Scan.{Ways, passes, barred, scanned}

module _ (t : Table) (g : legal t ≡ true) where
  places : every 32 (place_legal t) ≡ true
  unfolding legal
  places =
      let v = and_both (within versions t.version) _ g in
      let a = and_both (within domain_counts t.domains) _ v.1 in
      let b = and_both (within thread_counts t.count) _ a.1 in
      let c = and_both (every 16 (row_legal t.rows t.domains)) _ b.1 in
      (and_both (is_nothing (first_gap t.rows t.domains)) (every 32 (place_legal t)) c.1).1

  small_domain : (i : ℕ) → i < t.count → (thread t i).domain < 16
  unfolding place_legal pick
  small_domain i l =
      let few = legal_small t g in
      let place : place_legal t i ≡ true = every-at (place_legal t) 32 i places (omega (arith, few.1, l)) in
      let ok : thread_ok t.version t.domains (thread t i) ≡ true = (and_both (thread_ok t.version t.domains (thread t i)) _ (rw (lt-ltb i t.count l) at place)).0 in
      omega (arith, few.0, (thread_of_test t.version t.domains (thread t i) ok).domain_high)

  module _ (w : List ℕ) (s : Ways t w) where
    -- The numbers of two threads of the table.
    passes_same : (a b : ℕ) → a < t.count → b < t.count → passes w a b ≡ may_pass t a b
    unfolding passes may_pass flows
    passes_same a b l m =
        let few = legal_small t g in
        let ea : a % 32 ≡ a = omega arith in
        let eb : b % 32 ≡ b = omega arith in
        let row : get_or w (32 + a % 32) 0 ≡ get_or t.rows (thread t a).domain 0 = ap (λ (i : ℕ). get_or w (32 + i) 0) ea ∙ s.row a (omega arith) in
        let d : get_or w (b % 32) 0 ≡ (thread t b).domain = ap (λ (i : ℕ). get_or w i 0) eb ∙ s.domain b (omega arith) in
        let small : (thread t b).domain < 16 = small_domain b m in
        let e : get_or w (b % 32) 0 % 16 ≡ (thread t b).domain = omega (arith, d, small) in
        rw (row, e)

    barred-same : (a b : ℕ) → barred t.count w a b ≡ must_clean t a b
    unfolding barred must_clean
    barred-same a b =
        by_test (ltb b t.count)
        (λ e. by_test (ltb a t.count)
        (λ f. rw (e, f) (ap (λ (x : Bool). and (not (eqb a b)) (not x)) (passes_same a b (ltb-true _ _ f) (ltb-true _ _ e))))
        (λ f. rw (e, f)))
        (λ e. rw e)

    pub scanned-is : (tr : List ℕ) → scanned t.count w tr ≡ cleanings t tr
    unfolding scanned cleanings
    scanned-is tr = ap (λ (must : ℕ → ℕ → Bool). cleaned must t.count 0 nobody tr) (λ i a b. barred-same a b i)

-- The numbers of the first i threads are stored.
pub record Begun (t : Table) (w : List ℕ) (i : ℕ) : Type 0 where
  pub domain : (j : ℕ) → j < i → get_or w j 0 ≡ (thread t j).domain
  pub row : (j : ℕ) → j < i → get_or w (32 + j) 0 ≡ get_or t.rows (thread t j).domain 0

pub begun-none : (t : Table) (w : List ℕ) → Begun t w 0
begun-none t w = record { domain = λ j l. absurd (omega arith); row = λ j l. absurd (omega arith) }

pub begun-next : (t : Table) (w : List ℕ) (i d r : ℕ) → length w ≡ 64 → i < 32 → d ≡ (thread t i).domain → r ≡ get_or t.rows (thread t i).domain 0 → Begun t w i
    → Begun t (set (set w i d) (32 + i) r) (i + 1)
begun-next t w i d r long l e f h = record { domain = domain; row = row }
  where
    at-or : {A : Type 0} (j : ℕ) → j < i + 1 → (j ≡ i → A) → (j < i → A) → A
    at-or j m here before = by_test (eqb j i) (λ s. here (eqb-true _ _ s)) (λ s. let far : j ≡ i → ⊥ = eqb-false _ _ s in before (omega (arith, far)))

    domain : (j : ℕ) → j < i + 1 → get_or (set (set w i d) (32 + i) r) j 0 ≡ (thread t j).domain
    domain j m =
        get_or-set_other (set w i d) (32 + i) j r 0 (λ s. omega (arith, s))
        ∙ at-or j m
        (λ s. subst (λ (k : ℕ). get_or (set w i d) k 0 ≡ (thread t k).domain) (sym s) (get_or-set_same w i d 0 (omega arith) ∙ e))
        (λ b. get_or-set_other w i j d 0 (λ s. omega (arith, s)) ∙ h.domain j b)

    row : (j : ℕ) → j < i + 1 → get_or (set (set w i d) (32 + i) r) (32 + j) 0 ≡ get_or t.rows (thread t j).domain 0
    row j m =
        at-or j m
        (λ s. subst (λ (k : ℕ). get_or (set (set w i d) (32 + i) r) (32 + k) 0 ≡ get_or t.rows (thread t k).domain 0) (sym s)
        (get_or-set_same (set w i d) (32 + i) r 0 (omega (arith, length-set w i d)) ∙ f))
        (λ b. get_or-set_other (set w i d) (32 + i) (32 + j) r 0 (λ s. omega (arith, s)) ∙ get_or-set_other w i (32 + j) d 0 (λ s. omega (arith, s)) ∙ h.row j b)

pub begun_all : (t : Table) (w : List ℕ) (i : ℕ) → 32 ≤ i → Begun t w i → Ways t w
begun_all t w i l h = record { domain = λ j m. h.domain j (omega arith); row = λ j m. h.row j (omega arith) }
