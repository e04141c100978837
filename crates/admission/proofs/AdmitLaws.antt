-- Admission gives exactly what the rows of `AdmitAnswer` say: every bound, or the first thread that has none, and the counts.
use Prim.Native.Nat.{ℕ, suc, ◌-◌, ◌≤◌, ◌<◌}
use mathlib.Core.Path.{◌≡◌, refl, sym, ◌∙◌, subst}
use mathlib.Core.Bool.{true, false}
use mathlib.Core.List.{List, [], ◌++◌}
use mathlib.Core.Logic.{◌↔◌}
use native.Mathlib.Omega.{arith}
use borrow.Author.Tests.{ltb-true, ltb-false}
use lib.ListN.{length, get_or, replicate, length-append, length-replicate}
use lib.Seq.{ext_get_or}
use lib.Dec.{ltb}
use Rattle.basis.specs.Tests.{pick}
use Rattle.basis.specs.Search.{Sought, nothing, found, listed}
use Rattle.basis.specs.Told.{Told}
use Rattle.basis.proofs.TestLaws.{by_test}
use Rattle.basis.proofs.ListLaws.{padded}
use Rattle.basis.proofs.SearchLaws.{first-nothing, first-all, first_found, first_hit, FoundAt, length-listed, listed_at, listed_past}
use Rattle.table.specs.Legal.{legal}
use Rattle.table.specs.declared.Table.{Table}
use Rattle.table.proofs.LegalLaws.{legal_small}
use Rattle.admission.specs.Bounded.{bound, IsBound, NoBound}
use Rattle.admission.specs.Admit.{lacking, without_bound, first_without, bound_number, bounds_of, admitting, bounds_given, searched, counts_of, counts_given, HasBound, Counted, AdmitAnswer, not-legal, without, admitted}
use Rattle.admission.specs.Tried.{tried, IsCount}
use Rattle.admission.proofs.TriedLaws.{tried-given, tried_only}
use Rattle.admission.proofs.BoundLaws.{bound_at, bound-none, is_of_bound, none_of_bound}

-- A list that is filled up to 32 with zeros is as long.
filled-length : (f : ℕ → ℕ) (n : ℕ) → n ≤ 32 → length (listed n f ++ replicate (32 - n) 0) ≡ 32
filled-length f n l =
    length-append (listed n f) (replicate (32 - n) 0)
    ∙ rw (length-listed n f, length-replicate {A = ℕ} (32 - n) 0) (omega arith)

module _ (t : Table) where
  -- one thread of the search for the first without a bound
  pub has_one : (i x : ℕ) → bound t i ≡ found x → without_bound t i ≡ nothing
  unfolding without_bound
  has_one i x e = rw e

  pub has_none : (i : ℕ) → bound t i ≡ nothing → without_bound t i ≡ found i
  unfolding without_bound
  has_none i e = rw e

  pub number_is : (i x : ℕ) → bound t i ≡ found x → x ≡ bound_number t i
  unfolding bound_number
  number_is i x e = rw e

  one_of : (i : ℕ) → without_bound t i ≡ nothing → HasBound t i
  unfolding without_bound
  one_of i e = go (bound t i) refl
    where
      go : (s : Sought ℕ) → bound t i ≡ s → HasBound t i
      go nothing q = let z : lacking i nothing ≡ nothing = rw q at e in let y : ◌≡◌ {A = ℕ} 0 1 = cc in absurd (omega arith)
      go (found x) q = record { steps = x; is = is_of_bound t i x q }

  none_of : (i j : ℕ) → without_bound t i ≡ found j → (i ≡ j) × NoBound t i
  unfolding without_bound
  none_of i j e = go (bound t i) refl
    where
      go : (s : Sought ℕ) → bound t i ≡ s → (i ≡ j) × NoBound t i
      go nothing q = let z : lacking i nothing ≡ found j = rw q at e in ((cc), none_of_bound t i q)
      go (found x) q = let z : lacking i (found x) ≡ found j = rw q at e in let y : ◌≡◌ {A = ℕ} 0 1 = cc in absurd (omega arith)

  -- all threads are searched where each has a bound, else those up to and with the first that has none
  pub searched-all : first_without t ≡ nothing → searched t ≡ t.count
  unfolding searched
  searched-all e = rw e

  pub searched_with : (i : ℕ) → first_without t ≡ found i → searched t ≡ suc i
  unfolding searched
  searched_with i e = rw e

  bounds_length : t.count ≤ 32 → length (bounds_of t) ≡ 32
  unfolding bounds_of
  bounds_length l = filled-length (bound_number t) t.count l

  bounds_at : (i : ℕ) → i < t.count → get_or (bounds_of t) i 0 ≡ bound_number t i
  unfolding bounds_of
  bounds_at i l = listed_at (bound_number t) t.count i (replicate (32 - t.count) 0) 0 l

  bounds_past : (i : ℕ) → t.count ≤ i → get_or (bounds_of t) i 0 ≡ 0
  unfolding bounds_of
  bounds_past i l = listed_past (bound_number t) t.count (32 - t.count) i 0 l

  bounds_are : (bs : List ℕ) → t.count ≤ 32 → length bs ≡ 32 → ((i : ℕ) → i < t.count → IsBound t i (get_or bs i 0))
      → ((i : ℕ) → t.count ≤ i → get_or bs i 0 ≡ 0) → bounds_of t ≡ bs
  bounds_are bs l n at past =
      ext_get_or 0 (bounds_of t) bs (bounds_length l ∙ sym n)
      (λ i k. by_test (ltb i t.count)
      (λ e. let u : i < t.count = ltb-true _ _ e in
      bounds_at i u ∙ sym (number_is i (get_or bs i 0) (bound_at t i (get_or bs i 0) (at i u))))
      (λ e. let u : t.count ≤ i = ltb-false _ _ e in bounds_past i u ∙ sym (past i u)))

  pub first-is : (i : ℕ) → i < t.count → NoBound t i → ((j : ℕ) → j < i → HasBound t j) → first_without t ≡ found i
  unfolding first_without
  first-is i l n h =
      first_hit (without_bound t) i t.count i
      (first-all (without_bound t) i (λ j k. has_one j (h j k).steps (bound_at t j (h j k).steps (h j k).is)))
      (has_none i (bound-none t i n)) l

  all_have : ((i : ℕ) → i < t.count → HasBound t i) → first_without t ≡ nothing
  unfolding first_without
  all_have h =
      first-all (without_bound t) t.count (λ i l. has_one i (h i l).steps (bound_at t i (h i l).steps (h i l).is))

  -- the counts of the first n threads
  counts_are : (n : ℕ) (ns : List ℕ) → n ≤ 32 → Counted t n ns → counts_of t n ≡ ns
  unfolding counts_of
  counts_are n ns l c =
      ext_get_or 0 (counts_of t n) ns (filled-length (tried t) n l ∙ sym c.places)
      (λ i k. by_test (ltb i n)
      (λ e. let u : i < n = ltb-true _ _ e in
      listed_at (tried t) n i (replicate (32 - n) 0) 0 u ∙ tried_only t i (c.counts i u))
      (λ e. let u : n ≤ i = ltb-false _ _ e in listed_past (tried t) n (32 - n) i 0 u ∙ sym (c.zeros i u)))

  counts_hold : (n : ℕ) → n ≤ 32 → Counted t n (counts_of t n)
  unfolding counts_of
  counts_hold n l = record {
    places = filled-length (tried t) n l;
    counts = λ i u. subst (λ (m : ℕ). IsCount t i m) (sym (listed_at (tried t) n i (replicate (32 - n) 0) 0 u)) (tried-given t i);
    zeros = λ i u. listed_past (tried t) n (32 - n) i 0 u;
  }

  -- at most all threads are searched
  pub searched-most : searched t ≤ t.count
  unfolding first_without
  searched-most = go (first_without t) refl
    where
      go : (s : Sought ℕ) → first_without t ≡ s → searched t ≤ t.count
      go nothing e = omega (arith, searched-all e)
      go (found i) e =
          let f : FoundAt (without_bound t) t.count i = first_found (without_bound t) t.count i e in
          omega (arith, f.below, (none_of f.number i f.answers).0, searched_with i e)

  -- what is given beside: the count of each thread that was searched, and 0 for the others
  pub counts_at : legal t ≡ true → (i : ℕ) → i < searched t → get_or (counts_given t) i 0 ≡ tried t i
  unfolding counts_given counts_of pick
  counts_at a i l = rw a (listed_at (tried t) (searched t) i (replicate (32 - searched t) 0) 0 l)

  pub counts_past : legal t ≡ true → (i : ℕ) → searched t ≤ i → get_or (counts_given t) i 0 ≡ 0
  unfolding counts_given counts_of pick
  counts_past a i l = rw a (listed_past (tried t) (searched t) (32 - searched t) i 0 l)

  pub counts_refused : legal t ≡ false → (i : ℕ) → get_or (counts_given t) i 0 ≡ 0
  unfolding counts_given pick
  counts_refused a i = rw a (padded [] 32 i 0)

  -- each row gives its answer, and one of the rows holds
  answer_only : {w : Told} {bs ns : List ℕ} → AdmitAnswer t w bs ns → (admitting t ≡ w) × (bounds_given t ≡ bs) × (counts_given t ≡ ns)
  unfolding admitting bounds_given counts_given pick
  answer_only (not-legal a) = (rw a, rw a, rw a)
  answer_only (without a i l n h ns c) =
      let e = first-is i l n (λ j k. h j (omega (arith, k))) in
      (rw (a, e), rw (a, e), rw (a, searched_with i e) (counts_are (suc i) ns (omega (arith, (legal_small t a).1)) c))
  answer_only (admitted a bs n at past ns c) =
      let e = all_have (λ i l. record { steps = get_or bs i 0; is = at i l }) in
      let m = (legal_small t a).1 in
      (rw (a, e), rw (a, e) (bounds_are bs m n at past), rw (a, searched-all e) (counts_are t.count ns m c))

  -- what is told and given beside, as one claim
  abbrev Given : Type 0
  Given = AdmitAnswer t (admitting t) (bounds_given t) (counts_given t)

  here : {w : Told} {bs ns : List ℕ} → AdmitAnswer t w bs ns → Given
  here {w} {bs} {ns} r =
      let e = answer_only r in
      subst (λ (v : Told). AdmitAnswer t v (bounds_given t) (counts_given t)) (sym e.0)
      (subst (λ (cs : List ℕ). AdmitAnswer t w cs (counts_given t)) (sym e.1)
      (subst (λ (ms : List ℕ). AdmitAnswer t w bs ms) (sym e.2) r))

  by_first : legal t ≡ true → (s : Sought ℕ) → first_without t ≡ s → Given
  unfolding first_without
  by_first a nothing e =
      let m = (legal_small t a).1 in
      here (admitted a (bounds_of t) (bounds_length m)
      (λ i l. let b = one_of i (first-nothing (without_bound t) t.count i e l) in
      let q : b.steps ≡ get_or (bounds_of t) i 0
      = number_is i b.steps (bound_at t i b.steps b.is) ∙ sym (bounds_at i l) in
      subst (λ (x : ℕ). IsBound t i x) q b.is)
      (λ i l. bounds_past i l) (counts_of t t.count) (counts_hold t.count m))
  by_first a (found i) e =
      let f : FoundAt (without_bound t) t.count i = first_found (without_bound t) t.count i e in
      let n = none_of f.number i f.answers in
      let m : suc f.number ≤ 32 = omega (arith, f.below, (legal_small t a).1) in
      here (without a f.number f.below n.1 (λ j l. one_of j (first-nothing (without_bound t) f.number j f.earlier l))
      (counts_of t (suc f.number)) (counts_hold (suc f.number) m))

  answer-given : Given
  answer-given = by_test (legal t) (λ a. by_first a (first_without t) refl) (λ a. here (not-legal a))

  -- what `admit` tells and gives is exactly what the plain rows say
  pub admitting_exactly : (w : Told) (bs ns : List ℕ)
      → ((admitting t ≡ w) × (bounds_given t ≡ bs) × (counts_given t ≡ ns)) ↔ AdmitAnswer t w bs ns
  admitting_exactly w bs ns = (
    λ e. subst (λ (v : Told). AdmitAnswer t v bs ns) e.0
        (subst (λ (cs : List ℕ). AdmitAnswer t (admitting t) cs ns) e.1
        (subst (λ (ms : List ℕ). AdmitAnswer t (admitting t) (bounds_given t) ms) e.2 answer-given)),
    λ r. answer_only r,
  )
