-- A bound is exactly the smallest length from W to D that holds its demand, and none is exactly that no length does;
-- how the search comes to it: since the demand grows, no length below the demand of a short one holds its own.
use Prim.Native.Nat.{ℕ, suc, ◌≤◌, ◌<◌}
use mathlib.Core.Path.{◌≡◌, refl, sym, subst}
use mathlib.Core.Bool.{Bool, true, false}
use mathlib.Core.Logic.{◌↔◌}
use native.Mathlib.Decide.{dec_lt}
use native.Mathlib.Omega.{arith}
use mathlib.Core.List.{List}
use lib.Dec.{ltb, leb}
use borrow.Author.Tests.{le-leb, lt-leb, leb-true, leb-false, lt-ltb, le-ltb, ltb-true, ltb-false}
use Rattle.basis.specs.Tests.{pick}
use Rattle.basis.specs.Search.{Sought, nothing, found}
use Rattle.basis.specs.Told.{Told}
use Rattle.basis.proofs.TestLaws.{by_test, and_both}
use Rattle.basis.proofs.SearchLaws.{first-nothing, first-all, first_found, first_hit, FoundAt}
use Rattle.table.specs.Threads.{thread}
use Rattle.table.specs.Legal.{legal, Legal}
use Rattle.table.specs.declared.Table.{Table}
use Rattle.admission.specs.Demand.{demand}
use Rattle.admission.specs.Bounded.{enough, length_at, bound, bounding, IsBound, NoBound, BoundAnswer, not-legal, no_thread, no_bound, within}
use Rattle.admission.specs.Tried.{tried, count_given, Searches, gives_up, ends, goes_on}
use Rattle.admission.proofs.DemandLaws.{demand_mono}
use Rattle.admission.proofs.TriedLaws.{tried-given, tried_only}

module _ (t : Table) (i : ℕ) where
  -- no length from the budget up to x holds its demand
  abbrev pub Short : ℕ → Type 0
  Short x = (y : ℕ) → (thread t i).budget ≤ y → y < x → y < demand t i y

  pub short-first : Short (thread t i).budget
  short-first y l u = absurd (omega arith)

  -- then none does up to the demand of x
  pub short-next : Legal t → (x : ℕ) → Short x → Short (demand t i x)
  short-next g x s y l u = further (dec_lt y x)
    where
      further : Dec (y < x) → y < demand t i y
      further (yes h) = s y l h
      further (no h) =
          let le : x ≤ y = omega arith in
          omega (arith, demand_mono t g i le)

  -- one length of the search
  at_holds : (x : ℕ) → (thread t i).budget ≤ x → demand t i x ≤ x → length_at t i x ≡ found x
  unfolding length_at enough pick
  at_holds x l h = rw (le-leb _ _ l, le-leb _ _ h)

  at-short : (x : ℕ) → ((thread t i).budget ≤ x → x < demand t i x) → length_at t i x ≡ nothing
  unfolding length_at enough pick
  at-short x s =
      by_test (leb (thread t i).budget x) (λ e. rw (e, lt-leb _ _ (s (leb-true _ _ e)))) (λ e. rw e)

  hit : (b : Bool) (x y : ℕ) → pick b (found x) nothing ≡ found y → (b ≡ true) × (x ≡ y)
  unfolding pick
  hit true x y q = (refl, (cc))
  hit false x y q = let z : ◌≡◌ {A = ℕ} 0 1 = cc in absurd (omega arith)

  not_hit : (b : Bool) (x : ℕ) → pick b (found x) nothing ≡ nothing → b ≡ false
  unfolding pick
  not_hit true x q = let z : ◌≡◌ {A = ℕ} 0 1 = cc in absurd (omega arith)
  not_hit false x q = refl

  of-short : (x : ℕ) → length_at t i x ≡ nothing → (thread t i).budget ≤ x → x < demand t i x
  unfolding length_at enough
  of-short x e l = leb-false _ _ (rw (le-leb _ _ l) at (not_hit (enough t i x) x e))

  -- the smallest length, and none
  pub bound_at : (x : ℕ) → IsBound t i x → bound t i ≡ found x
  unfolding bound
  bound_at x b =
      first_hit (length_at t i) x (suc (thread t i).deadline) x
      (first-all (length_at t i) x (λ y u. at-short y (λ l. b.smallest y l u)))
      (at_holds x b.from_budget b.holds) (omega (arith, b.to_deadline))

  pub bound-none : NoBound t i → bound t i ≡ nothing
  unfolding bound
  bound-none n = first-all (length_at t i) (suc (thread t i).deadline) (λ y u. at-short y (λ l. n.short y l (omega arith)))

  pub none_of_bound : bound t i ≡ nothing → NoBound t i
  unfolding bound
  none_of_bound e = record {
    short = λ y l u. of-short y (first-nothing (length_at t i) (suc (thread t i).deadline) y e (omega arith)) l;
  }

  pub is_of_bound : (x : ℕ) → bound t i ≡ found x → IsBound t i x
  unfolding bound length_at enough
  is_of_bound x e =
      let f : FoundAt (length_at t i) (suc (thread t i).deadline) x = first_found (length_at t i) (suc (thread t i).deadline) x e in
      let h = hit (enough t i f.number) f.number x f.answers in
      let b = and_both (leb (thread t i).budget f.number) _ h.0 in
      let r : IsBound t i f.number = record {
        from_budget = leb-true _ _ b.0;
        to_deadline = omega (arith, f.below);
        holds = leb-true _ _ b.1;
        smallest = λ y l u. of-short y (first-nothing (length_at t i) f.number y f.earlier u) l;
      } in
      subst (λ (y : ℕ). IsBound t i y) h.1 r

  -- the law of the bound
  pub bound_exactly : (x : ℕ) → (bound t i ≡ found x) ↔ IsBound t i x
  bound_exactly x = (λ e. is_of_bound x e, λ b. bound_at x b)

  pub none_exactly : (bound t i ≡ nothing) ↔ NoBound t i
  none_exactly = (λ e. none_of_bound e, λ n. bound-none n)

  -- the search that starts at W finds the bound: the smallest length, or none
  finds_from : Legal t → {x : ℕ} {xs : List ℕ} {s : Sought ℕ} → (thread t i).budget ≤ x → Short x → Searches t i x xs s → bound t i ≡ s
  finds_from g l h (gives_up x k) = bound-none (record { short = λ y a b. h y a (omega arith) })
  finds_from g l h (ends x k d) = bound_at x (record { from_budget = l; to_deadline = k; holds = d; smallest = h })
  finds_from g l h (goes_on x k d xs s r) = finds_from g (omega arith) (short-next g x h) r

  pub search_finds : Legal t → {xs : List ℕ} {s : Sought ℕ} → Searches t i (thread t i).budget xs s → bound t i ≡ s
  search_finds g r = finds_from g (omega arith) short-first r

  -- each row of `BoundAnswer` gives its answer, and one of the rows holds
  answer_only : {w : Told} {n : ℕ} → BoundAnswer t i w n → (bounding t i ≡ w) × (count_given t i ≡ n)
  unfolding bounding count_given pick
  answer_only (not-legal a) = (rw a, rw a)
  answer_only (no_thread a b) = let e = le-ltb _ _ b in (rw (a, e), rw (a, e))
  answer_only (no_bound a b s n c) = let e = lt-ltb _ _ b in (rw (a, e, bound-none s), rw (a, e) (tried_only t i c))
  answer_only (within a b x s n c) = let e = lt-ltb _ _ b in (rw (a, e, bound_at x s), rw (a, e) (tried_only t i c))

  here : {w : Told} {n : ℕ} → BoundAnswer t i w n → BoundAnswer t i (bounding t i) (count_given t i)
  here {w} {n} r =
      let e = answer_only r in
      subst (λ (v : Told). BoundAnswer t i v (count_given t i)) (sym e.0) (subst (λ (m : ℕ). BoundAnswer t i w m) (sym e.1) r)

  by_bound : legal t ≡ true → i < t.count → (s : Sought ℕ) → bound t i ≡ s → BoundAnswer t i (bounding t i) (count_given t i)
  by_bound a b nothing e = here (no_bound a b (none_of_bound e) (tried t i) (tried-given t i))
  by_bound a b (found x) e = here (within a b x (is_of_bound x e) (tried t i) (tried-given t i))

  answer-given : BoundAnswer t i (bounding t i) (count_given t i)
  answer-given =
      by_test (legal t)
      (λ a. by_test (ltb i t.count) (λ b. by_bound a (ltb-true _ _ b) (bound t i) refl) (λ b. here (no_thread a (ltb-false _ _ b))))
      (λ a. here (not-legal a))

  -- what `bound_of` tells and gives is exactly what the plain rows say
  pub bounding_exactly : (w : Told) (n : ℕ) → ((bounding t i ≡ w) × (count_given t i ≡ n)) ↔ BoundAnswer t i w n
  bounding_exactly w n = (
    λ e. subst (λ (v : Told). BoundAnswer t i v n) e.0 (subst (λ (m : ℕ). BoundAnswer t i (bounding t i) m) e.1 answer-given),
    λ r. answer_only r,
  )

  -- a bound is from 1 to 60,000, so that 0 can stand for none and a larger number for a refusal
  pub bound_positive : Legal t → i < t.count → (x : ℕ) → bound t i ≡ found x → 1 ≤ x
  bound_positive g l x e = omega (arith, (is_of_bound x e).from_budget, (g.threads i l).budget_low)

  pub bound_high : Legal t → i < t.count → (x : ℕ) → bound t i ≡ found x → x ≤ 60000
  bound_high g l x e =
      omega (arith, (is_of_bound x e).to_deadline, (g.threads i l).deadline_high, (g.threads i l).period_high)
