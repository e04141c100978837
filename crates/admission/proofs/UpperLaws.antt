-- A bound does not depend on the threads below: two legal tables that agree on a thread and on those above it give it the same bound,
-- after as many lengths.
use Prim.Native.Nat.{ℕ, zero, suc, ◌+◌, ◌-◌, ◌≤◌, ◌<◌}
use mathlib.Core.Path.{◌≡◌, refl, sym, ◌∙◌, ap}
use mathlib.Core.Bool.{false}
use native.Mathlib.Decide.{dec_lt}
use native.Mathlib.Omega.{arith}
use borrow.Author.Tests.{lt-ltb, ltb-true, ltb-false}
use lib.Dec.{ltb}
use lib.ListN.{length}
use Rattle.basis.specs.Tests.{pick}
use Rattle.basis.specs.Search.{Sought, first}
use Rattle.basis.proofs.TestLaws.{by_test, fails}
use Rattle.table.specs.Threads.{none, thread}
use Rattle.table.specs.Legal.{Legal}
use Rattle.table.specs.declared.Table.{Table}
use Rattle.table.specs.declared.Thread.{Thread}
use Rattle.table.proofs.LegalLaws.{legal_complete}
use Rattle.admission.specs.Demand.{sum, share, demand}
use Rattle.admission.specs.Bounded.{enough, length_at, bound, bounding, SameAbove}
use Rattle.admission.specs.Tried.{most_tried, lengths_from, lengths, tried, count_given}
use Rattle.admission.proofs.SumLaws.{sum_same, sum-padded}
use Rattle.admission.proofs.DemandLaws.{share_other}

-- Searches that are asked the same find the same.
first-same : {A : Type 0} (f g : ℕ → Sought A) (n : ℕ) → ((k : ℕ) → f k ≡ g k) → first n f ≡ first n g
unfolding first
first-same f g zero h = refl
first-same f g (suc n) h = rw (first-same f g n h, h n)

-- A place that is not in use stands above nobody.
past : (t : Table) → Legal t → (own : Thread) (x h : ℕ) → t.count ≤ h → share own x (thread t h) ≡ 0
past t g own x h l = rw (g.threads_unused h l) (share_other own none x (omega arith))

-- The demand over all 32 places.
over_places : (t : Table) → Legal t → (i x : ℕ) → demand t i x ≡ (thread t i).budget + sum 32 (λ h. share (thread t i) x (thread t h))
unfolding demand
over_places t g i x =
    ap (λ (s : ℕ). (thread t i).budget + s)
    (sym (sum-padded (λ h. share (thread t i) x (thread t h)) t.count 32 g.count_high (λ h l. past t g (thread t i) x h l)))

module _ (t u : Table) (i : ℕ) (s : SameAbove t u i) where
  same-share : (x h : ℕ) → share (thread t i) x (thread t h) ≡ share (thread u i) x (thread u h)
  same-share x h = go (dec_lt (thread t i).priority (thread t h).priority) (dec_lt (thread u i).priority (thread u h).priority)
    where
      go : Dec ((thread t i).priority < (thread t h).priority) → Dec ((thread u i).priority < (thread u h).priority)
          → share (thread t i) x (thread t h) ≡ share (thread u i) x (thread u h)
      go (yes l) d = rw (s.own, s.one h l)
      go (no l) (yes m) = rw (s.own, s.other h m)
      go (no l) (no m) = share_other (thread t i) (thread t h) x (omega arith) ∙ sym (share_other (thread u i) (thread u h) x (omega arith))

  pub demand_by_upper : Legal t → Legal u → (x : ℕ) → demand t i x ≡ demand u i x
  demand_by_upper g k x =
      let e : sum 32 (λ h. share (thread t i) x (thread t h)) ≡ sum 32 (λ h. share (thread u i) x (thread u h))
      = sum_same (λ h. share (thread t i) x (thread t h)) (λ h. share (thread u i) x (thread u h)) 32 (λ h l. same-share x h) in
      let w : (thread t i).budget ≡ (thread u i).budget = ap (λ (th : Thread). th.budget) s.own in
      omega (arith, over_places t g i x, over_places u k i x, e, w)

  same_length : Legal t → Legal u → (x : ℕ) → length_at t i x ≡ length_at u i x
  unfolding length_at enough
  same_length g k x =
      let w : (thread t i).budget ≡ (thread u i).budget = ap (λ (th : Thread). th.budget) s.own in
      rw (demand_by_upper g k x, w)

  pub bound_by_upper : Legal t → Legal u → bound t i ≡ bound u i
  unfolding bound
  bound_by_upper g k =
      let d : (thread t i).deadline ≡ (thread u i).deadline = ap (λ (th : Thread). th.deadline) s.own in
      rw d (first-same (length_at t i) (length_at u i) (suc (thread u i).deadline) (λ x. same_length g k x))

  same-lengths : Legal t → Legal u → (n x : ℕ) → lengths_from t i n x ≡ lengths_from u i n x
  unfolding lengths_from
  same-lengths g k zero x = refl
  same-lengths g k (suc n) x =
      let d : (thread t i).deadline ≡ (thread u i).deadline = ap (λ (th : Thread). th.deadline) s.own in
      rw (demand_by_upper g k x, d, same-lengths g k n (demand u i x))

  pub tried_by_upper : Legal t → Legal u → tried t i ≡ tried u i
  unfolding tried lengths most_tried
  tried_by_upper g k =
      let d : (thread t i).deadline ≡ (thread u i).deadline = ap (λ (th : Thread). th.deadline) s.own in
      let w : (thread t i).budget ≡ (thread u i).budget = ap (λ (th : Thread). th.budget) s.own in
      rw (d, w) (ap length (same-lengths g k ((thread u i).deadline - (thread u i).budget + 1) (thread u i).budget))

  -- a thread of one table is one of the other, since a place that is not in use has no budget
  used : Legal t → Legal u → i < t.count → i < u.count
  used g k l = go (dec_lt i u.count)
    where
      go : Dec (i < u.count) → i < u.count
      go (yes m) = m
      go (no m) =
          let w : (thread t i).budget ≡ 0 = ap (λ (th : Thread). th.budget) (s.own ∙ k.threads_unused i (omega arith)) in
          absurd (omega (arith, w, (g.threads i l).budget_low))

back : (t u : Table) (i : ℕ) → SameAbove t u i → SameAbove u t i
back t u i s = record { own = sym s.own; one = λ h l. sym (s.other h l); other = λ h l. sym (s.one h l) }

-- What `bound_of` tells and gives does not depend on them either.
module _ (t u : Table) (i : ℕ) (g : Legal t) (k : Legal u) (s : SameAbove t u i) where
  lacked : ltb i t.count ≡ false → ltb i u.count ≡ false
  lacked e = fails (ltb i u.count) (λ m. omega (arith, ltb-false i t.count e, used u t i (back t u i s) k g (ltb-true _ _ m)))

  pub bounding_by_upper : bounding t i ≡ bounding u i
  unfolding bounding pick
  bounding_by_upper =
      by_test (ltb i t.count)
      (λ e. let m : i < u.count = used t u i s g k (ltb-true _ _ e) in
      rw (legal_complete t g, legal_complete u k, e, lt-ltb _ _ m, bound_by_upper t u i s g k))
      (λ e. rw (legal_complete t g, legal_complete u k, e, lacked e))

  pub count_by_upper : count_given t i ≡ count_given u i
  unfolding count_given pick
  count_by_upper =
      by_test (ltb i t.count)
      (λ e. let m : i < u.count = used t u i s g k (ltb-true _ _ e) in
      rw (legal_complete t g, legal_complete u k, e, lt-ltb _ _ m, tried_by_upper t u i s g k))
      (λ e. rw (legal_complete t g, legal_complete u k, e, lacked e))
