-- The count of a search is exactly the number of lengths of the sequence that starts at W, and at most D - W + 1:
-- a length gives way only to a larger one, so that D - W + 1 leave room for all from W to D.
use Prim.Native.Nat.{ℕ, zero, suc, ◌+◌, ◌-◌, ◌≤◌, ◌<◌}
use mathlib.Core.Path.{◌≡◌, refl, ◌∙◌, ap, subst}
use mathlib.Core.List.{List, [], ◌∷◌}
use mathlib.Core.Logic.{◌↔◌}
use native.Mathlib.Decide.{dec_lt}
use native.Mathlib.Omega.{arith}
use lib.ListN.{length}
use borrow.Author.Tests.{le-leb, lt-leb, lt-ltb, le-ltb}
use Rattle.basis.specs.Tests.{pick}
use Rattle.basis.specs.Search.{Sought, nothing, found}
use Rattle.basis.proofs.TestLaws.{either}
use Rattle.table.specs.Threads.{thread}
use Rattle.table.specs.declared.Table.{Table}
use Rattle.admission.specs.Demand.{demand}
use Rattle.admission.specs.Tried.{most_tried, lengths_from, lengths, tried, Searches, gives_up, ends, goes_on, IsCount}

module _ (t : Table) (i : ℕ) where
  -- one length of the sequence: it gives up, ends or goes on
  pub from-above : (n x : ℕ) → (thread t i).deadline < x → lengths_from t i n x ≡ []
  unfolding lengths_from pick
  from-above zero x l = refl
  from-above (suc n) x l = rw (lt-ltb _ _ l)

  pub from_last : (n x : ℕ) → x ≤ (thread t i).deadline → demand t i x ≤ x → lengths_from t i (suc n) x ≡ x ∷ []
  unfolding lengths_from pick
  from_last n x l d = rw (le-ltb _ _ l, le-leb _ _ d)

  pub from_next : (n x : ℕ) → x ≤ (thread t i).deadline → x < demand t i x → lengths_from t i (suc n) x ≡ x ∷ lengths_from t i n (demand t i x)
  unfolding lengths_from pick
  from_next n x l d = rw (le-ltb _ _ l, lt-leb _ _ d)

  from-most : (n x : ℕ) → length (lengths_from t i n x) ≤ n
  unfolding lengths_from
  from-most zero x = omega arith
  from-most (suc n) x =
      either (λ (xs : List ℕ). length xs ≤ suc n) _ (λ e. omega arith)
      (λ e. either (λ (xs : List ℕ). length (x ∷ xs) ≤ suc n) _ (λ f. omega arith)
      (λ f. omega (arith, from-most n (demand t i x))))

  -- at most D - W + 1 lengths
  pub tried-most : tried t i ≤ (thread t i).deadline - (thread t i).budget + 1
  unfolding tried lengths most_tried
  tried-most = omega (arith, from-most (most_tried t i) (thread t i).budget)

  -- where there is room for the lengths from x to D, those computed are the search's
  record Ends (x : ℕ) (xs : List ℕ) : Type 0 where
    ended : Sought ℕ
    searches : Searches t i x xs ended

  from-given : (n x : ℕ) → (thread t i).deadline < n + x → Ends x (lengths_from t i n x)
  from-given zero x r = rw (from-above zero x (omega arith)) (record { ended = nothing; searches = gives_up x (omega arith) })
  from-given (suc n) x r = go (λ l. from-given n (demand t i x) (omega arith)) (dec_lt (thread t i).deadline x) (dec_lt x (demand t i x))
    where
      go : (x < demand t i x → Ends (demand t i x) (lengths_from t i n (demand t i x))) → Dec ((thread t i).deadline < x) → Dec (x < demand t i x)
          → Ends x (lengths_from t i (suc n) x)
      go h (yes l) d = rw (from-above (suc n) x l) (record { ended = nothing; searches = gives_up x l })
      go h (no l) (no d) =
          let k : x ≤ (thread t i).deadline = omega arith in
          let f : demand t i x ≤ x = omega arith in
          rw (from_last n x k f) (record { ended = found x; searches = ends x k f })
      go h (no l) (yes d) =
          let k : x ≤ (thread t i).deadline = omega arith in
          let e = h d in
          rw (from_next n x k d) (record { ended = e.ended; searches = goes_on x k d (lengths_from t i n (demand t i x)) e.ended e.searches })

  from_only : {x : ℕ} {xs : List ℕ} {s : Sought ℕ} → Searches t i x xs s → (n : ℕ) → (thread t i).deadline < n + x → lengths_from t i n x ≡ xs
  from_only (gives_up x l) n r = from-above n x l
  from_only (ends x l d) zero r = absurd (omega arith)
  from_only (ends x l d) (suc n) r = from_last n x l d
  from_only (goes_on x l d xs s h) zero r = absurd (omega arith)
  from_only (goes_on x l d xs s h) (suc n) r =
      from_next n x l d ∙ ap (λ (ys : List ℕ). x ∷ ys) (from_only h n (omega arith))

  -- the lengths are those of the search that starts at W, and the count is theirs
  pub lengths_only : {xs : List ℕ} {s : Sought ℕ} → Searches t i (thread t i).budget xs s → lengths t i ≡ xs
  unfolding lengths most_tried
  lengths_only h = from_only h _ (omega arith)

  pub tried-given : IsCount t i (tried t i)
  unfolding tried lengths most_tried
  tried-given =
      let e = from-given ((thread t i).deadline - (thread t i).budget + 1) (thread t i).budget (omega arith) in
      record { sequence = lengths t i; ended = e.ended; searches = e.searches; counted = refl }

  pub tried_only : {n : ℕ} → IsCount t i n → tried t i ≡ n
  unfolding tried
  tried_only c = ap length (lengths_only c.searches) ∙ c.counted

  pub tried_exactly : (n : ℕ) → (tried t i ≡ n) ↔ IsCount t i n
  tried_exactly n = (λ e. subst (λ (m : ℕ). IsCount t i m) e tried-given, λ c. tried_only c)

  -- a thread that is searched has a count of 1 or more, so that 0 says that it was not
  pub tried-some : (thread t i).budget ≤ (thread t i).deadline → 1 ≤ tried t i
  tried-some l = go tried-given.searches tried-given.counted
    where
      go : {xs : List ℕ} {s : Sought ℕ} {n : ℕ} → Searches t i (thread t i).budget xs s → length xs ≡ n → 1 ≤ n
      go (gives_up x k) e = absurd (omega arith)
      go (ends x k d) e = omega (arith, e)
      go (goes_on x k d xs s h) e = omega (arith, e)

  -- the steps of a loop that counts: what is left to try, with room for one more and n
  pub left-none : (n x : ℕ) → (thread t i).deadline < x → length (lengths_from t i n x) ≡ 0
  left-none n x l = ap length (from-above n x l)

  pub left-last : (m n x : ℕ) → m ≡ suc n → x ≤ (thread t i).deadline → demand t i x ≤ x → length (lengths_from t i m x) ≡ 1
  left-last m n x e l d = rw (e, from_last n x l d)

  pub left-next : (m n x : ℕ) → m ≡ suc n → x ≤ (thread t i).deadline → x < demand t i x
      → length (lengths_from t i m x) ≡ suc (length (lengths_from t i n (demand t i x)))
  left-next m n x e l d = rw (e, from_next n x l d)
