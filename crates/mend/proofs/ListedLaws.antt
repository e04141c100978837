-- The list has each pair that was added, once, in order, and nothing else; it has at most 240.
use Prim.Native.Nat.{ℕ, zero, suc, ◌+◌, ◌-◌, ◌*◌, ◌/◌, ◌%◌, ◌≤◌, ◌<◌}
use mathlib.Core.Path.{◌≡◌, refl, sym, ◌∙◌}
use mathlib.Core.List.{List, [], ◌∷◌, ◌++◌}
use mathlib.Core.Bool.{Bool, true, false, not}
use mathlib.Core.Logic.{⊎_elim}
use native.Mathlib.Decide.{dec_lt, le_ind}
use native.Mathlib.Nat.{eq-or-lt_of_le}
use native.Mathlib.Omega.{arith}
use borrow.Author.Tests.{not-true}
use lib.ListN.{length, get_or, length-append, get_or-append}
use lib.Seq.{get_or_at}
use Rattle.basis.specs.Tests.{and}
use Rattle.basis.proofs.TestLaws.{by_test, and_both, fails, refuted}
use Rattle.flow.specs.Flow.{flows}
use Rattle.mend.specs.Rows.{is_added, added, mended}
use Rattle.mend.specs.Plain.{Policy, Sixteen, Stands, Lists}
use Rattle.mend.proofs.RowLaws.{sixteen_known, policy_own}
use Rattle.mend.proofs.MendLaws.{mended-known}
use Rattle.mend.proofs.PairLaws.{added_hit, added_none, length_hit, length_none}
use Rattle.mend.proofs.CountLaws.{added-cell, first-none}

-- The list of the first n pairs.
record Upto (rows ms : List ℕ) (n : ℕ) (l : List ℕ) : Type 0 where
  below : (k : ℕ) → k < length l → get_or l k 0 < n
  right : (k : ℕ) → k < length l → is_added rows ms (get_or l k 0) ≡ true
  each : (c : ℕ) → c < n → is_added rows ms c ≡ true → Stands c l
  ordered : (j k : ℕ) → j < k → k < length l → get_or l j 0 < get_or l k 0

module _ (rows ms : List ℕ) where
  -- One pair more, behind those that stand there.
  module _ (n : ℕ) (l : List ℕ) (u : Upto rows ms n l) where
    early : (k : ℕ) → k < length l → get_or (l ++ (n ∷ [])) k 0 ≡ get_or l k 0
    early k h = get_or-append l (n ∷ []) 0 k h

    last : get_or (l ++ (n ∷ [])) (length l) 0 ≡ n
    last = get_or_at l n [] 0 (length l) refl

    by_place : (P : ℕ → Type 0) → ((k : ℕ) → k < length l → P (get_or l k 0)) → P n → (k : ℕ) → k < length (l ++ (n ∷ [])) → P (get_or (l ++ (n ∷ [])) k 0)
    by_place P old new k h = ⊎_elim
        (λ (e : k ≡ length l). rw (e, last) new)
        (λ (m : k < length l). rw (early k m) (old k m))
        (eq-or-lt_of_le (omega (arith, length-append l (n ∷ []))))

    upto_hit : is_added rows ms n ≡ true → Upto rows ms (suc n) (l ++ (n ∷ []))
    upto_hit e = record {
      below = by_place (λ c. c < suc n) (λ k h. omega (arith, u.below k h)) (omega arith);
      right = by_place (λ c. is_added rows ms c ≡ true) u.right e;
      each = λ c h t. ⊎_elim
          (λ (q : c ≡ n). record { place = length l; below = omega (arith, length-append l (n ∷ [])); there = last ∙ sym q })
          (λ (m : c < n). let s = u.each c m t in
          record { place = s.place; below = omega (arith, length-append l (n ∷ []), s.below); there = early s.place s.below ∙ s.there })
          (eq-or-lt_of_le (omega arith));
      ordered = λ j k h m. ⊎_elim
          (λ (q : k ≡ length l). rw (q, last, early j (omega arith)) (u.below j (omega arith)))
          (λ (s : k < length l). rw (early j (omega arith), early k s) (u.ordered j k h s))
          (eq-or-lt_of_le (omega (arith, length-append l (n ∷ []))));
    }

    upto_none : is_added rows ms n ≡ false → Upto rows ms (suc n) l
    upto_none e = record {
      below = λ k h. omega (arith, u.below k h);
      right = u.right;
      each = λ c h t. ⊎_elim (λ (q : c ≡ n). refuted (rw q at t) e) (λ (m : c < n). u.each c m t) (eq-or-lt_of_le (omega arith));
      ordered = u.ordered;
    }

  upto : (n : ℕ) → Upto rows ms n (added rows ms n)
  unfolding added
  upto zero = record {
    below = λ k h. absurd (omega arith);
    right = λ k h. absurd (omega arith);
    each = λ c h t. absurd (omega arith);
    ordered = λ j k h m. absurd (omega arith);
  }
  upto (suc n) = by_test (is_added rows ms n)
      (λ e. rw (added_hit rows ms n e) (upto_hit n _ (upto n) e))
      (λ e. rw (added_none rows ms n e) (upto_none n _ (upto n) e))

  added_says : (c : ℕ) → is_added rows ms c ≡ true → (flows ms (c / 16) (c % 16) ≡ true) × (flows rows (c / 16) (c % 16) ≡ false)
  unfolding is_added
  added_says c e = let b = and_both (flows ms (c / 16) (c % 16)) (not (flows rows (c / 16) (c % 16))) e in (b.0, not-true _ b.1)

  pub added_lists : Sixteen ms → Lists rows ms (added rows ms 256)
  added_lists s =
      let u = upto 256 in
      record {
        only = λ k h. added_says (get_or (added rows ms 256) k 0) (u.right k h);
        each = λ a b m r. let k = sixteen_known ms a b s m in u.each (16 * a + b) (omega (arith, k.0, k.1)) (added-cell rows ms a b k.0 k.1 ∙ rw (m, r));
        ordered = u.ordered;
      }

  -- A pair adds one place at most, ..
  length_most : (c k : ℕ) → c ≤ k → length (added rows ms k) ≤ length (added rows ms c) + (k - c)
  length_most c k h = le_ind (λ (m : ℕ). length (added rows ms m) ≤ length (added rows ms c) + (m - c)) (omega arith)
      (λ m l r. by_test (is_added rows ms m) (λ e. omega (arith, length_hit rows ms m e)) (λ e. omega (arith, length_none rows ms m e))) k h

  -- .. and a pair of a domain with itself none, so that a row has 15 at most.
  rows-most : ((a : ℕ) → a < 16 → is_added rows ms (16 * a + a) ≡ false) → (n : ℕ) → n ≤ 16 → length (added rows ms (16 * n)) ≤ 15 * n
  rows-most own zero h = omega (arith, first-none rows ms)
  rows-most own (suc n) h =
      let e : 16 * suc n ≡ 16 * n + 16 = omega arith in
      rw e
      (omega (
        arith,
        rows-most own n (omega arith),
        length_most (16 * n) (16 * n + n) (omega arith),
        length_none rows ms (16 * n + n) (own n h),
        length_most (suc (16 * n + n)) (16 * n + 16) (omega arith),
      ))

-- A list of 240 places, 256 less the diagonal, is never too short.
pub added-most : (d : ℕ) (rows : List ℕ) → Policy d rows → length (added rows (mended d rows) 256) ≤ 240
added-most d rows p = rows-most rows (mended d rows) own 16 (omega arith)
  where
    own : (a : ℕ) → a < 16 → is_added rows (mended d rows) (16 * a + a) ≡ false
    own a h = added-cell rows (mended d rows) a a h h ∙ go (dec_lt a d)
      where
        go : Dec (a < d) → and (flows (mended d rows) a a) (not (flows rows a a)) ≡ false
        go (yes l) = rw (policy_own d rows a p l) (fails _ (λ e. let b = and_both (flows (mended d rows) a a) false e in refuted b.1 refl))
        go (no l) = rw (fails (flows (mended d rows) a a) (λ e. omega (arith, (mended-known d rows p a a e).0)))

-- Where nothing is new, nothing is added.
not_both : (b : Bool) → and b (not b) ≡ false
not_both true = refl
not_both false = refl

never-added : (rows : List ℕ) (c : ℕ) → is_added rows rows c ≡ false
unfolding is_added
never-added rows c = not_both (flows rows (c / 16) (c % 16))

pub none-added : (rows : List ℕ) (n : ℕ) → added rows rows n ≡ []
unfolding added
none-added rows zero = refl
none-added rows (suc n) = added_none rows rows n (never-added rows n) ∙ none-added rows n
