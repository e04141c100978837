-- How many decimal digits a number has, that they are few, and that putting the last digit first puts them all.
use Prim.Native.Nat.{ℕ, zero, suc, ◌+◌, ◌-◌, ◌*◌, ◌/◌, ◌%◌, ◌^◌, ◌≤◌, ◌<◌}
use mathlib.Core.Path.{◌≡◌, refl, subst}
use mathlib.Core.List.{List, [], ◌∷◌, ◌++◌}
use native.Mathlib.Omega.{arith}
use native.Mathlib.Nat.{pow-suc, mod-eq_of_lt}
use lib.ListN.{length, set, length-append}
use lib.Seq.{sets, set_comm}
use lib.Dec.{ltb, leb}
use borrow.Author.Tests.{lt-ltb, le-ltb, leb-true, leb-false, ltb-true, ltb-false}
use Rattle.basis.specs.Tests.{pick}
use Rattle.basis.proofs.TestLaws.{either, by_test}
use Rattle.decimal.specs.Decimal.{digit, decimal_in, decimal}

-- No more digits than there are places.
pub decimal_in_long : (k n : ℕ) → length (decimal_in k n) ≤ k
unfolding decimal_in
decimal_in_long zero n = omega arith
decimal_in_long (suc k) n =
    either (λ (l : List ℕ). length l ≤ suc k) (ltb n 10) (λ e. omega arith)
    (λ e. omega (arith, length-append (decimal_in k (n / 10)) (digit (n % 10) ∷ []), decimal_in_long k (n / 10)))

-- A number below 10 ^ j has at most j digits, and one at least.
decimal_in-short : (k j n : ℕ) → 0 < j → n < 10 ^ j → length (decimal_in k n) ≤ j
unfolding decimal_in
decimal_in-short k zero n z h = absurd (omega arith)
decimal_in-short zero (suc j) n z h = omega arith
decimal_in-short (suc k) (suc zero) n z h =
    let l : n < 10 = h in
    let P : List ℕ → Type 0 = λ l. length l ≤ 1 in
    either P (ltb n 10) (λ e. omega arith) (λ e. absurd (omega (arith, ltb-false n 10 e)))
decimal_in-short (suc k) (suc (suc j)) n z h =
    let P : List ℕ → Type 0 = λ l. length l ≤ suc (suc j) in
    let most : n < 10 ^ suc j * 10 = rw (pow-suc 10 (suc j)) at h in
    let few : length (decimal_in k (n / 10)) ≤ suc j = decimal_in-short k (suc j) (n / 10) (omega arith) (omega arith) in
    either P (ltb n 10) (λ e. omega arith)
    (λ e. omega (arith, length-append (decimal_in k (n / 10)) (digit (n % 10) ∷ [])))

pub decimal-short : (j n : ℕ) → 0 < j → n < 10 ^ j → length (decimal n) ≤ j
unfolding decimal
decimal-short j n z h = decimal_in-short 20 j n z h

pub decimal_long : (n : ℕ) → length (decimal n) ≤ 20
unfolding decimal
decimal_long n = decimal_in_long 20 n

-- One digit, or one more than the number without its last.
pub decimal_in_small : (k n : ℕ) → n < 10 → length (decimal_in (suc k) n) ≡ 1
unfolding decimal_in pick
decimal_in_small k n h = rw (lt-ltb n 10 h)

pub decimal_in_more : (k n : ℕ) → 10 ≤ n → length (decimal_in (suc k) n) ≡ length (decimal_in k (n / 10)) + 1
unfolding decimal_in pick
decimal_in_more k n h = rw (le-ltb n 10 h) (omega (arith, length-append (decimal_in k (n / 10)) (digit (n % 10) ∷ [])))

-- Counting digits: k were told off and one is left at least, of a number that the places left hold.
pub record Counting (n k r : ℕ) : Type 0 where
  pub few : k ≤ 20
  pub some : 1 ≤ k
  pub holds : r < 10 ^ (21 - k)
  pub told : length (decimal_in (21 - k) r) + k ≡ length (decimal n) + 1

pub counting_starts : (n : ℕ) → n < 2 ^ 64 → Counting n 1 n
unfolding decimal
counting_starts n h = record { few = omega arith; some = omega arith; holds = omega arith; told = refl }

module _ {n k r : ℕ} (c : Counting n k r) where
  pub counting_goes : 10 ≤ r → Counting n (k + 1) (r / 10)
  counting_goes h =
      let two : 2 ≤ 21 - k = by_test (leb 2 (21 - k)) (λ e. leb-true _ _ e)
      (λ e. let l : 21 - k < 2 = leb-false 2 (21 - k) e in
      let o : 21 - k ≡ 1 = omega (arith, c.few) in
      let q : r < 10 ^ 1 = subst (λ (j : ℕ). r < 10 ^ j) o c.holds in
      absurd (omega arith)) in
      let e : 21 - k ≡ suc (21 - (k + 1)) = omega arith in
      let w : r < 10 ^ (21 - (k + 1)) * 10 = rw (pow-suc 10 (21 - (k + 1))) at (subst (λ (j : ℕ). r < 10 ^ j) e c.holds) in
      let t : length (decimal_in (suc (21 - (k + 1))) r) + k ≡ length (decimal n) + 1 = subst (λ (j : ℕ). length (decimal_in j r) + k ≡ length (decimal n) + 1) e c.told in
      record { few = omega arith; some = omega arith; holds = omega arith; told = omega (arith, t, decimal_in_more (21 - (k + 1)) r h) }

  pub counting_ends : r < 10 → k ≡ length (decimal n)
  counting_ends h =
      let e : 21 - k ≡ suc (20 - k) = omega (arith, c.few) in
      let t : length (decimal_in (suc (20 - k)) r) + k ≡ length (decimal n) + 1 = subst (λ (j : ℕ). length (decimal_in j r) + k ≡ length (decimal n) + 1) e c.told in
      omega (arith, t, decimal_in_small (20 - k) r h)

  -- All but the last of twenty were told off, and one digit is left.
  pub counting_last : 20 ≤ k → 20 ≡ length (decimal n)
  counting_last h =
      let e : 21 - k ≡ 1 = omega (arith, c.few) in
      let q : r < 10 ^ 1 = subst (λ (j : ℕ). r < 10 ^ j) e c.holds in
      let t : k ≡ length (decimal n) = counting_ends (omega arith) in
      omega (arith, t, c.few)

-- The last k digits of a number; as many as it has are all.
unfoldable pub last_digits : ℕ → ℕ → List ℕ
last_digits zero n = []
last_digits (suc k) n = last_digits k (n / 10) ++ (digit (n % 10) ∷ [])

pub last_digits-length : (k n : ℕ) → length (last_digits k n) ≡ k
unfolding last_digits
last_digits-length zero n = refl
last_digits-length (suc k) n = omega (arith, length-append (last_digits k (n / 10)) (digit (n % 10) ∷ []), last_digits-length k (n / 10))

all_digits_in : (f n : ℕ) → last_digits (length (decimal_in f n)) n ≡ decimal_in f n
unfolding last_digits decimal_in pick
all_digits_in zero n = refl
all_digits_in (suc f) n =
    by_test (ltb n 10)
    (λ e. rw (e, mod-eq_of_lt (ltb-true n 10 e)))
    (λ e. let m : length (decimal_in (suc f) n) ≡ suc (length (decimal_in f (n / 10))) = omega (arith, decimal_in_more f n (ltb-false n 10 e)) in
    rw m (rw e (rw (all_digits_in f (n / 10)))))

pub all_digits : (n : ℕ) → last_digits (length (decimal n)) n ≡ decimal n
unfolding decimal
all_digits n = all_digits_in 20 n

-- One digit stored, and those before it still to come.
sets_before : (xs b : List ℕ) (at i x : ℕ) → i ≡ at + length xs → sets (set b i x) at xs ≡ sets b at (xs ++ (x ∷ []))
sets_before [] b at i x e = let q : i ≡ at = omega arith in rw q
sets_before (y ∷ xs) b at i x e =
    rw (set_comm b i at x y (λ q. omega arith)) (sets_before xs (set b at y) (suc at) i x (omega arith))

pub digit-put : (b : List ℕ) (at k n : ℕ) → at < k → sets (set b (k - 1) (digit (n % 10))) at (last_digits (k - 1 - at) (n / 10)) ≡ sets b at (last_digits (k - at) n)
unfolding last_digits
digit-put b at k n h =
    let e : k - at ≡ suc (k - 1 - at) = omega arith in
    rw e (sets_before (last_digits (k - 1 - at) (n / 10)) b at (k - 1) (digit (n % 10)) (omega (arith, last_digits-length (k - 1 - at) (n / 10))))

pub digits_end : (b c : List ℕ) (at k end r n : ℕ) → k ≤ at → end ≡ at + length (decimal n) → sets c at (last_digits (k - at) r) ≡ sets b at (last_digits (end - at) n) → c ≡ sets b at (decimal n)
unfolding last_digits
digits_end b c at k end r n h e q =
    let z : k - at ≡ 0 = omega arith in
    let m : end - at ≡ length (decimal n) = omega arith in
    rw (z, m, all_digits n) at q
