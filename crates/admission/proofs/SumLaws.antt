-- Laws of a sum over the threads: it grows with its terms and with their number, and is no more than as many times the largest.
use Prim.Native.Nat.{ℕ, zero, suc, ◌+◌, ◌*◌, ◌≤◌, ◌<◌}
use mathlib.Core.Path.{◌≡◌, refl}
use mathlib.Core.Logic.{◌↔◌, ⊎_elim}
use native.Mathlib.Decide.{le_ind}
use native.Mathlib.Nat.{le_refl, eq-or-lt_of_le, suc-mul}
use native.Mathlib.Numerals.{add-one}
use native.Mathlib.Omega.{arith}
use Rattle.admission.specs.Demand.{sum, SumOf, of_none, one_more}

-- The step of a loop: one term more.
pub sum-next : (f : ℕ → ℕ) (n : ℕ) → sum (n + 1) f ≡ sum n f + f n
unfolding sum
sum-next f n = rw add-one

pub sum_longer : (f : ℕ → ℕ) (n m : ℕ) → n ≤ m → sum n f ≤ sum m f
unfolding sum
sum_longer f n m l = le_ind (λ (k : ℕ). sum n f ≤ sum k f) (le_refl _) (λ k h r. omega arith) m l

pub sum_mono : (f g : ℕ → ℕ) (n : ℕ) → ((i : ℕ) → i < n → f i ≤ g i) → sum n f ≤ sum n g
unfolding sum
sum_mono f g zero h = omega arith
sum_mono f g (suc n) h = omega (arith, sum_mono f g n (λ i l. h i (omega arith)), h n (omega arith))

pub sum_same : (f g : ℕ → ℕ) (n : ℕ) → ((i : ℕ) → i < n → f i ≡ g i) → sum n f ≡ sum n g
unfolding sum
sum_same f g zero h = refl
sum_same f g (suc n) h = rw (sum_same f g n (λ i l. h i (omega arith)), h n (omega arith))

-- Terms of 0 behind the others add nothing.
pub sum-padded : (f : ℕ → ℕ) (n m : ℕ) → n ≤ m → ((i : ℕ) → n ≤ i → f i ≡ 0) → sum m f ≡ sum n f
unfolding sum
sum-padded f n m l h = le_ind (λ (k : ℕ). sum k f ≡ sum n f) refl (λ k u r. omega (arith, h k u, r)) m l

pub sum-most : (f : ℕ → ℕ) (m n : ℕ) → ((i : ℕ) → i < n → f i ≤ m) → sum n f ≤ n * m
unfolding sum
sum-most f m zero h = omega arith
sum-most f m (suc n) h = omega (arith, sum-most f m n (λ i l. h i (omega arith)), h n (omega arith), suc-mul n m)

-- One term of 0 leaves room for one more.
pub sum_but_one : (f : ℕ → ℕ) (m n i : ℕ) → i < n → f i ≡ 0 → ((j : ℕ) → j < n → f j ≤ m) → sum n f + m ≤ n * m
unfolding sum
sum_but_one f m zero i l z h = absurd (omega arith)
sum_but_one f m (suc n) i l z h =
    ⊎_elim
    (λ (e : i ≡ n).
    let y : f n ≡ 0 = rw e at z in
    omega (arith, sum-most f m n (λ j k. h j (omega arith)), y, suc-mul n m))
    (λ (k : i < n). omega (arith, sum_but_one f m n i k z (λ j u. h j (omega arith)), h n (omega arith), suc-mul n m))
    (eq-or-lt_of_le (omega arith))

-- A sum is exactly the sum of what each number brings, where f says exactly what it brings.
module _ (f : ℕ → ℕ) (brings : ℕ → ℕ → Type 0) (exactly : (i m : ℕ) → (f i ≡ m) ↔ brings i m) where
  pub sum-given : (n : ℕ) → SumOf brings n (sum n f)
  unfolding sum
  sum-given zero = of_none
  sum-given (suc n) = one_more n (sum n f) (f n) (sum-given n) ((exactly n (f n)).0 refl)

  pub sum_only : {n total : ℕ} → SumOf brings n total → sum n f ≡ total
  unfolding sum
  sum_only of_none = refl
  sum_only (one_more n total own r b) = rw (sum_only r, (exactly n own).1 b)
