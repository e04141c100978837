-- What admission needs of the quotient rounded up, from its two laws.
use Prim.Native.Nat.{ℕ, zero, suc, ◌+◌, ◌*◌, ◌≤◌, ◌<◌}
use lib.Dec.{lit<}
use native.Mathlib.Nat.{lt_of_le_of_lt, mul-le-mul, mul-one, mul-le-mul_left, suc-mul, le_trans}
use native.Mathlib.Decide.{dec_lt}
use native.Mathlib.Omega.{arith}
use Rattle.basis.specs.Ceil.{ceil}
use Rattle.basis.proofs.CeilLaws.{ceil_least, ceil_covers}

-- A longer length begins no fewer periods.
pub ceil_mono : (b : ℕ) → 1 ≤ b → {x y : ℕ} → x ≤ y → ceil x b ≤ ceil y b
ceil_mono b h {x} {y} l = ceil_least x b (ceil y b) h (le_trans l (ceil_covers y b h))

-- No more periods begin than there are steps.
pub ceil_le : (a b : ℕ) → 1 ≤ b → ceil a b ≤ a
ceil_le a b h = ceil_least a b a h (omega (arith, mul-le-mul_left a h, mul-one a))

-- The periods that begin reach less than one period past the length: with one fewer they would not cover it.
pub ceil_reach : (a b : ℕ) → 1 ≤ b → ceil a b * b < a + b
ceil_reach a b h = go (ceil a b) (λ n l. ceil_least a b n h l)
  where
    go : (c : ℕ) → ((n : ℕ) → a ≤ n * b → c ≤ n) → c * b < a + b
    go zero f = omega arith
    go (suc n) f = further (dec_lt (n * b) a)
      where
        further : Dec (n * b < a) → suc n * b < a + b
        further (yes l) = omega (arith, suc-mul n b)
        further (no l) = absurd (omega (arith, f n (omega arith)))

-- A product of what the code can be handed fits in 64 bits.
pub product_fits : (a b w : ℕ) → 1 ≤ b → a < 4294967296 → w < 65536 → ceil a b * w < 18446744073709551616
product_fits a b w h k l =
    lt_of_le_of_lt (mul-le-mul {n₂ = 4294967295} {m₂ = 65535} (le_trans (ceil_le a b h) (omega arith)) (omega arith)) (lit< tt)
