-- Ones of a row of 16 bits.
use Prim.Native.Nat.{ℕ, zero, suc, ◌/◌, ◌^◌, ◌≤◌, ◌<◌}
use mathlib.Core.Path.{◌≡◌, ◌∙◌}
use native.Mathlib.Omega.{arith}
use native.Mathlib.Nat.{pow-suc}
use lib.Count.{ones, ones_in, ones_step, ones-le}
use Rattle.mend.specs.Rows.{ones_of}

-- As many digits as the number has are enough to count.
ones_within : (k v : ℕ) → v < 2 ^ k → ones v ≡ ones_in k v
unfolding ones ones_in
ones_within zero v h = let e : v ≡ 0 = omega arith in rw e
ones_within (suc k) v h = ones_step v ∙ rw (ones_within k (v / 2) (omega (arith, pow-suc 2 k)))

pub ones_of_small : (v : ℕ) → v < 65536 → ones v ≡ ones_of v
ones_of_small v h = ones_within 16 v h

pub ones-most : (v : ℕ) → v < 65536 → ones_of v ≤ 16
ones-most v h = omega (arith, ones-le 16 v h, ones_of_small v h)
