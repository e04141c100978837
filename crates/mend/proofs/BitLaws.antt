-- The bits of a row that is made of a grid's cells.
use Prim.Native.Nat.{ℕ, zero, suc, ◌+◌, ◌-◌, ◌*◌, ◌/◌, ◌%◌, ◌^◌, ◌≤◌, ◌<◌}
use mathlib.Core.Path.{◌≡◌, refl}
use mathlib.Core.List.{List}
use mathlib.Core.Bool.{Bool, true, false}
use native.Mathlib.Omega.{arith}
use native.Mathlib.Nat.{div-one, pow-suc}
use lib.Dec.{eqb}
use lib.Pow.{pow_mono}
use mir.Val.{bool_byte}
use Rattle.basis.specs.Tests.{pick}
use Rattle.flow.proofs.FlowLaws.{half_first}
use Rattle.mend.specs.Grid.{cell}
use Rattle.mend.specs.Rows.{row_from}

-- A bit is 0 or 1.
pub digit_small : (b : Bool) → pick b 1 0 < 2
unfolding pick
digit_small true = omega arith
digit_small false = omega arith

-- `u16::from` of a bool gives it.
pub digit-byte : (b : Bool) → bool_byte b ≡ pick b 1 0
unfolding pick
digit-byte true = refl
digit-byte false = refl

-- One column more, the one before b.
pub row_from-next : (g : List Bool) (a b : ℕ) → 0 < b → b ≤ 16 → bool_byte (cell g a (b - 1)) + 2 * row_from g a (16 - b) ≡ row_from g a (16 - (b - 1))
unfolding row_from
row_from-next g a b lo hi =
    let e : 16 - (b - 1) ≡ suc (16 - b) = omega arith in
    let f : 15 - (16 - b) ≡ b - 1 = omega arith in
    rw (e, f, digit-byte (cell g a (b - 1)))

-- The last n columns make a number of n bits.
pub row_from_small : (g : List Bool) (a n : ℕ) → row_from g a n < 2 ^ n
unfolding row_from
row_from_small g a zero = omega arith
row_from_small g a (suc n) = omega (arith, row_from_small g a n, digit_small (cell g a (15 - n)), pow-suc 2 n)

pub row_from-fits : (g : List Bool) (a n : ℕ) → n ≤ 15 → row_from g a n < 32768
row_from-fits g a n h = omega (arith, row_from_small g a n, pow_mono {i = n} {j = 15} h)

low : (d n : ℕ) → d < 2 → (d + 2 * n) % 2 ≡ d
low d n h = omega arith

high : (d n : ℕ) → d < 2 → (d + 2 * n) / 2 ≡ n
high d n h = omega arith

digit-is : (b : Bool) → eqb (pick b 1 0) 1 ≡ b
unfolding pick
digit-is true = refl
digit-is false = refl

-- Bit j of the last n columns is column 16 - n + j.
pub row_from_bit : (g : List Bool) (a n j : ℕ) → n ≤ 16 → j < n → eqb (row_from g a n / 2 ^ j % 2) 1 ≡ cell g a (16 - n + j)
unfolding row_from
row_from_bit g a zero j h l = absurd (omega arith)
row_from_bit g a (suc n) zero h l =
    let e : 15 - n ≡ 16 - suc n + 0 = omega arith in
    rw (div-one (pick (cell g a (15 - n)) 1 0 + 2 * row_from g a n), low _ (row_from g a n) (digit_small (cell g a (15 - n))), digit-is (cell g a (15 - n)), e)
row_from_bit g a (suc n) (suc j) h l =
    let e : 16 - n + j ≡ 16 - suc n + suc j = omega arith in
    rw (half_first (pick (cell g a (15 - n)) 1 0 + 2 * row_from g a n) j, high _ (row_from g a n) (digit_small (cell g a (15 - n))), ← e)
    (row_from_bit g a n j (omega arith) (omega arith))
