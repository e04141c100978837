-- Whole steps by numbers alone: they stand within the masks and the bytes, and without threads there are none.
use Prim.Native.Nat.{ℕ, ◌*◌, ◌/◌, ◌≤◌}
use mathlib.Core.Path.{◌≡◌}
use native.Mathlib.Omega.{arith}
use native.Mathlib.Nat.{div-zero, div-add-mod', mul-le-mul_right}
use Rattle.runs.specs.Playing.{steps_in}

module _ (count masks bytes n : ℕ) (h : n ≤ steps_in count masks bytes) where
  pub steps_masks : n ≤ masks
  unfolding steps_in
  steps_masks = omega arith

  steps_few : n ≤ bytes / count
  unfolding steps_in
  steps_few = omega arith

  pub steps-bytes : n * count ≤ bytes
  steps-bytes = omega (arith, div-add-mod' bytes count, mul-le-mul_right count steps_few)

pub steps-none : (count masks bytes : ℕ) → count ≡ 0 → 0 ≡ steps_in count masks bytes
unfolding steps_in
steps-none count masks bytes e = rw (e, div-zero bytes) (omega arith)
