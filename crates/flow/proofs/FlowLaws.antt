-- Laws of the rows' bits: a number below 2 ^ 16 has none from 16 on.
use Prim.Native.Nat.{ℕ, zero, suc, ◌+◌, ◌*◌, ◌/◌, ◌%◌, ◌^◌, ◌≤◌, ◌<◌}
use mathlib.Core.Path.{◌≡◌, sym, ◌∙◌, ap}
use mathlib.Core.List.{List}
use mathlib.Core.Bool.{true}
use native.Mathlib.Omega.{arith}
use native.Mathlib.Decide.{dec_lt}
use native.Mathlib.Nat.{div-lt_iff_lt-mul, div-one, le_refl, min-le_left, min-le_right}
use lib.Bits.{bit_and, and_step}
use lib.Pow.{pow_pos, pow_mono, shr-shr}
use lib.ListN.{get_or}
use lib.Dec.{eqb}
use borrow.Author.Tests.{eqb-true, eqb-false, eq-eqb}
use Rattle.basis.proofs.TestLaws.{by_test, and_both, and-of}
use Rattle.flow.specs.Flow.{flows, row_ok}

pub no_bits : (v d : ℕ) → v < 65536 → 16 ≤ d → v / 2 ^ d ≡ 0
no_bits v d h k =
    let l : v < 1 * 2 ^ d = omega (arith, pow_mono {i = 16} {j = d} k) in
    let q : v / 2 ^ d < 1 = (div-lt_iff_lt-mul (pow_pos d)).1 l in
    omega arith

-- A row that passes in a table of at most 16 domains is a number of 16 bits.
pub row_small : (d i v : ℕ) → d ≤ 16 → row_ok d i v ≡ true → v < 65536
unfolding row_ok
row_small d i v h e =
    let z : v / 2 ^ d ≡ 0 = eqb-true _ _ (and_both (eqb (v / 2 ^ d) 0) (eqb (v / 2 ^ i % 2) 1) e).0 in
    let l : v < 1 * 2 ^ d = (div-lt_iff_lt-mul (pow_pos d)).0 (omega arith) in
    omega (arith, pow_mono {i = d} {j = 16} h)

-- A number with no bit from d on has none from a later place on.
no_bits_on : (v d j : ℕ) → v / 2 ^ d ≡ 0 → d ≤ j → v / 2 ^ j ≡ 0
no_bits_on v d j e h =
    let l : v < 1 * 2 ^ d = (div-lt_iff_lt-mul (pow_pos d)).0 (omega arith) in
    let m : v < 1 * 2 ^ j = omega (arith, pow_mono {i = d} {j = j} h) in
    let q : v / 2 ^ j < 1 = (div-lt_iff_lt-mul (pow_pos j)).1 m in
    omega arith

-- A number all of whose bits are 0 is 0.
zero_of_bits : (n w : ℕ) → w ≤ n → ((k : ℕ) → w / 2 ^ k % 2 ≡ 0) → w ≡ 0
zero_of_bits zero w h b = omega arith
zero_of_bits (suc n) w h b =
    let half : w / 2 ≡ 0 = zero_of_bits n (w / 2) (omega arith) (λ k. rw (shr-shr w 1 k) (b (1 + k))) in
    let low : w % 2 ≡ 0 = rw (div-one w) at (b 0) in
    omega arith

-- A row passes exactly where the relation that it states names only domains of the table, its own among them.
pub row_known : (rows : List ℕ) (d i j : ℕ) → row_ok d i (get_or rows i 0) ≡ true → flows rows i j ≡ true → j < d
unfolding row_ok flows
row_known rows d i j e f =
    let v : ℕ = get_or rows i 0 in
    let z : v / 2 ^ d ≡ 0 = eqb-true _ _ (and_both (eqb (v / 2 ^ d) 0) _ e).0 in
    let one : v / 2 ^ j % 2 ≡ 1 = eqb-true _ _ f in
    go v z one (dec_lt j d)
  where
    go : (v : ℕ) → v / 2 ^ d ≡ 0 → v / 2 ^ j % 2 ≡ 1 → Dec (j < d) → j < d
    go v z one (yes l) = l
    go v z one (no l) = let q : v / 2 ^ j ≡ 0 = no_bits_on v d j z (omega arith) in absurd (omega arith)

pub row_own : (rows : List ℕ) (d i : ℕ) → row_ok d i (get_or rows i 0) ≡ true → flows rows i i ≡ true
unfolding row_ok flows
row_own rows d i e = (and_both (eqb (get_or rows i 0 / 2 ^ d) 0) _ e).1

pub row_of : (rows : List ℕ) (d i : ℕ) → ((j : ℕ) → flows rows i j ≡ true → j < d) → flows rows i i ≡ true → row_ok d i (get_or rows i 0) ≡ true
unfolding row_ok flows
row_of rows d i known own =
    let v : ℕ = get_or rows i 0 in
    let bit : (k : ℕ) → v / 2 ^ d / 2 ^ k % 2 ≡ 0 = λ k. rw (shr-shr v d k) (by_test (eqb (v / 2 ^ (d + k) % 2) 1)
    (λ e. absurd (omega (arith, known (d + k) e)))
    (λ e. even (v / 2 ^ (d + k)) (eqb-false _ _ e))) in
    and-of (eq-eqb _ _ (zero_of_bits (v / 2 ^ d) (v / 2 ^ d) (le_refl _) bit)) own
  where
    even : (x : ℕ) → (x % 2 ≡ 1 → ⊥) → x % 2 ≡ 0
    even x h = omega arith

pub half_first : (n k : ℕ) → n / 2 ^ suc k ≡ n / 2 / 2 ^ k
half_first n k = let e : 1 + k ≡ suc k = omega arith in sym (shr-shr n 1 k ∙ ap (λ (x : ℕ). n / 2 ^ x) e)

-- A number that has every bit of v has its bit k.
pub covered_bit : (k v w : ℕ) → bit_and v w ≡ v → v / 2 ^ k % 2 ≡ 1 → w / 2 ^ k % 2 ≡ 1
covered_bit zero v w e o =
    let s = and_step v w in
    let l = min-le_right (v % 2) (w % 2) in
    let v_odd : v % 2 ≡ 1 = rw (div-one v) at o in
    let w-odd : w % 2 ≡ 1 = omega arith in
    rw (div-one w) w-odd
covered_bit (suc k) v w e o =
    let s = and_step v w in
    let l = min-le_left (v % 2) (w % 2) in
    let half : bit_and (v / 2) (w / 2) ≡ v / 2 = omega arith in
    rw (half_first w k) (covered_bit k (v / 2) (w / 2) half (rw (half_first v k) at o))
