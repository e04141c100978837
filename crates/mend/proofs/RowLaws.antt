-- Rows, grids and bits: the filled grid says what the rows say, the rows of a grid what the grid says, and 16 rows are told apart by what they let flow.
use Prim.Native.Nat.{ℕ, zero, suc, ◌+◌, ◌-◌, ◌*◌, ◌/◌, ◌%◌, ◌^◌, ◌≤◌, ◌<◌}
use mathlib.Core.Path.{◌≡◌, sym, ◌∙◌}
use mathlib.Core.List.{List, [], append-nil}
use mathlib.Core.Bool.{Bool, true, false}
use native.Mathlib.Decide.{dec_lt}
use native.Mathlib.Nat.{div-one, pow-suc}
use native.Mathlib.Omega.{arith}
use borrow.Author.Tests.{eqb-true, eqb-false}
use lib.Dec.{eqb}
use lib.ListN.{length, get_or, get_or-eq_default}
use lib.Pow.{shr_le}
use lib.Seq.{ext_get_or}
use Rattle.basis.specs.Search.{listed}
use Rattle.basis.proofs.SearchLaws.{length-listed, listed_at}
use Rattle.basis.proofs.TestLaws.{by_test, fails}
use Rattle.flow.specs.Flow.{flows}
use Rattle.flow.proofs.FlowLaws.{no_bits, half_first, row_known, row_own, row_small}
use Rattle.mend.specs.Grid.{cell, filled}
use Rattle.mend.specs.Rows.{row_from, rows_of}
use Rattle.mend.specs.Plain.{Policy, Sixteen}
use Rattle.mend.proofs.BitLaws.{row_from_small, row_from_bit}

-- What stands at a place of a list that is made place by place.
at_place : {A : Type 0} (f : ℕ → A) (n i : ℕ) (a : A) → i < n → get_or (listed n f) i a ≡ f i
at_place f n i a h = rw (append-nil (listed n f)) at (listed_at f n i [] a h)

pub filled_long : (rows : List ℕ) → length (filled rows) ≡ 256
unfolding filled
filled_long rows = length-listed 256 (λ c. flows rows (c / 16) (c % 16))

pub filled-cell : (rows : List ℕ) (a b : ℕ) → a < 16 → b < 16 → cell (filled rows) a b ≡ flows rows a b
unfolding filled
filled-cell rows a b ha hb =
    let p : (16 * a + b) / 16 ≡ a = omega arith in
    let q : (16 * a + b) % 16 ≡ b = omega arith in
    at_place (λ c. flows rows (c / 16) (c % 16)) 256 (16 * a + b) false (omega arith) ∙ rw (p, q)

-- The rows of a grid.
pub rows_long : (g : List Bool) → length (rows_of g) ≡ 16
unfolding rows_of
rows_long g = length-listed 16 (λ a. row_from g a 16)

row_at : (g : List Bool) (a : ℕ) → a < 16 → get_or (rows_of g) a 0 ≡ row_from g a 16
unfolding rows_of
row_at g a h = at_place (λ a. row_from g a 16) 16 a 0 h

row_past : (rows : List ℕ) (a : ℕ) → length rows ≤ a → get_or rows a 0 ≡ 0
row_past rows a h = get_or-eq_default rows 0 h

pub rows_sixteen : (g : List Bool) → Sixteen (rows_of g)
rows_sixteen g = record {
  long = rows_long g;
  small = λ i. go i (dec_lt i 16);
}
  where
    go : (i : ℕ) → Dec (i < 16) → get_or (rows_of g) i 0 < 65536
    go i (yes h) = rw (row_at g i h) (row_from_small g i 16)
    go i (no h) = rw (row_past (rows_of g) i (omega (arith, rows_long g))) (omega arith)

pub rows_flow : (g : List Bool) (a b : ℕ) → a < 16 → b < 16 → flows (rows_of g) a b ≡ cell g a b
unfolding flows
rows_flow g a b ha hb =
    let e : 16 - 16 + b ≡ b = omega arith in
    rw (row_at g a ha) (row_from_bit g a 16 b (omega arith) hb ∙ rw e)

-- A row of 0 lets nothing flow, and no row flows past its bits.
no_flow : (rows : List ℕ) (a b : ℕ) → get_or rows a 0 / 2 ^ b ≡ 0 → flows rows a b ≡ true → ⊥
unfolding flows
no_flow rows a b e f = let one : get_or rows a 0 / 2 ^ b % 2 ≡ 1 = eqb-true _ _ f in omega arith

pub zero_flow : (rows : List ℕ) (a b : ℕ) → get_or rows a 0 ≡ 0 → flows rows a b ≡ true → ⊥
zero_flow rows a b e f = no_flow rows a b (rw e (omega (arith, shr_le 0 b))) f

-- 16 rows of 16 bits let only the first 16 domains flow, to the first 16.
pub sixteen_known : (rows : List ℕ) (a b : ℕ) → Sixteen rows → flows rows a b ≡ true → (a < 16) × (b < 16)
sixteen_known rows a b s f = (source (dec_lt a 16), target (dec_lt b 16))
  where
    source : Dec (a < 16) → a < 16
    source (yes h) = h
    source (no h) = absurd (zero_flow rows a b (row_past rows a (omega (arith, s.long))) f)

    target : Dec (b < 16) → b < 16
    target (yes h) = h
    target (no h) = absurd (no_flow rows a b (no_bits (get_or rows a 0) b (s.small a) (omega arith)) f)

-- A policy lets only its own domains flow.
pub policy_known : (d : ℕ) (rows : List ℕ) (a b : ℕ) → Policy d rows → flows rows a b ≡ true → (a < d) × (b < d)
policy_known d rows a b p f = let h : a < d = go (dec_lt a d) in (h, row_known rows d a b (p.passing.at a h) f)
  where
    go : Dec (a < d) → a < d
    go (yes h) = h
    go (no h) = absurd (zero_flow rows a b (p.unused a (omega arith)) f)

pub policy_own : (d : ℕ) (rows : List ℕ) (a : ℕ) → Policy d rows → a < d → flows rows a a ≡ true
policy_own d rows a p h = row_own rows d a (p.passing.at a h)

-- Numbers of n bits are told apart by these.
pub bits_same : (n v w : ℕ) → v < 2 ^ n → w < 2 ^ n → ((j : ℕ) → j < n → v / 2 ^ j % 2 ≡ w / 2 ^ j % 2) → v ≡ w
bits_same zero v w hv hw h = omega arith
bits_same (suc n) v w hv hw h =
    let halves : v / 2 ≡ w / 2 = bits_same n (v / 2) (w / 2) (omega (arith, pow-suc 2 n)) (omega (arith, pow-suc 2 n))
    (λ j l. rw (half_first v j, half_first w j) at (h (suc j) (omega arith))) in
    let low : v % 2 ≡ w % 2 = rw (div-one v, div-one w) at (h 0 (omega arith)) in
    omega arith

same_bit : (v w : ℕ) → eqb (v % 2) 1 ≡ eqb (w % 2) 1 → v % 2 ≡ w % 2
same_bit v w e = by_test (eqb (v % 2) 1)
    (λ p. let q : v % 2 ≡ 1 = eqb-true _ _ p in let r : w % 2 ≡ 1 = eqb-true _ _ (sym e ∙ p) in omega arith)
    (λ p. let q = eqb-false (v % 2) 1 p in let r = eqb-false (w % 2) 1 (sym e ∙ p) in zero_both q r)
  where
    zero_both : (v % 2 ≡ 1 → ⊥) → (w % 2 ≡ 1 → ⊥) → v % 2 ≡ w % 2
    zero_both q r = omega arith

-- So are 16 rows of 16 bits, by what they let flow.
pub rows_same : (ms ns : List ℕ) → Sixteen ms → Sixteen ns → ((a b : ℕ) → flows ms a b ≡ flows ns a b) → ms ≡ ns
unfolding flows
rows_same ms ns s t h =
    ext_get_or 0 ms ns (s.long ∙ sym t.long)
    (λ i l. bits_same 16 (get_or ms i 0) (get_or ns i 0) (s.small i) (t.small i) (λ j k. same_bit (get_or ms i 0 / 2 ^ j) (get_or ns i 0 / 2 ^ j) (h i j)))

-- A row of 16 bits that lets nothing flow is 0.
pub still_zero : (rows : List ℕ) (a : ℕ) → Sixteen rows → ((b : ℕ) → flows rows a b ≡ true → ⊥) → get_or rows a 0 ≡ 0
unfolding flows
still_zero rows a s h = bits_same 16 (get_or rows a 0) 0 (s.small a) (omega arith)
    (λ j l. same_bit (get_or rows a 0 / 2 ^ j) (0 / 2 ^ j) (fails _ (h j) ∙ sym (fails _ (none j))))
  where
    none : (j : ℕ) → eqb (0 / 2 ^ j % 2) 1 ≡ true → ⊥
    none j e = let one : 0 / 2 ^ j % 2 ≡ 1 = eqb-true _ _ e in omega (arith, shr_le 0 j)

-- A policy's rows have 16 bits.
pub policy_small : (d : ℕ) (rows : List ℕ) → Policy d rows → (i : ℕ) → get_or rows i 0 < 65536
policy_small d rows p i = go (dec_lt i d)
  where
    go : Dec (i < d) → get_or rows i 0 < 65536
    go (yes h) = row_small d i (get_or rows i 0) p.few (p.passing.at i h)
    go (no h) = rw (p.unused i (omega arith)) (omega arith)
