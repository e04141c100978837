-- The pairs added are as many as the ones counted, and at most 240: row by row, each column adds to the list what it adds to the ones.
use Prim.Native.Nat.{ℕ, zero, suc, ◌+◌, ◌*◌, ◌/◌, ◌%◌, ◌^◌, ◌≤◌, ◌<◌}
use mathlib.Core.Path.{◌≡◌, refl, ◌∙◌}
use mathlib.Core.List.{List}
use mathlib.Core.Bool.{true, false, not}
use native.Mathlib.Nat.{div-one}
use native.Mathlib.Omega.{arith}
use borrow.Author.Tests.{eqb-true, eqb-false}
use lib.Count.{ones_in}
use lib.ListN.{length, get_or}
use Rattle.basis.specs.Tests.{and}
use Rattle.basis.proofs.TestLaws.{by_test, refuted}
use Rattle.flow.specs.Flow.{flows}
use Rattle.flow.proofs.FlowLaws.{half_first}
use Rattle.mend.specs.Rows.{is_added, added, count, Counted}
use Rattle.mend.proofs.PairLaws.{length_hit, length_none, length_grows}

-- One digit more, at the top.
ones-top : (n v : ℕ) → ones_in (suc n) v ≡ ones_in n v + v / 2 ^ n % 2
unfolding ones_in
ones-top zero v = rw (div-one v) (omega arith)
ones-top (suc n) v = rw (half_first v n) (omega (arith, ones-top n (v / 2)))

pub first-none : (rows ms : List ℕ) → length (added rows ms 0) ≡ 0
unfolding added
first-none rows ms = refl

-- The relation ms holds rows, as far as 16 rows of 16 bits go.
pub record Wider (rows ms : List ℕ) : Type 0 where
  pub at : (a b : ℕ) → a < 16 → b < 16 → flows rows a b ≡ true → flows ms a b ≡ true

-- A digit is 1 where the flow is, and else 0.
up : (rows : List ℕ) (a b : ℕ) → flows rows a b ≡ true → get_or rows a 0 / 2 ^ b % 2 ≡ 1
unfolding flows
up rows a b e = eqb-true _ _ e

down : (rows : List ℕ) (a b : ℕ) → flows rows a b ≡ false → get_or rows a 0 / 2 ^ b % 2 ≡ 0
unfolding flows
down rows a b e = let h : get_or rows a 0 / 2 ^ b % 2 ≡ 1 → ⊥ = eqb-false _ _ e in omega arith

-- The digits of the two rows at a column, and whether the pair is added.
pub added-cell : (rows ms : List ℕ) (a b : ℕ) → a < 16 → b < 16 → is_added rows ms (16 * a + b) ≡ and (flows ms a b) (not (flows rows a b))
unfolding is_added
added-cell rows ms a b ha hb =
    let p : (16 * a + b) / 16 ≡ a = omega arith in
    let q : (16 * a + b) % 16 ≡ b = omega arith in
    rw (p, q)

module _ (rows ms : List ℕ) (w : Wider rows ms) where
  -- One column.
  column : (a b : ℕ) → a < 16 → b < 16
      → length (added rows ms (suc (16 * a + b))) + get_or rows a 0 / 2 ^ b % 2 ≡ length (added rows ms (16 * a + b)) + get_or ms a 0 / 2 ^ b % 2
  column a b ha hb = by_test (flows ms a b)
      (λ m. by_test (flows rows a b)
      (λ r. omega (arith, up rows a b r, up ms a b m, length_none rows ms (16 * a + b) (added-cell rows ms a b ha hb ∙ rw (m, r))))
      (λ r. omega (arith, down rows a b r, up ms a b m, length_hit rows ms (16 * a + b) (added-cell rows ms a b ha hb ∙ rw (m, r)))))
      (λ m. by_test (flows rows a b)
      (λ r. refuted (w.at a b ha hb r) m)
      (λ r. omega (arith, down rows a b r, down ms a b m, length_none rows ms (16 * a + b) (added-cell rows ms a b ha hb ∙ rw m))))

  -- The first n columns of a row.
  columns : (a n : ℕ) → a < 16 → n ≤ 16
      → length (added rows ms (16 * a + n)) + ones_in n (get_or rows a 0) ≡ length (added rows ms (16 * a)) + ones_in n (get_or ms a 0)
  unfolding ones_in
  columns a zero ha h = let e : 16 * a + 0 ≡ 16 * a = omega arith in rw e
  columns a (suc n) ha h =
      let e : 16 * a + suc n ≡ suc (16 * a + n) = omega arith in
      rw (e, ones-top n (get_or rows a 0), ones-top n (get_or ms a 0)) (omega (arith, columns a n ha (omega arith), column a n ha h))

  -- The first n rows.
  counted-rows : (n : ℕ) → n ≤ 16 → length (added rows ms (16 * n)) ≡ count rows ms n
  unfolding count
  counted-rows zero h = first-none rows ms
  counted-rows (suc n) h =
      let e : 16 * suc n ≡ 16 * n + 16 = omega arith in
      rw e (omega (arith, counted-rows n (omega arith), columns n 16 h (omega arith), length_grows rows ms (16 * n) (16 * n + 16) (omega arith)))

  pub added-count : length (added rows ms 256) ≡ count rows ms 16
  added-count = counted-rows 16 (omega arith)

  pub wider_counted : Counted rows ms
  wider_counted = record {
    at = λ i h. omega (arith, columns i 16 h (omega arith), length_grows rows ms (16 * i) (16 * i + 16) (omega arith));
  }
