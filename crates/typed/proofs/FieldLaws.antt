-- What a character does to a field, case by case, and reading on until a field ends.
use Prim.Native.Nat.{ℕ, ◌+◌, ◌-◌, ◌≤◌, ◌<◌}
use mathlib.Core.Path.{◌≡◌, refl, sym, ◌∙◌, ap}
use mathlib.Core.List.{List}
use mathlib.Core.Bool.{Bool, true, false}
use native.Mathlib.Omega.{arith}
use lib.ListN.{length, get_or, drop, drop_of_length-le}
use lib.Dec.{leb}
use borrow.Author.Tests.{eq-eqb, ne_eqb, leb-true}
use Rattle.basis.specs.Tests.{pick}
use Rattle.basis.proofs.TestLaws.{and_both}
use Rattle.basis.proofs.ListLaws.{drop-some}
use Rattle.typed.specs.Fields.{Field, is_digit, fed, read_on}

-- A choice by a test whose answer is known.
pub pick_first : {A : Type 0} {b : Bool} (x y : A) → b ≡ true → pick b x y ≡ x
unfolding pick
pick_first x y e = rw e

pub pick_second : {A : Type 0} {b : Bool} (x y : A) → b ≡ false → pick b x y ≡ y
unfolding pick
pick_second x y e = rw e

-- A digit is one.
pub digit_low : (b : ℕ) → is_digit b ≡ true → 48 ≤ b
unfolding is_digit
digit_low b e = leb-true 48 b (and_both (leb 48 b) (leb b 57) e).0

pub digit_small : (b : ℕ) → is_digit b ≡ true → b - 48 < 10
unfolding is_digit
digit_small b e = omega (arith, leb-true b 57 (and_both (leb 48 b) (leb b 57) e).1)

-- Reading on: the field goes on, it ends, or the part does.
module _ (f : Field) (s : List ℕ) (k : ℕ) where
  pub read_more : {g : Field} → g ≡ fed f (get_or s k 0) → k < length s → g.ended ≡ 0 → read_on f (drop k s) k ≡ read_on g (drop (k + 1) s) (k + 1)
  unfolding read_on pick
  read_more {g} e h z =
      rw (drop-some s k (get_or s k 0) refl h, eq-eqb (fed f (get_or s k 0)).ended 0 (sym (ap (λ (x : Field). x.ended) e) ∙ z))
      (ap (λ (x : Field). read_on x (drop (k + 1) s) (k + 1)) (sym e))

  pub read_stop : {g : Field} → g ≡ fed f (get_or s k 0) → k < length s → (g.ended ≡ 0 → ⊥) → read_on f (drop k s) k ≡ record { field = g; next = k + 1 }
  unfolding read_on pick
  read_stop {g} e h z =
      rw (drop-some s k (get_or s k 0) refl h, ne_eqb (fed f (get_or s k 0)).ended 0 (λ q. z (ap (λ (x : Field). x.ended) e ∙ q)))
      (ap (λ (x : Field). record { field = x; next = k + 1 }) (sym e))

  pub read_end : length s ≤ k → read_on f (drop k s) k ≡ record { field = f; next = k }
  unfolding read_on
  read_end h = rw (drop_of_length-le s h)
