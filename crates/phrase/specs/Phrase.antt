-- A template and its numbers: each `#` stands for the decimal text of the next number, every other character for itself.
use Rattle.std.specs.Prelude.{ℕ, List, [], ◌∷◌, ◌++◌, Bool, get_or, drop, eqb}
use Rattle.basis.specs.Tests.{pick}
use Rattle.decimal.specs.Decimal.{decimal}

-- The character stands for a number.
abbrev pub is_hole : ℕ → Bool
is_hole b = eqb b 0x23

-- What stands for a character, where n is the next number.
unfoldable pub piece : ℕ → ℕ → List ℕ
piece b n = pick (is_hole b) (decimal n) (b ∷ [])

-- How many numbers it uses up.
unfoldable pub used : ℕ → ℕ
used b = pick (is_hole b) 1 0

-- The template filled in with the numbers in their order; where none is left, it is 0.
unfoldable pub filled : List ℕ → List ℕ → List ℕ
filled [] ns = []
filled (b ∷ t) ns = piece b (get_or ns 0 0) ++ filled t (drop (used b) ns)
