-- The rows of a closed grid, the pairs that they have and the given rows have not, and how many these are.
use Rattle.std.specs.Prelude.{ℕ, zero, suc, ◌+◌, ◌-◌, ◌*◌, ◌/◌, ◌%◌, ◌≤◌, ◌<◌, List, [], ◌∷◌, ◌++◌, Bool, not, get_or}
use Rattle.std.specs.Int.Count.{ones_in}
use Rattle.basis.specs.Tests.{pick, and}
use Rattle.basis.specs.Search.{listed}
use Rattle.flow.specs.Flow.{flows}
use Rattle.mend.specs.Grid.{cell, filled, closed}

-- The number of the last n columns of row a: column 16 - n is its bit 0.
unfoldable pub row_from : List Bool → ℕ → ℕ → ℕ
row_from g a zero = 0
row_from g a (suc n) = pick (cell g a (15 - n)) 1 0 + 2 * row_from g a n

-- The 16 rows of a grid.
unfoldable pub rows_of : List Bool → List ℕ
rows_of g = listed 16 (λ a. row_from g a 16)

-- The smallest transitive relation over d domains that holds what the rows hold.
unfoldable pub mended : ℕ → List ℕ → List ℕ
mended d rows = rows_of (closed d d (filled rows))

-- Pair c, from domain c / 16 to domain c % 16, is in the rows ms and not in rows.
unfoldable pub is_added : List ℕ → List ℕ → ℕ → Bool
is_added rows ms c = and (flows ms (c / 16) (c % 16)) (not (flows rows (c / 16) (c % 16)))

-- Those of the first n pairs, in order.
unfoldable pub added : List ℕ → List ℕ → ℕ → List ℕ
added rows ms zero = []
added rows ms (suc c) = added rows ms c ++ pick (is_added rows ms c) (c ∷ []) []

-- The ones of a row of 16 bits.
abbrev pub ones_of : ℕ → ℕ
ones_of v = ones_in 16 v

-- Ones counted in each of the first n rows ms less ones in the given row, summed.
unfoldable pub count : List ℕ → List ℕ → ℕ → ℕ
count rows ms zero = 0
count rows ms (suc i) = count rows ms i + (ones_of (get_or ms i 0) - ones_of (get_or rows i 0))

-- Each row has at least the ones of the given row, so that none of these differences is cut off at 0.
pub record Counted (rows ms : List ℕ) : Type 0 where
  pub at : (i : ℕ) → i < 16 → ones_of (get_or rows i 0) ≤ ones_of (get_or ms i 0)
