-- A grid of 256 cells, closed under transitivity: which domain may flow to which, also by way of others.
use Rattle.std.specs.Prelude.{ℕ, zero, suc, ◌+◌, ◌*◌, ◌/◌, ◌%◌, List, Bool, false, get_or, set}
use Rattle.basis.specs.Tests.{and, or}
use Rattle.basis.specs.Search.{listed}
use Rattle.flow.specs.Flow.{flows}

-- Cell 16 * a + b says whether domain a may flow to domain b.
abbrev pub cell : List Bool → ℕ → ℕ → Bool
cell g a b = get_or g (16 * a + b) false

-- The grid that says what the rows say.
unfoldable pub filled : List ℕ → List Bool
filled rows = listed 256 (λ c. flows rows (c / 16) (c % 16))

-- By the grid, a may flow to b, or to k and k to b.
unfoldable pub by_way : List Bool → ℕ → ℕ → ℕ → Bool
by_way g k a b = or (cell g a b) (and (cell g a k) (cell g k b))

-- The grid once a may flow to b by way of k.
unfoldable pub joined : ℕ → ℕ → ℕ → List Bool → List Bool
joined k a b g = set g (16 * a + b) (by_way g k a b)

-- The same for each of the first n targets b in turn.
unfoldable pub widened : ℕ → ℕ → ℕ → List Bool → List Bool
widened k a zero g = g
widened k a (suc b) g = joined k a b (widened k a b g)

-- The same, with d targets, for each of the first n sources a in turn.
unfoldable pub passed : ℕ → ℕ → ℕ → List Bool → List Bool
passed d k zero g = g
passed d k (suc a) g = widened k a d (passed d k a g)

-- The same, with d sources and targets, by way of each of the first n domains k in turn.
unfoldable pub closed : ℕ → ℕ → List Bool → List Bool
closed d zero g = g
closed d (suc k) g = passed d k d (closed d k g)
