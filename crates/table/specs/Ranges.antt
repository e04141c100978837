-- The range of each number of a table.
use Rattle.std.specs.Prelude.{ℕ, ◌+◌, List, [], ◌∷◌, Bool, get_or, eqb, ltb, leb}
use Rattle.basis.specs.Tests.{pick, and}
use Rattle.table.specs.declared.Range.{Range}

-- From low up to below a limit.
abbrev pub range : ℕ → ℕ → Range
range low below = record { low = low; below = below }

unfoldable pub within : Range → ℕ → Bool
within r v = and (leb r.low v) (ltb v r.below)

-- Version 1 or 2.
abbrev pub versions : Range
versions = range 1 3

-- 1 to 16 domains.
abbrev pub domain_counts : Range
domain_counts = range 1 17

-- 1 to 32 threads.
abbrev pub thread_counts : Range
thread_counts = range 1 33

-- How many kinds a thread may be of: both in version 2 where its offset is 0, else periodic alone.
abbrev pub kinds : ℕ → ℕ → ℕ
kinds v offset = pick (and (eqb v 2) (eqb offset 0)) 2 1

-- The ranges of a thread's fields in a table of version v and d domains, by its period, its offset and its budget.
unfoldable pub field_ranges : ℕ → ℕ → ℕ → ℕ → ℕ → List Range
field_ranges v d period offset budget =
    range 0 d  -- domain: 0 to domains - 1
    ∷ range 0 256  -- priority: 0 to 255
    ∷ range 1 60001  -- period: 1 to 60,000
    ∷ range 0 period  -- offset: 0 to P - 1
    ∷ range 1 (period + 1)  -- budget: 1 to P
    ∷ range budget (period + 1)  -- deadline: W to P
    ∷ range 0 (budget + 1)  -- blocking share: 0 to W
    ∷ range 0 (kinds v offset)  -- kind: 0, or 1 in version 2 with an offset of 0
    ∷ []

-- The range of field k, by the fields vs before it: 2 is the period, 3 the offset, 4 the budget. A field past the last has none.
unfoldable pub field_range : ℕ → ℕ → List ℕ → ℕ → Range
field_range v d vs k = get_or (field_ranges v d (get_or vs 2 0) (get_or vs 3 0) (get_or vs 4 0)) k (range 0 0)
