-- The flow relation: 16 rows, one number a row.
use Rattle.std.specs.Prelude.{ℕ, ◌/◌, ◌%◌, ◌^◌, List, Bool, get_or, eqb}
use Rattle.basis.specs.Tests.{and}

-- Bit j of row i is set: domain i may flow to domain j.
unfoldable pub flows : List ℕ → ℕ → ℕ → Bool
flows rows i j = eqb (get_or rows i 0 / 2 ^ j % 2) 1

-- Row i, of value v, has no bit for a domain that a table of d domains lacks, and has its own.
unfoldable pub row_ok : ℕ → ℕ → ℕ → Bool
row_ok d i v = and (eqb (v / 2 ^ d) 0) (eqb (v / 2 ^ i % 2) 1)
