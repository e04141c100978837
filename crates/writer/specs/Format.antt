-- The numbers of a table in their order, and its bytes.
use Rattle.std.specs.Prelude.{ℕ, zero, suc, List, [], ◌∷◌, ◌++◌, get_or, take}
use Rattle.basis.specs.Search.{listed}
use Rattle.table.specs.Threads.{none, fields, fields_in}
use Rattle.table.specs.declared.Table.{Table}
use Rattle.table.specs.declared.Thread.{Thread}
use Rattle.numeral.specs.Number.{encode_all}

-- One row for each of n domains.
unfoldable pub row_numbers : List ℕ → ℕ → List ℕ
row_numbers rows n = listed n (λ i. get_or rows i 0)

-- The fields of a thread that stand in the bytes of version v.
abbrev pub written_fields : ℕ → Thread → List ℕ
written_fields v th = take (fields_in v) (fields th)

-- Those of each of n threads.
unfoldable pub thread_numbers : ℕ → List Thread → ℕ → List ℕ
thread_numbers v ths zero = []
thread_numbers v ths (suc i) = thread_numbers v ths i ++ written_fields v (get_or ths i none)

-- Version, domains, threads, the rows, the threads: a table is written in its version.
unfoldable pub numbers : Table → List ℕ
numbers t =
    t.version ∷ t.domains ∷ t.count
    ∷ (row_numbers t.rows t.domains ++ thread_numbers t.version t.threads t.count)

unfoldable pub bytes : Table → List ℕ
bytes t = encode_all (numbers t)
