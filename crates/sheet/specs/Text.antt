-- The text of a table in the comma form: a line of version, domains and threads, one line of rows, one line a thread.
use Rattle.std.specs.Prelude.{ℕ, zero, suc, ◌-◌, ◌%◌, List, [], ◌∷◌, ◌++◌, Bool, false, length, get_or, take, eqb, leb}
use Rattle.basis.specs.Tests.{pick, and, or}
use Rattle.table.specs.Threads.{none, fields_in}
use Rattle.table.specs.declared.Table.{Table}
use Rattle.table.specs.declared.Thread.{Thread}
use Rattle.writer.specs.Format.{row_numbers, written_fields}
use Rattle.decimal.specs.Decimal.{decimal}

-- What stands behind a field: CRLF behind the last of a line, a comma behind any other.
unfoldable pub ending : Bool → List ℕ
ending last = pick last (0x0D ∷ 0x0A ∷ []) (0x2C ∷ [])

-- The first n fields of the line of the numbers vs, decimal.
unfoldable pub line_part : List ℕ → ℕ → List ℕ
line_part vs zero = []
line_part vs (suc i) = line_part vs i ++ (decimal (get_or vs i 0) ++ ending (eqb (suc i) (length vs)))

abbrev pub line : List ℕ → List ℕ
line vs = line_part vs (length vs)

-- One line for each of n threads, in the byte order: with the kind in version 2.
unfoldable pub thread_lines : ℕ → List Thread → ℕ → List ℕ
thread_lines v ths zero = []
thread_lines v ths (suc i) = thread_lines v ths i ++ line (written_fields v (get_or ths i none))

unfoldable pub text : Table → List ℕ
text t =
    line (t.version ∷ t.domains ∷ t.count ∷ [])
    ++ line (row_numbers t.rows t.domains)
    ++ thread_lines t.version t.threads t.count

-- A line ends behind the numbers vs: behind the first three, behind the rows, and behind the fields of each thread.
unfoldable pub line_over : List ℕ → Bool
line_over [] = false
line_over (version ∷ []) = false
line_over (version ∷ d ∷ []) = false
line_over (version ∷ d ∷ n ∷ vs) =
    or (eqb (length vs) 0) (and (leb d (length vs)) (eqb ((length vs - d) % fields_in version) 0))

-- The first n of the numbers vs as text, each with what is due behind it.
unfoldable pub text_part : List ℕ → ℕ → List ℕ
text_part vs zero = []
text_part vs (suc i) = text_part vs i ++ (decimal (get_or vs i 0) ++ ending (line_over (take (suc i) vs)))

abbrev pub text_of : List ℕ → List ℕ
text_of vs = text_part vs (length vs)
