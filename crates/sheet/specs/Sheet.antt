-- Reading the comma form: the fields from the left, each a number, its range judged as in the byte form, then its end, then the gap.
use Rattle.std.specs.Prelude.{ℕ, zero, suc, ◌+◌, ◌*◌, List, [], ◌∷◌, ◌++◌, Bool, length, get_or, eqb, ltb}
use Rattle.basis.specs.Tests.{pick}
use Rattle.basis.specs.Told.{Told, answered, refused}
use Rattle.table.specs.Threads.{field_count}
use Rattle.table.specs.declared.Table.{Table}
use Rattle.numeral.specs.Number.{encode_all}
use Rattle.numeral.specs.Number.{Number}
use Rattle.numeral.specs.Number.{Value, Refused}
use Rattle.reader.specs.Reader.{Read, no_table, reading}
use Rattle.codec.specs.Judging.{fault, row_gap, wanted}
use Rattle.sheet.specs.Field.{field_at}
use Rattle.sheet.specs.Text.{ending, line_over}

-- The numbers that were read, and what is told: the number of a refusal with its place first.
pub record Judged : Type 0 where
  pub told : Told
  pub numbers : List ℕ

-- What is told, with its place.
abbrev pub placed : Told → ℕ → Told
placed o at = record { number = o.number; values = at ∷ o.values }

abbrev pub halted : List ℕ → Told → ℕ → Judged
halted vs o at = record { told = placed o at; numbers = vs }

-- Why the end of a field that ends at a place is refused (0: it is as due): 10 for a comma where a CRLF is due, 1 for no comma where one is.
unfoldable pub end_fault : List ℕ → ℕ → Bool → ℕ
end_fault s at last = pick (eqb (get_or s at 0) 0x2C) (pick last 10 0) (pick last 0 1)

-- The place behind the end of a field.
abbrev pub behind : ℕ → Bool → ℕ
behind at last = at + length (ending last)

-- After the last line: 10 at the first character there.
unfoldable pub finished : List ℕ → List ℕ → ℕ → Judged
finished s vs at = record { told = pick (ltb at (length s)) (placed (refused 10) at) (answered []); numbers = vs }

-- The field at a place, after the numbers vs, has the value v and ends at e: its range as in the byte form, then its end, then, after
-- the rows, the first gap; else what follows.
unfoldable pub judged_field : List ℕ → List ℕ → ℕ → ℕ → ℕ → Judged → Judged
judged_field s vs at v e rest =
    pick (eqb (fault vs v) 0)
    (pick (eqb (end_fault s e (line_over (vs ++ (v ∷ [])))) 0)
    (pick (eqb (row_gap vs v).number 0) rest (halted vs (row_gap vs v) at))
    (halted vs (refused (end_fault s e (line_over (vs ++ (v ∷ []))))) e))
    (halted vs (refused (fault vs v)) at)

abbrev pub by_field : List ℕ → List ℕ → ℕ → Number → (ℕ → ℕ → Judged) → Judged
by_field s vs at (Value v e) rest = judged_field s vs at v e (rest v e)
by_field s vs at (Refused why) rest = halted vs (refused why) at

-- From a place on, after the numbers vs, at most n fields.
unfoldable pub judged_from : ℕ → List ℕ → List ℕ → ℕ → Judged
judged_from zero s vs at = finished s vs at
judged_from (suc n) s vs at =
    pick (wanted vs)
    (by_field s vs at (field_at s at) (λ v e. judged_from n s (vs ++ (v ∷ [])) (behind e (line_over (vs ++ (v ∷ []))))))
    (finished s vs at)

-- No table has more numbers: three, 16 rows, and eight a thread.
abbrev pub most_numbers : ℕ
most_numbers = 3 + 16 + field_count * 32

-- The table that the byte form has for these numbers.
unfoldable pub table_by : List ℕ → Table
table_by vs = (reading (encode_all vs)).table

unfoldable pub judged_text : List ℕ → Judged
judged_text s = judged_from most_numbers s [] 0

-- A table from all of the text, or the refusal with the zero table.
unfoldable pub sheet_reading : List ℕ → Read
sheet_reading s = record {
  told = (judged_text s).told;
  table = pick (eqb (judged_text s).told.number 0) (table_by (judged_text s).numbers) no_table;
}
