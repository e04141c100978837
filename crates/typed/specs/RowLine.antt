-- One line of rows in the comma form's way, its end a CRLF or an LF: its own faults are 1, 2, 3 and 10, and the leftmost is told with its place.
use Rattle.std.specs.Prelude.{ℕ, ◌+◌, List, [], ◌∷◌, Bool, false, not, set, replicate, eqb, ltb, ◌≡◌, Option, None, Some, Result, Ok, Err}
use Rattle.basis.specs.Tests.{pick, and, or}
use Rattle.basis.specs.Refusals.{number}
use Rattle.basis.specs.declared.refusal.Refusal.{Refusal}
use Rattle.typed.specs.Fields.{Field, field_of, text_start, fed}
use Rattle.typed.specs.Numbers.{is_plain}
use Rattle.typed.specs.declared.Fault.{Fault}
use Rattle.typed.specs.declared.Rows.{Rows as TheRows}

-- A line of rows so far: its values (17 counts for more than 16), the place of each, whether the line is over, and the first fault
-- (0 none) with its place.
pub record Rows : Type 0 where
  pub field : Field
  pub count : ℕ
  pub rows : List ℕ
  pub starts : List ℕ
  pub done : Bool
  pub why : ℕ
  pub place : ℕ

-- The number of a fault, 0 where there is none.
abbrev pub why_of : Option Fault → ℕ
why_of None = 0
why_of (Some f) = number f.why

-- The place of a fault, 0 where there is none.
abbrev pub place_of : Option Fault → ℕ
place_of None = 0
place_of (Some f) = f.place

-- What a line of rows of the code is.
abbrev pub rows_of : TheRows → Rows
rows_of r = record { field = field_of r.field; count = r.count; rows = r.rows; starts = r.starts; done = r.done; why = why_of r.fault; place = place_of r.fault }

-- A zero before another character.
unfoldable pub padded : Field → Bool
padded f = and (eqb f.first 0x30) (ltb 1 f.size)

-- Why a field that ended is refused (0: it is not): 1 if it is empty, 2 for a zero before another digit or for a non-digit, 3 above 65,535.
unfoldable pub fault : Field → ℕ
fault f = pick (eqb f.size 0) 1 (pick (or (padded f) (not (is_plain f))) 2 (pick (ltb 65535 f.value) 3 0))

abbrev pub no_rows : Rows
no_rows = record { field = text_start; count = 0; rows = replicate 16 0; starts = replicate 17 0; done = false; why = 0; place = 0 }

-- What the code gives for a field that ended: its value, or why it is refused.
abbrev pub row_given : Result ℕ Refusal → Field → Type 0
row_given (Ok v) f = (fault f ≡ 0) × (v ≡ f.value)
row_given (Err why) f = fault f ≡ number why

-- A fault, with its place.
unfoldable pub refused_at : ℕ → ℕ → Rows → Rows
refused_at why place r = record {
  field = r.field;
  count = r.count;
  rows = r.rows;
  starts = r.starts;
  done = r.done;
  why = why;
  place = place;
}

-- The fields are counted up to 17.
unfoldable pub counted : ℕ → ℕ
counted n = pick (ltb n 17) (n + 1) n

-- One row more with the place of its field; past the last place of a list nothing is stored.
unfoldable pub row_added : Rows → Field → Rows
row_added r f = record {
  field = f;
  count = counted r.count;
  rows = set r.rows r.count f.value;
  starts = set r.starts r.count f.start;
  done = eqb f.ended 2;
  why = r.why;
  place = r.place;
}

-- A field that ended.
unfoldable pub row_taken : Rows → Field → Rows
row_taken r f = pick (eqb (fault f) 0) (row_added r f) (refused_at (fault f) f.start r)

unfoldable pub with_field : Field → Rows → Rows
with_field f r = record {
  field = f;
  count = r.count;
  rows = r.rows;
  starts = r.starts;
  done = r.done;
  why = r.why;
  place = r.place;
}

-- The line's field, one character further.
unfoldable pub row_character : Rows → Field → Rows
row_character r f = pick (eqb f.ended 0) (with_field f r) (row_taken r f)

-- One character more of the text: behind a fault nothing counts, and behind the line it is 10 with that character's place.
unfoldable pub rows_fed : Rows → ℕ → Rows
rows_fed r b =
    pick (eqb r.why 0)
    (pick r.done (refused_at 10 r.field.at r) (row_character r (fed r.field b)))
    r

unfoldable pub rows_read : Rows → List ℕ → Rows
rows_read r [] = r
rows_read r (b ∷ s) = rows_read (rows_fed r b) s

-- The start of the field that the text ends in.
unfoldable pub unended : Field → ℕ
unended f = pick (eqb f.ended 0) f.start f.at

-- The end of the text: 1 where the line is not over, whatever stands in its last field.
unfoldable pub rows_closed : Rows → Rows
rows_closed r = pick (eqb r.why 0) (pick r.done r (refused_at 1 (unended r.field) r)) r

-- What a whole text is read to.
unfoldable pub row_line : List ℕ → Rows
row_line s = rows_closed (rows_read no_rows s)
