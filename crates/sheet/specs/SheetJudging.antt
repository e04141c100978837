-- When each refusal of the comma form's reader is given, in plain words: the fields stand one after the other, each with its end, each is
-- judged by those before it as in the byte form, and the first that is objected to ends the reading, with its place.
use Rattle.std.specs.Prelude.{ℕ, ◌+◌, ◌<◌, ◌≡◌, List, [], ◌∷◌, ◌++◌, Bool, true, false, length, get_or, take, drop}
use Rattle.basis.specs.Told.{Told, answered, refused}
use Rattle.codec.specs.Judging.{fault, row_gap, objection, wanted}
use Rattle.sheet.specs.Field.{field_ends, all_digits, value_from}
use Rattle.sheet.specs.Text.{line_over, text_of}
use Rattle.sheet.specs.Sheet.{placed, end_fault}

-- The text s is the field f and what is left: a field ends nowhere within f, and ends at what is left.
pub record Cut (s f left : List ℕ) : Type 0 where
  pub whole : s ≡ f ++ left
  pub goes : (i : ℕ) → i < length f → field_ends (drop i s) ≡ false
  pub ends : field_ends left ≡ true

-- The text starts with no number, and this is given.
pub data NoField : List ℕ → ℕ → Type 0 where
  -- 1: the field is empty, or the text ends there, whatever stands in it
  empty : (s : List ℕ) → Cut s [] s → NoField s 1
  text_ends : (s f : List ℕ) → Cut s f [] → NoField s 1
  -- 2: a zero before another character, or a non-digit
  padded : (s f left : List ℕ) (b : ℕ) → Cut s (0x30 ∷ b ∷ f) left → 0 < length left → NoField s 2
  strange : (s f left : List ℕ) → Cut s f left → 0 < length f → 0 < length left → all_digits f ≡ false → NoField s 2
  -- 3: above 65,535
  too_large : (s f left : List ℕ) → Cut s f left → 0 < length f → 0 < length left → all_digits f ≡ true
      → ((b : ℕ) (g : List ℕ) → f ≡ 0x30 ∷ b ∷ g → ⊥) → 65535 < value_from 0 f → NoField s 3

-- The text, of which the first character stands at a place, starts with a number: its value, and the place of its end.
pub data FieldValue (at : ℕ) : List ℕ → ℕ → ℕ → Type 0 where
  stands : (s f left : List ℕ) → Cut s f left → 0 < length f → 0 < length left → all_digits f ≡ true
      → ((b : ℕ) (g : List ℕ) → f ≡ 0x30 ∷ b ∷ g → ⊥) → value_from 0 f < 65536 → FieldValue at s (value_from 0 f) (at + length f)

-- A field that ends at a place does not end as is due, by whether it is the last of its line, and this is given.
pub data WrongEnd (s : List ℕ) (at : ℕ) : Bool → ℕ → Type 0 where
  -- 1: no comma where one is due, so that it is a CRLF
  line-cut : (get_or s at 0 ≡ 0x2C → ⊥) → WrongEnd s at false 1
  -- 10: a comma where a CRLF is due
  line_long : get_or s at 0 ≡ 0x2C → WrongEnd s at true 10

-- The text s starts with the numbers vs, each with the end that is due, each wanted where it stands and not objected to.
pub record SheetBefore (s vs : List ℕ) : Type 0 where
  pub begins : take (length (text_of vs)) s ≡ text_of vs
  pub wants : (k : ℕ) → k < length vs → wanted (take k vs) ≡ true
  pub passed : (k : ℕ) → k < length vs → objection (take k vs) (get_or vs k 0) ≡ answered []

-- The place after the numbers vs and their ends.
abbrev pub sheet_place : List ℕ → ℕ
sheet_place vs = length (text_of vs)

-- What the rules say of the text s.
pub data SheetJudgment (s : List ℕ) : Told → Type 0 where
  -- 1, 2, 3: a number is wanted, and the field there is none
  no_field : (vs : List ℕ) (why : ℕ) → SheetBefore s vs → wanted vs ≡ true → NoField (drop (sheet_place vs) s) why
      → SheetJudgment s (placed (refused why) (sheet_place vs))
  -- 4, 5, 6, 8, 9: the field is a number, and out of its range or taken, as in the byte form
  out_of_range : (vs : List ℕ) (v e : ℕ) → SheetBefore s vs → wanted vs ≡ true → FieldValue (sheet_place vs) (drop (sheet_place vs) s) v e
      → 0 < fault vs v → SheetJudgment s (placed (refused (fault vs v)) (sheet_place vs))
  -- 1 or 10: the field passes, and the end behind it is not the one that is due
  wrong_end : (vs : List ℕ) (v e why : ℕ) → SheetBefore s vs → wanted vs ≡ true → FieldValue (sheet_place vs) (drop (sheet_place vs) s) v e
      → fault vs v ≡ 0 → WrongEnd s e (line_over (vs ++ (v ∷ []))) why
      → SheetJudgment s (placed (refused why) e)
  -- 7: after the line of the rows, with the place of the last row's field
  gap-found : (vs : List ℕ) (v e : ℕ) → SheetBefore s vs → wanted vs ≡ true → FieldValue (sheet_place vs) (drop (sheet_place vs) s) v e
      → fault vs v ≡ 0 → end_fault s e (line_over (vs ++ (v ∷ []))) ≡ 0 → 0 < (row_gap vs v).number
      → SheetJudgment s (placed (row_gap vs v) (sheet_place vs))
  -- 10: no number is wanted, and text is left
  extra : (vs : List ℕ) → SheetBefore s vs → wanted vs ≡ false → sheet_place vs < length s
      → SheetJudgment s (placed (refused 10) (sheet_place vs))
  -- accepted: no number is wanted, and no text is left
  all_read : (vs : List ℕ) → SheetBefore s vs → wanted vs ≡ false → length s ≡ sheet_place vs → SheetJudgment s (answered [])
