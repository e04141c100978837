-- A field of the comma form: the characters up to a comma, a CRLF or the end of text, and the number that they are.
use Rattle.std.specs.Prelude.{ℕ, ◌+◌, ◌-◌, ◌*◌, ◌<◌, List, [], ◌∷◌, Bool, true, false, not, length, drop, eqb, ltb, leb}
use Rattle.basis.specs.Tests.{pick, and, or}
use Rattle.numeral.specs.Number.{Number}
use Rattle.numeral.specs.Number.{Value, Refused}

-- The text starts with LF.
abbrev pub line_feeds : List ℕ → Bool
line_feeds [] = false
line_feeds (b ∷ s) = eqb b 0x0A

-- A field ends here: at a comma, a CRLF or the end of text. A CR without LF and an LF alone end nothing.
unfoldable pub field_ends : List ℕ → Bool
field_ends [] = true
field_ends (b ∷ s) = or (eqb b 0x2C) (and (eqb b 0x0D) (line_feeds s))

-- The field with which a text starts.
unfoldable pub field : List ℕ → List ℕ
field [] = []
field (b ∷ s) = pick (field_ends (b ∷ s)) [] (b ∷ field s)

-- From `0` to `9`.
abbrev pub is_digit : ℕ → Bool
is_digit b = and (leb 0x30 b) (leb b 0x39)

-- Each character is a digit.
unfoldable pub all_digits : List ℕ → Bool
all_digits [] = true
all_digits (b ∷ f) = and (is_digit b) (all_digits f)

-- The first character is a zero, and another follows.
abbrev pub zero_first : List ℕ → Bool
zero_first [] = false
zero_first (b ∷ []) = false
zero_first (b ∷ c ∷ f) = eqb b 0x30

-- The value of the digits f behind digits of the value v.
unfoldable pub value_from : ℕ → List ℕ → ℕ
value_from v [] = v
value_from v (b ∷ f) = value_from (v * 10 + (b - 0x30)) f

-- A field f that is not empty and ends at a place: 2 for a zero before another digit or for a non-digit, 3 above 65,535; else its value and
-- that place.
unfoldable pub judged_digits : ℕ → List ℕ → Number
judged_digits end f =
    pick (or (zero_first f) (not (all_digits f))) (Refused 2)
    (pick (ltb 65535 (value_from 0 f)) (Refused 3)
    (Value (value_from 0 f) end))

-- A field f of a text that starts at a place and has so many characters from there on: 1 if it is empty or the text ends there.
unfoldable pub field_number : ℕ → ℕ → List ℕ → Number
field_number at left f = pick (or (eqb (length f) 0) (eqb (length f) left)) (Refused 1) (judged_digits (at + length f) f)

-- The field that starts at a place.
unfoldable pub field_at : List ℕ → ℕ → Number
field_at s at = field_number at (length (drop at s)) (field (drop at s))

-- A number that was read ends before the text does.
abbrev pub Inside : Number → ℕ → Type 0
Inside (Value v e) n = e < n
Inside (Refused why) n = 0 < 1
