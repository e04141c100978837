-- A field that a person types: its characters one after the other, up to a comma, an LF or a CRLF. A CR without LF is a character of it.
use Rattle.std.specs.Prelude.{ℕ, ◌+◌, ◌-◌, ◌*◌, List, [], ◌∷◌, Bool, true, false, not, eqb, ltb, leb, Option, None, Some}
use Rattle.basis.specs.Tests.{pick, and, or}
use Rattle.typed.specs.declared.End.{End}
use Rattle.typed.specs.declared.End.TheVariants.{Comma, Line}
use Rattle.typed.specs.declared.Size.{Size}
use Rattle.typed.specs.declared.Size.TheVariants.{Empty, One, More}
use Rattle.typed.specs.declared.Field.{Field as TheField}
use Rattle.typed.specs.declared.Reading.{Reading as TheReading}

-- A field so far: the places of its first character and of the next one, how many characters it has (2 for more than one), its first
-- character, the value of its digits, whether one is no part of a number, whether a CR stands last that may end the line, and what
-- ended it (0 nothing yet, 1 a comma, 2 a line's end).
pub record Field : Type 0 where
  pub start : ℕ
  pub at : ℕ
  pub size : ℕ
  pub first : ℕ
  pub value : ℕ
  pub strange : Bool
  pub cr : Bool
  pub ended : ℕ

-- A field after a part of a text, and the place in that part behind its last character read.
pub record Reading : Type 0 where
  pub field : Field
  pub next : ℕ

-- What ends a field, as a number.
abbrev pub end_of : End → ℕ
end_of Comma = 1
end_of Line = 2

-- What ended a field, if anything did.
abbrev pub ended_of : Option End → ℕ
ended_of None = 0
ended_of (Some e) = end_of e

-- How many characters a field has.
abbrev pub size_of : Size → ℕ
size_of Empty = 0
size_of (One b) = 1
size_of (More b) = 2

-- A field's first character, 0 where it has none.
abbrev pub first_of : Size → ℕ
first_of Empty = 0
first_of (One b) = b
first_of (More b) = b

-- What a field of the code is.
abbrev pub field_of : TheField → Field
field_of f = record { start = f.start; at = f.at; size = size_of f.size; first = first_of f.size; value = f.value; strange = f.strange; cr = f.cr; ended = ended_of f.ended }

-- What the code has read of a part.
abbrev pub reading_of : TheReading → Reading
reading_of r = record { field = field_of r.field; next = r.next }

-- Places and values are told up to this; it stands for all that is larger.
abbrev pub most : ℕ
most = 1000000000000000000

-- The place behind another.
unfoldable pub onward : ℕ → ℕ
onward at = pick (ltb at most) (at + 1) at

-- From `0` to `9`.
unfoldable pub is_digit : ℕ → Bool
is_digit b = and (leb 0x30 b) (leb b 0x39)

-- A digit behind digits of the value v; what is no digit adds nothing.
unfoldable pub grown : ℕ → ℕ → ℕ
grown v b = pick (is_digit b) (pick (ltb v 100000000000000000) (v * 10 + (b - 0x30)) most) v

-- A character that is no part of a number: neither a digit nor a minus sign with no character before it.
unfoldable pub is_strange : ℕ → ℕ → Bool
is_strange size b = and (not (is_digit b)) (not (and (eqb b 0x2D) (eqb size 0)))

-- A field with no character yet, whose first has this place.
abbrev pub blank : ℕ → Field
blank at = record { start = at; at = at; size = 0; first = 0; value = 0; strange = false; cr = false; ended = 0 }

-- What stands before the first field: a text starts as if a line had ended before it.
abbrev pub text_start : Field
text_start = record { start = 0; at = 0; size = 0; first = 0; value = 0; strange = false; cr = false; ended = 2 }

-- The field that the next character is of: behind an end a new one.
unfoldable pub begun : Field → Field
begun f = pick (eqb f.ended 0) f (blank f.at)

-- The next character's place is one further.
unfoldable pub moved : Field → Field
moved f = record {
  start = f.start;
  at = onward f.at;
  size = f.size;
  first = f.first;
  value = f.value;
  strange = f.strange;
  cr = f.cr;
  ended = f.ended;
}

-- One character more of the field.
unfoldable pub taken : Field → ℕ → Field
taken f b = record {
  start = f.start;
  at = f.at;
  size = pick (eqb f.size 0) 1 2;
  first = pick (eqb f.size 0) b f.first;
  value = grown f.value b;
  strange = or f.strange (is_strange f.size b);
  cr = false;
  ended = f.ended;
}

-- A CR that no LF followed was a character of the field.
unfoldable pub settled : Field → Field
settled f = pick f.cr (taken f 0x0D) f

-- A CR that may end the line.
unfoldable pub held : Field → Field
held f = record {
  start = f.start;
  at = f.at;
  size = f.size;
  first = f.first;
  value = f.value;
  strange = f.strange;
  cr = true;
  ended = f.ended;
}

-- The field is ended, by a comma (1) or a line's end (2).
unfoldable pub ended_by : ℕ → Field → Field
ended_by k f = record {
  start = f.start;
  at = f.at;
  size = f.size;
  first = f.first;
  value = f.value;
  strange = f.strange;
  cr = false;
  ended = k;
}

-- What a character does: LF ends the line, with the CR before it if there is one; a CR waits for the next character; a comma ends the field.
unfoldable pub character : Field → ℕ → Field
character f b =
    pick (eqb b 0x0A) (ended_by 2 f)
    (pick (eqb b 0x0D) (held (settled f))
    (pick (eqb b 0x2C) (ended_by 1 (settled f))
    (taken (settled f) b)))

-- One character more of the text.
unfoldable pub fed : Field → ℕ → Field
fed f b = character (moved (begun f)) b

-- The end of the text ends the last line, unless it ended already.
unfoldable pub closed : Field → Field
closed f = pick (eqb f.ended 2) f (ended_by 2 (settled (begun f)))

-- The characters s, from place k of a part of the text on, until a field ends.
unfoldable pub read_on : Field → List ℕ → ℕ → Reading
read_on f [] k = record { field = f; next = k }
read_on f (b ∷ s) k = pick (eqb (fed f b).ended 0) (read_on (fed f b) s (k + 1)) (record { field = fed f b; next = k + 1 })
