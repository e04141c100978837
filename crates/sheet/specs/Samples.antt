-- Texts by hand, character for character: example E in the comma form, and what it is read to.
use Rattle.std.specs.Prelude.{ℕ, ◌≡◌, refl, List, [], ◌∷◌}
use Rattle.example.specs.Example.{example}
use Rattle.reader.specs.Reader.{accepted}
use Rattle.sheet.specs.Text.{text}
use Rattle.sheet.specs.Sheet.{sheet_reading}
use Rattle.sheet.specs.Opened.{opened}

-- `1,2,2`, `3,2`, `1,30,10,0,4,10,2`, `0,20,10,0,3,10,0`, each with CRLF.
abbrev pub example_text : List ℕ
example_text =
    0x31 ∷ 0x2C ∷ 0x32 ∷ 0x2C ∷ 0x32 ∷ 0x0D ∷ 0x0A
    ∷ 0x33 ∷ 0x2C ∷ 0x32 ∷ 0x0D ∷ 0x0A
    ∷ 0x31 ∷ 0x2C ∷ 0x33 ∷ 0x30 ∷ 0x2C ∷ 0x31 ∷ 0x30 ∷ 0x2C ∷ 0x30 ∷ 0x2C ∷ 0x34 ∷ 0x2C ∷ 0x31 ∷ 0x30 ∷ 0x2C ∷ 0x32 ∷ 0x0D ∷ 0x0A
    ∷ 0x30 ∷ 0x2C ∷ 0x32 ∷ 0x30 ∷ 0x2C ∷ 0x31 ∷ 0x30 ∷ 0x2C ∷ 0x30 ∷ 0x2C ∷ 0x33 ∷ 0x2C ∷ 0x31 ∷ 0x30 ∷ 0x2C ∷ 0x30 ∷ 0x0D ∷ 0x0A ∷ []

pub example-written : text example ≡ example_text
unfolding opened
example-written = refl

pub example_read : sheet_reading example_text ≡ accepted example
unfolding opened
example_read = refl
