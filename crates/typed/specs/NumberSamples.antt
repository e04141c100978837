-- Commands and words by hand, character for character.
use Rattle.std.specs.Prelude.{ℕ, ◌≡◌, refl, List, [], ◌∷◌, map, true, replicate, ℤ, pos, neg_ℤ}
use Rattle.typed.specs.Fields.{text_start, closed, read_on}
use Rattle.typed.specs.Numbers.{Signed, Number, NoNumber, command, argument, signed_word, not_signed}
use Rattle.typed.specs.Opened.{opened}

-- The command of a text's first line, and where in the text the next one starts.
abbrev first : List ℕ → Signed
first s = command (closed (read_on text_start s 0).field)

abbrev next : List ℕ → ℕ
next s = (read_on text_start s 0).next

abbrev is : ℤ → Signed
is z = record { number = true; value = z }

-- `5` and LF with more behind it, `-7` and CRLF, `-7` without an end, `007`, `-0`, 2000000, and a minus sign with 70 nines.
abbrev numbers : List (List ℕ)
numbers = (0x35 ∷ 0x0A ∷ 0x36 ∷ 0x0A ∷ []) ∷ (0x2D ∷ 0x37 ∷ 0x0D ∷ 0x0A ∷ []) ∷ (0x2D ∷ 0x37 ∷ []) ∷ (0x30 ∷ 0x30 ∷ 0x37 ∷ 0x0A ∷ []) ∷ (0x2D ∷ 0x30 ∷ 0x0A ∷ [])
    ∷ (0x32 ∷ replicate 6 0x30) ∷ (0x2D ∷ replicate 70 0x39) ∷ []

pub commands : map first numbers ≡ is (pos 5) ∷ is (neg_ℤ (pos 7)) ∷ is (neg_ℤ (pos 7)) ∷ is (pos 7) ∷ is (pos 0) ∷ is (pos 1000000) ∷ is (neg_ℤ (pos 1000000)) ∷ []
unfolding opened
commands = refl

pub nexts : map next numbers ≡ 2 ∷ 4 ∷ 2 ∷ 4 ∷ 3 ∷ 7 ∷ 71 ∷ []
unfolding opened
nexts = refl

-- An empty line, `-`, `--7`, `7-`, `+7`, `7,8`, ` 7`, `7` and a CR without LF.
pub no_commands : map first ((0x0A ∷ []) ∷ (0x2D ∷ 0x0A ∷ []) ∷ (0x2D ∷ 0x2D ∷ 0x37 ∷ 0x0A ∷ []) ∷ (0x37 ∷ 0x2D ∷ 0x0A ∷ []) ∷ (0x2B ∷ 0x37 ∷ 0x0A ∷ []) ∷ (0x37 ∷ 0x2C ∷ 0x38 ∷ 0x0A ∷ [])
    ∷ (0x20 ∷ 0x37 ∷ 0x0A ∷ []) ∷ (0x37 ∷ 0x0D ∷ []) ∷ [])
    ≡ not_signed ∷ not_signed ∷ not_signed ∷ not_signed ∷ not_signed ∷ not_signed ∷ not_signed ∷ not_signed ∷ []
unfolding opened
no_commands = refl

-- `0`, `1000`, `007` and 70 nines; no word, `-1`, `1x`, `1,`, `1` with LF.
pub words : map argument ((0x30 ∷ []) ∷ (0x31 ∷ 0x30 ∷ 0x30 ∷ 0x30 ∷ []) ∷ (0x30 ∷ 0x30 ∷ 0x37 ∷ []) ∷ replicate 70 0x39 ∷ []) ≡ Number 0 ∷ Number 1000 ∷ Number 7 ∷ Number 1000000000000000000 ∷ []
unfolding opened
words = refl

pub no_words : map argument ([] ∷ (0x2D ∷ 0x31 ∷ []) ∷ (0x31 ∷ 0x78 ∷ []) ∷ (0x31 ∷ 0x2C ∷ []) ∷ (0x31 ∷ 0x0A ∷ []) ∷ []) ≡ NoNumber ∷ NoNumber ∷ NoNumber ∷ NoNumber ∷ NoNumber ∷ []
unfolding opened
no_words = refl

-- `-5000`, `95000`, `x`
pub signed_words : map signed_word ((0x2D ∷ 0x35 ∷ 0x30 ∷ 0x30 ∷ 0x30 ∷ []) ∷ (0x39 ∷ 0x35 ∷ 0x30 ∷ 0x30 ∷ 0x30 ∷ []) ∷ (0x78 ∷ []) ∷ []) ≡ is (neg_ℤ (pos 5000)) ∷ is (pos 95000) ∷ not_signed ∷ []
unfolding opened
signed_words = refl
