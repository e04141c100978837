-- Lines of rows by hand, character for character: for each the fault, its place, and how many fields were counted.
use Rattle.std.specs.Prelude.{ℕ, ◌≡◌, refl, List, [], ◌∷◌, ◌++◌, map, get_or, take, replicate}
use Rattle.typed.specs.RowLine.{row_line}
use Rattle.typed.specs.Opened.{opened}

abbrev lf : List ℕ
lf = 0x0A ∷ []

abbrev crlf : List ℕ
crlf = 0x0D ∷ 0x0A ∷ []

abbrev told : List ℕ → List ℕ
told s = (row_line s).why ∷ (row_line s).place ∷ (row_line s).count ∷ []

-- `3,2` with either end; both rows, each with its place.
pub passing : map told ((0x33 ∷ 0x2C ∷ 0x32 ∷ crlf) ∷ (0x33 ∷ 0x2C ∷ 0x32 ∷ lf) ∷ (0x30 ∷ lf) ∷ []) ≡ (0 ∷ 0 ∷ 2 ∷ []) ∷ (0 ∷ 0 ∷ 2 ∷ []) ∷ (0 ∷ 0 ∷ 1 ∷ []) ∷ []
unfolding opened
passing = refl

pub passing_rows : take 3 (row_line (0x33 ∷ 0x2C ∷ 0x31 ∷ 0x32 ∷ 0x2C ∷ 0x30 ∷ crlf)).rows ≡ 3 ∷ 12 ∷ 0 ∷ []
unfolding opened
passing_rows = refl

pub passing_places : take 3 (row_line (0x33 ∷ 0x2C ∷ 0x31 ∷ 0x32 ∷ 0x2C ∷ 0x30 ∷ crlf)).starts ≡ 0 ∷ 2 ∷ 5 ∷ []
unfolding opened
passing_places = refl

-- 1: no text, an empty line, an empty field between commas and before the line's end, and a text that ends in a field, whatever stands in it.
pub missing : map told ([] ∷ lf ∷ (0x33 ∷ 0x2C ∷ 0x2C ∷ 0x32 ∷ lf) ∷ (0x33 ∷ 0x2C ∷ lf) ∷ (0x33 ∷ 0x2C ∷ 0x32 ∷ []) ∷ (0x33 ∷ 0x2C ∷ []) ∷ (0x33 ∷ 0x2C ∷ 0x78 ∷ []) ∷ (0x33 ∷ 0x0D ∷ []) ∷ [])
    ≡ (1 ∷ 0 ∷ 0 ∷ []) ∷ (1 ∷ 0 ∷ 0 ∷ []) ∷ (1 ∷ 2 ∷ 1 ∷ []) ∷ (1 ∷ 2 ∷ 1 ∷ []) ∷ (1 ∷ 2 ∷ 1 ∷ []) ∷ (1 ∷ 2 ∷ 1 ∷ []) ∷ (1 ∷ 2 ∷ 1 ∷ []) ∷ (1 ∷ 0 ∷ 0 ∷ []) ∷ []
unfolding opened
missing = refl

-- 2: a byte order mark, a space before and behind, a sign, a zero in front, a CR without LF, and two CR before LF.
pub strange : map told ((0xEF ∷ 0xBB ∷ 0xBF ∷ 0x33 ∷ lf) ∷ (0x33 ∷ 0x2C ∷ 0x20 ∷ 0x32 ∷ lf) ∷ (0x33 ∷ 0x20 ∷ lf) ∷ (0x2D ∷ 0x33 ∷ lf) ∷ (0x30 ∷ 0x33 ∷ lf) ∷ (0x33 ∷ 0x0D ∷ 0x32 ∷ lf) ∷ (0x33 ∷ 0x0D ∷ crlf) ∷ [])
    ≡ (2 ∷ 0 ∷ 0 ∷ []) ∷ (2 ∷ 2 ∷ 1 ∷ []) ∷ (2 ∷ 0 ∷ 0 ∷ []) ∷ (2 ∷ 0 ∷ 0 ∷ []) ∷ (2 ∷ 0 ∷ 0 ∷ []) ∷ (2 ∷ 0 ∷ 0 ∷ []) ∷ (2 ∷ 0 ∷ 0 ∷ []) ∷ []
unfolding opened
strange = refl

-- 65,535 passes; 3: 65,536, and a number of 70 digits. A letter behind them makes it 2.
pub large : map told ((0x36 ∷ 0x35 ∷ 0x35 ∷ 0x33 ∷ 0x35 ∷ lf) ∷ (0x36 ∷ 0x35 ∷ 0x35 ∷ 0x33 ∷ 0x36 ∷ lf) ∷ (replicate 70 0x39 ++ lf) ∷ (replicate 70 0x39 ++ (0x78 ∷ lf)) ∷ [])
    ≡ (0 ∷ 0 ∷ 1 ∷ []) ∷ (3 ∷ 0 ∷ 0 ∷ []) ∷ (3 ∷ 0 ∷ 0 ∷ []) ∷ (2 ∷ 0 ∷ 0 ∷ []) ∷ []
unfolding opened
large = refl

-- 10: a character, and a second line's end, behind the line. A fault in the line goes before it, and of two faults the left one.
pub behind : map told ((0x33 ∷ 0x0A ∷ 0x34 ∷ []) ∷ (0x33 ∷ 0x0D ∷ 0x0A ∷ 0x34 ∷ lf) ∷ (0x33 ∷ 0x0A ∷ lf) ∷ (0x78 ∷ 0x0A ∷ 0x34 ∷ []) ∷ (0x33 ∷ 0x2C ∷ 0x2C ∷ 0x78 ∷ lf) ∷ [])
    ≡ (10 ∷ 2 ∷ 1 ∷ []) ∷ (10 ∷ 3 ∷ 1 ∷ []) ∷ (10 ∷ 2 ∷ 1 ∷ []) ∷ (2 ∷ 0 ∷ 0 ∷ []) ∷ (1 ∷ 2 ∷ 1 ∷ []) ∷ []
unfolding opened
behind = refl

-- 16, 17 and 18 fields: the seventeenth stands at 32, and the count stays at 17.
abbrev fields : List ℕ → List ℕ
fields end = 0x31 ∷ 0x2C ∷ 0x31 ∷ 0x2C ∷ 0x31 ∷ 0x2C ∷ 0x31 ∷ 0x2C ∷ 0x31 ∷ 0x2C ∷ 0x31 ∷ 0x2C ∷ 0x31 ∷ 0x2C ∷ 0x31 ∷ 0x2C
    ∷ 0x31 ∷ 0x2C ∷ 0x31 ∷ 0x2C ∷ 0x31 ∷ 0x2C ∷ 0x31 ∷ 0x2C ∷ 0x31 ∷ 0x2C ∷ 0x31 ∷ 0x2C ∷ 0x31 ∷ 0x2C ∷ 0x31 ∷ end

pub many : map told (fields lf ∷ fields (0x2C ∷ 0x31 ∷ lf) ∷ fields (0x2C ∷ 0x31 ∷ 0x2C ∷ 0x31 ∷ lf) ∷ []) ≡ (0 ∷ 0 ∷ 16 ∷ []) ∷ (0 ∷ 0 ∷ 17 ∷ []) ∷ (0 ∷ 0 ∷ 17 ∷ []) ∷ []
unfolding opened
many = refl

pub seventeenth : get_or (row_line (fields (0x2C ∷ 0x31 ∷ 0x2C ∷ 0x31 ∷ lf))).starts 16 0 ≡ 32
unfolding opened
seventeenth = refl
