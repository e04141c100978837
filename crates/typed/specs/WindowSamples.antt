-- Lines of a frame by hand, character for character.
use Rattle.std.specs.Prelude.{ℕ, ◌≡◌, refl, List, [], ◌∷◌, ◌++◌, map, Bool, true, false, take}
use Rattle.frame.specs.declared.Window.{Window}
use Rattle.typed.specs.FrameLines.{frame_lines}
use Rattle.typed.specs.Opened.{opened}

abbrev bad : List ℕ → Bool
bad s = (frame_lines s).bad

abbrev count : List ℕ → ℕ
count s = (frame_lines s).frame.count

abbrev of : ℕ → ℕ → Window
of domain steps = record { domain = domain; length = steps }

-- `0,2`, LF, `1,3`, CRLF, `15,60000` without an end; zeros in front are allowed.
abbrev three : List ℕ
three = 0x30 ∷ 0x2C ∷ 0x32 ∷ 0x0A ∷ 0x31 ∷ 0x2C ∷ 0x30 ∷ 0x33 ∷ 0x0D ∷ 0x0A ∷ 0x31 ∷ 0x35 ∷ 0x2C ∷ 0x36 ∷ 0x30 ∷ 0x30 ∷ 0x30 ∷ 0x30 ∷ []

pub three-good : bad three ≡ false
unfolding opened
three-good = refl

pub three-counted : count three ≡ 3
unfolding opened
three-counted = refl

pub three-windows : take 4 (frame_lines three).frame.windows ≡ of 0 2 ∷ of 1 3 ∷ of 15 60000 ∷ of 0 0 ∷ []
unfolding opened
three-windows = refl

-- No line at all is no bad line; too large numbers are none either.
pub none : (bad [] ≡ false) × (count [] ≡ 0)
unfolding opened
none = (refl, refl)

-- `300,70000`
abbrev large : List ℕ
large = 0x33 ∷ 0x30 ∷ 0x30 ∷ 0x2C ∷ 0x37 ∷ 0x30 ∷ 0x30 ∷ 0x30 ∷ 0x30 ∷ 0x0A ∷ []

pub large-window : take 1 (frame_lines large).frame.windows ≡ of 255 65535 ∷ []
unfolding opened
large-window = refl

-- Bad: an empty line, `0`, `0,`, `,2`, `0,2,3`, `a,2`, `-1,2`, `0, 2`, a second line that is empty, and CR without LF at the end.
pub bad_lines : map bad
    ((0x0A ∷ []) ∷ (0x30 ∷ 0x0A ∷ []) ∷ (0x30 ∷ 0x2C ∷ []) ∷ (0x2C ∷ 0x32 ∷ 0x0A ∷ []) ∷ (0x30 ∷ 0x2C ∷ 0x32 ∷ 0x2C ∷ 0x33 ∷ 0x0A ∷ []) ∷ (0x61 ∷ 0x2C ∷ 0x32 ∷ 0x0A ∷ [])
    ∷ (0x2D ∷ 0x31 ∷ 0x2C ∷ 0x32 ∷ 0x0A ∷ []) ∷ (0x30 ∷ 0x2C ∷ 0x20 ∷ 0x32 ∷ 0x0A ∷ []) ∷ (0x30 ∷ 0x2C ∷ 0x32 ∷ 0x0A ∷ 0x0A ∷ []) ∷ (0x30 ∷ 0x2C ∷ 0x32 ∷ 0x0D ∷ []) ∷ [])
    ≡ true ∷ true ∷ true ∷ true ∷ true ∷ true ∷ true ∷ true ∷ true ∷ true ∷ []
unfolding opened
bad_lines = refl

-- 64 lines, 65 and 66.
abbrev line : List ℕ
line = 0x30 ∷ 0x2C ∷ 0x31 ∷ 0x0A ∷ []

abbrev eight : List ℕ → List ℕ
eight s = s ++ s ++ s ++ s ++ s ++ s ++ s ++ s

pub many : map count (eight (eight line) ∷ (line ++ eight (eight line)) ∷ (line ++ line ++ eight (eight line)) ∷ []) ≡ 64 ∷ 65 ∷ 65 ∷ []
unfolding opened
many = refl
