-- The lines that program bench prints, as bytes. Every line ends in LF.
use Rattle.std.specs.Prelude.{ℕ, ◌+◌, ◌-◌, List, [], ◌∷◌, ◌++◌, eqb, ltb}
use Rattle.basis.specs.Tests.{pick}
use Rattle.walk.specs.declared.Answer.{Answer}
use Rattle.walk.specs.declared.Answer.TheVariants.{Ran, IdleFor, Idle}
use Rattle.decimal.specs.Decimal.{decimal}

abbrev pub space : List ℕ
space = 0x20 ∷ []

abbrev pub line_feed : List ℕ
line_feed = 0x0A ∷ []

-- The word `threads` and a space.
abbrev pub threads_word : List ℕ
threads_word = 0x74 ∷ 0x68 ∷ 0x72 ∷ 0x65 ∷ 0x61 ∷ 0x64 ∷ 0x73 ∷ 0x20 ∷ []

-- The word `end` and a space.
abbrev pub end_word : List ℕ
end_word = 0x65 ∷ 0x6E ∷ 0x64 ∷ 0x20 ∷ []

-- The word `refused` and a space.
abbrev pub refused_word : List ℕ
refused_word = 0x72 ∷ 0x65 ∷ 0x66 ∷ 0x75 ∷ 0x73 ∷ 0x65 ∷ 0x64 ∷ 0x20 ∷ []

-- A word and a number.
abbrev pub counted_line : List ℕ → ℕ → List ℕ
counted_line word n = word ++ decimal n ++ line_feed

-- `threads` and how many.
unfoldable pub threads_line : ℕ → List ℕ
threads_line n = counted_line threads_word n

-- `T` with the thread that ran, `I` with the thread paying, or `--`.
abbrev pub choice : Answer → List ℕ
choice (Ran i) = (0x54 ∷ []) ++ decimal i
choice (IdleFor i) = (0x49 ∷ []) ++ decimal i
choice Idle = 0x2D ∷ 0x2D ∷ []

-- The clock before a step, a space, and whom it chose.
unfoldable pub step_line : ℕ → Answer → List ℕ
step_line clock a = decimal clock ++ space ++ choice a ++ line_feed

-- What a trace's byte tells: i is thread i, 32 + i is idle for i, 255 is idle.
unfoldable pub answer : ℕ → Answer
answer b = pick (ltb b 32) (Ran b) (pick (eqb b 255) Idle (IdleFor (b - 32)))

-- A line for each byte of a trace, the first with this clock.
unfoldable pub trace_lines : ℕ → List ℕ → List ℕ
trace_lines clock [] = []
trace_lines clock (b ∷ bs) = step_line clock (answer b) ++ trace_lines (clock + 1) bs

-- `end` and the number of steps.
unfoldable pub end_line : ℕ → List ℕ
end_line steps = counted_line end_word steps

-- `refused`, the number, and the place or the clock.
unfoldable pub refused_line : ℕ → ℕ → List ℕ
refused_line number place = refused_word ++ decimal number ++ space ++ decimal place ++ line_feed
