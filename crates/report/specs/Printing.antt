-- Printing a line into a lent buffer from a place on.
use Rattle.std.specs.Prelude.{ℕ, ◌+◌, List, [], ◌∷◌, length, leb, Result}
use Rattle.basis.specs.Tests.{pick}
use Rattle.basis.specs.Told.{Told, answered, refused}
use Rattle.writer.specs.Writer.{overlaid}
use Rattle.basis.specs.Refusals.{told_number}
use Rattle.basis.specs.declared.refusal.Refusal.{Refusal}

-- 16 where the text has no room from the place on; else the place after it.
unfoldable pub printing : List ℕ → ℕ → List ℕ → Told
printing b at text = pick (leb (at + length text) (length b)) (answered ((at + length text) ∷ [])) (refused 16)

-- What the buffer then holds: on a refusal what it held, else the text, with all other bytes as they were.
unfoldable pub printed : List ℕ → ℕ → List ℕ → List ℕ
printed b at text = pick (leb (at + length text) (length b)) (overlaid b at text) b

-- Document 01's number and values of an answer.
abbrev pub told : Result ℕ Refusal → Told
told r = told_number r
