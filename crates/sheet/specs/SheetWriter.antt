-- Writing a table in the comma form into a lent buffer from a place on.
use Rattle.std.specs.Prelude.{ℕ, ◌+◌, ◌≤◌, ◌<◌, ◌≡◌, List, [], ◌∷◌, true, false, length, leb}
use Rattle.basis.specs.Tests.{pick}
use Rattle.basis.specs.Told.{Told, answered, refused}
use Rattle.table.specs.Legal.{legal}
use Rattle.table.specs.declared.Table.{Table}
use Rattle.writer.specs.Writer.{overlaid}
use Rattle.sheet.specs.Text.{text}

-- 11, then 16; else the place after the last character written.
unfoldable pub sheet_writing : List ℕ → ℕ → Table → Told
sheet_writing b at t =
    pick (legal t) (pick (leb (at + length (text t)) (length b)) (answered ((at + length (text t)) ∷ [])) (refused 16)) (refused 11)

-- What the buffer then holds: on a refusal what it held.
unfoldable pub sheet_written : List ℕ → ℕ → Table → List ℕ
sheet_written b at t = pick (legal t) (pick (leb (at + length (text t)) (length b)) (overlaid b at (text t)) b) b

-- When each number of the writer is given, in plain words.
pub data SheetNumbered (b : List ℕ) (at : ℕ) (t : Table) : ℕ → Type 0 where
  -- 11: the table is not legal
  not-legal : legal t ≡ false → SheetNumbered b at t 11
  -- 16: too little room from the named place, or the place is past the end
  no_room : legal t ≡ true → length b < at + length (text t) → SheetNumbered b at t 16
  -- 0: written
  writes : legal t ≡ true → at + length (text t) ≤ length b → SheetNumbered b at t 0
