-- When each number of the writer is given, in plain words: one row for each number, and a number is given in its row only.
use Rattle.std.specs.Prelude.{ℕ, ◌+◌, ◌≤◌, ◌<◌, ◌≡◌, List, true, false, length}
use Rattle.table.specs.Legal.{legal}
use Rattle.table.specs.declared.Table.{Table}
use Rattle.writer.specs.Format.{bytes}

pub data WriteNumbered (b : List ℕ) (at : ℕ) (t : Table) : ℕ → Type 0 where
  -- 11: the table is not legal
  not-legal : legal t ≡ false → WriteNumbered b at t 11
  -- 16: too little room from the named place, or the place is past the end
  no_room : legal t ≡ true → length b < at + length (bytes t) → WriteNumbered b at t 16
  -- 0: written
  writes : legal t ≡ true → at + length (bytes t) ≤ length b → WriteNumbered b at t 0
