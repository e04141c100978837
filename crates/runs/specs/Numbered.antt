-- When a run of so many steps is refused before its first, in plain words: one row for each number, and a number is given in its row only.
use Rattle.std.specs.Prelude.{ℕ, ◌≤◌, ◌<◌, ◌≡◌, true, false}
use Rattle.table.specs.Legal.{legal}
use Rattle.table.specs.declared.Table.{Table}
use Rattle.state.specs.State.{fits}
use Rattle.state.specs.declared.State.{State}
use Rattle.frame.specs.Mode.{Mode, mode_ok}

pub data RunNumbered (t : Table) (mode : Mode) (s : State) (steps room : ℕ) : ℕ → Type 0 where
  -- 11: the table is not legal
  not-legal : legal t ≡ false → RunNumbered t mode s steps room 11
  -- 19: the frame does not pass with it
  bad-frame : legal t ≡ true → mode_ok t mode ≡ false → RunNumbered t mode s steps room 19
  -- 12: the state does not fit the table
  not-fitting : legal t ≡ true → mode_ok t mode ≡ true → fits t s ≡ false → RunNumbered t mode s steps room 12
  -- 16: fewer places than steps
  no_room : legal t ≡ true → mode_ok t mode ≡ true → fits t s ≡ true → room < steps → RunNumbered t mode s steps room 16
  -- 0: the steps
  starts : legal t ≡ true → mode_ok t mode ≡ true → fits t s ≡ true → steps ≤ room → RunNumbered t mode s steps room 0
