-- When each number of a block is given, in plain words: one row for each number, and a number is given in its row only. A call that names
-- no place writes from the front of the part that it is lent: at place 0.
use Rattle.std.specs.Prelude.{ℕ, ◌+◌, ◌≤◌, ◌<◌, ◌≡◌, List, true, false, length}
use Rattle.table.specs.Legal.{legal}
use Rattle.table.specs.declared.Table.{Table}
use Rattle.state.specs.State.{last_clock, fits}
use Rattle.state.specs.declared.State.{State}
use Rattle.frame.specs.Mode.{Mode, mode_ok}
use Rattle.block.specs.Block.{whole, masks_ok}

pub data BlockNumbered (t : Table) (mode : Mode) (masks bytes : List ℕ) (s : State) (out : List ℕ) (at : ℕ) : ℕ → Type 0 where
  -- 11: the table is not legal
  not-legal : legal t ≡ false → BlockNumbered t mode masks bytes s out at 11
  -- 19: the frame does not pass with it
  bad-frame : legal t ≡ true → mode_ok t mode ≡ false → BlockNumbered t mode masks bytes s out at 19
  -- 12: the state does not fit the table
  not-fitting : legal t ≡ true → mode_ok t mode ≡ true → fits t s ≡ false → BlockNumbered t mode masks bytes s out at 12
  -- 13: the bytes are not a multiple of the threads, or the masks not one a step
  not-whole : legal t ≡ true → mode_ok t mode ≡ true → fits t s ≡ true → whole t masks bytes ≡ false → BlockNumbered t mode masks bytes s out at 13
  -- 18: a mask has a bit of a periodic or missing thread
  no_event : legal t ≡ true → mode_ok t mode ≡ true → fits t s ≡ true → whole t masks bytes ≡ true → masks_ok t masks ≡ false
      → BlockNumbered t mode masks bytes s out at 18
  -- 14: the clock plus the steps exceeds the last clock
  too_late : legal t ≡ true → mode_ok t mode ≡ true → fits t s ≡ true → whole t masks bytes ≡ true → masks_ok t masks ≡ true
      → last_clock < s.clock + length masks → BlockNumbered t mode masks bytes s out at 14
  -- 16: too little room from the place, or the place is past the end
  no_room : legal t ≡ true → mode_ok t mode ≡ true → fits t s ≡ true → whole t masks bytes ≡ true → masks_ok t masks ≡ true
      → s.clock + length masks ≤ last_clock → length out < at + length masks → BlockNumbered t mode masks bytes s out at 16
  -- 0: the steps
  makes : legal t ≡ true → mode_ok t mode ≡ true → fits t s ≡ true → whole t masks bytes ≡ true → masks_ok t masks ≡ true
      → s.clock + length masks ≤ last_clock → at + length masks ≤ length out → BlockNumbered t mode masks bytes s out at 0
