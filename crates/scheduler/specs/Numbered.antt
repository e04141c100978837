-- When each number of a step is given, in plain words: one row for each number, and a number is given in its row only.
use Rattle.std.specs.Prelude.{ℕ, ◌≤◌, ◌<◌, ◌≡◌, true, false, ◌≢◌, length}
use Rattle.table.specs.Threads.{thread}
use Rattle.table.specs.Legal.{legal}
use Rattle.table.specs.declared.Table.{Table}
use Rattle.state.specs.State.{last_clock, fits}
use Rattle.state.specs.declared.State.{State}
use Rattle.state.specs.Release.{has_event}
use Rattle.frame.specs.Mode.{Mode, mode_ok}
use Rattle.walk.specs.Step.{Input}
use Rattle.scheduler.specs.Taken.{mask_ok}

-- The plain reading of a mask that passes: each event is one of an event thread of the table.
abbrev pub OnlyEvents : Table → ℕ → Type 0
OnlyEvents t mask = (i : ℕ) → has_event mask i ≡ true → (i < t.count) × ((thread t i).kind ≡ 1)

pub data Numbered (t : Table) (mode : Mode) (x : Input) (s : State) : ℕ → Type 0 where
  -- 11: the table is not legal
  not-legal : legal t ≡ false → Numbered t mode x s 11
  -- 19: the frame does not pass with it
  bad-frame : legal t ≡ true → mode_ok t mode ≡ false → Numbered t mode x s 19
  -- 12: the state does not fit the table
  not-fitting : legal t ≡ true → mode_ok t mode ≡ true → fits t s ≡ false → Numbered t mode x s 12
  -- 13: the step bytes are not one for each thread
  not_one_each : legal t ≡ true → mode_ok t mode ≡ true → fits t s ≡ true → length x.bytes ≢ t.count → Numbered t mode x s 13
  -- 18: the mask has a bit of a periodic or missing thread
  no_event : legal t ≡ true → mode_ok t mode ≡ true → fits t s ≡ true → length x.bytes ≡ t.count → mask_ok t x.mask ≡ false → Numbered t mode x s 18
  -- 14: the clock stands at the last
  at_last : legal t ≡ true → mode_ok t mode ≡ true → fits t s ≡ true → length x.bytes ≡ t.count → mask_ok t x.mask ≡ true → last_clock ≤ s.clock
      → Numbered t mode x s 14
  -- 0: a step
  steps : legal t ≡ true → mode_ok t mode ≡ true → fits t s ≡ true → length x.bytes ≡ t.count → mask_ok t x.mask ≡ true → s.clock < last_clock
      → Numbered t mode x s 0
