-- When each number of a drive is given, in plain words: the step's own first, then 15, then 20; a number is given in its row only.
use Rattle.std.specs.Prelude.{ℕ, ◌≤◌, ◌<◌, ◌≢◌, ℤ, ◌≤ℤ◌}
use Rattle.table.specs.declared.Table.{Table}
use Rattle.frame.specs.Mode.{Mode}
use Rattle.scheduler.specs.Numbered.{Numbered}
use Rattle.state.specs.declared.State.{State}
use Rattle.actuator.specs.Motion.{lowest, highest}
use Rattle.actuator.specs.Drive.{Brought}
use Rattle.actuator.specs.declared.Actuator.{Actuator}

-- A position or a command from -5,000 to 95,000.
pub record InRange (z : ℤ) : Type 0 where
  pub low : lowest ≤ℤ z
  pub high : z ≤ℤ highest

pub record Ranged (a : Actuator) : Type 0 where
  pub rate_low : 1 ≤ a.rate
  pub rate_high : a.rate ≤ 1000
  pub position : InRange a.position
  pub command : InRange a.command

pub data DriveNumbered (t : Table) (mode : Mode) (b : Brought) (s : State) (a : Actuator) : ℕ → Type 0 where
  -- the step's own number
  of_the_step : {n : ℕ} → Numbered t mode b.input s n → n ≢ 0 → DriveNumbered t mode b s a n
  -- 15: no such thread as the one named
  no_thread : Numbered t mode b.input s 0 → t.count ≤ a.thread → DriveNumbered t mode b s a 15
  -- 20: rate, position or stored command outside its range
  out_of_range : Numbered t mode b.input s 0 → a.thread < t.count → (Ranged a → ⊥) → DriveNumbered t mode b s a 20
  -- 0: a step and a move
  moves : Numbered t mode b.input s 0 → a.thread < t.count → Ranged a → DriveNumbered t mode b s a 0
