-- A call of the drive: the scheduler's step and the actuator's move, or the number that it is refused with: the step's own, then
-- 15, then 20.
use Rattle.std.specs.Prelude.{ℕ, Bool, false, eqb, ltb, ℤ}
use Rattle.basis.specs.Tests.{pick}
use Rattle.basis.specs.Told.{Told, refused}
use Rattle.table.specs.declared.Table.{Table}
use Rattle.scheduler.specs.Taken.{Taken, taken, told}
use Rattle.scheduler.specs.Taken.{answer_of}
use Rattle.state.specs.declared.State.{State}
use Rattle.frame.specs.Mode.{Mode}
use Rattle.walk.specs.Step.{Input}
use Rattle.walk.specs.declared.Answer.{Answer}
use Rattle.walk.specs.declared.Answer.TheVariants.{Ran, IdleFor, Idle}
use Rattle.actuator.specs.Motion.{ranged, drawn, moved}
use Rattle.actuator.specs.declared.Actuator.{Actuator}
use Rattle.actuator.specs.declared.Driven.{Driven}

-- What a step brings: what the scheduler is handed, and a command number.
pub record Brought : Type 0 where
  pub input : Input
  pub command : ℤ

-- What a call gives: document 01's number and values, the scheduler's state, and the actuator.
pub record Drove : Type 0 where
  pub told : Told
  pub state : State
  pub actuator : Actuator

-- Thread i ran.
unfoldable pub ran : ℕ → Answer → Bool
ran i (Ran j) = eqb i j
ran i (IdleFor j) = false
ran i Idle = false

-- The command that stands after an answer: the new one, drawn into the range, if the named pitch thread ran, else the last.
unfoldable pub commanded : Actuator → Answer → ℤ → ℤ
commanded a answer x = pick (ran a.thread answer) (drawn x) a.command

-- The position moves towards the command that stands, at every step.
unfoldable pub moved_to : Actuator → ℤ → Actuator
moved_to a c = record { position = moved a.rate a.position c; command = c; rate = a.rate; thread = a.thread }

-- A refusal hands back what was given.
abbrev pub refused_drive : Told → State → Actuator → Drove
refused_drive n s a = record { told = n; state = s; actuator = a }

-- What a call gives, by what its step gave.
unfoldable pub follows : Table → ℤ → State → Actuator → Taken → Drove
follows t x s a r =
    pick (eqb r.told.number 0)
    (pick (ltb a.thread t.count)
    (pick (ranged a)
    (record { told = r.told; state = r.state; actuator = moved_to a (commanded a (answer_of r.told.values) x) })
    (refused_drive (refused 20) s a))
    (refused_drive (refused 15) s a))
    (refused_drive r.told s a)

unfoldable pub driven : Table → Mode → Brought → State → Actuator → Drove
driven t mode b s a = follows t b.command s a (taken t mode b.input s)

-- What an answer of the code gives.
abbrev pub drove_of : Driven → Drove
drove_of r = record { told = told r.outcome; state = r.state; actuator = r.actuator }
