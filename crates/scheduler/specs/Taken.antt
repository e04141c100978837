-- A call of the step: the number it is refused with, in the order 11, 19, 12, 13, 18, 14, or the step itself.
use Rattle.std.specs.Prelude.{ℕ, List, [], ◌∷◌, Bool, not, length, eqb, ltb, Result}
use Rattle.basis.specs.Tests.{pick, and, or, every}
use Rattle.basis.specs.Told.{Told, answered, refused}
use Rattle.basis.specs.Refusals.{told_by}
use Rattle.table.specs.Threads.{thread}
use Rattle.table.specs.Legal.{legal}
use Rattle.table.specs.declared.Table.{Table}
use Rattle.state.specs.State.{last_clock, fits}
use Rattle.state.specs.Release.{has_event}
use Rattle.frame.specs.Mode.{Mode, mode_ok}
use Rattle.walk.specs.Step.{Input, step}
use Rattle.state.specs.declared.State.{State}
use Rattle.walk.specs.declared.Answer.{Answer}
use Rattle.walk.specs.declared.Answer.TheVariants.{Ran, IdleFor, Idle}
use Rattle.walk.specs.declared.Walked.{Walked}
use Rattle.basis.specs.declared.refusal.Refusal.{Refusal}
use Rattle.scheduler.specs.declared.Stepped.{Stepped}

-- The values of an answer: 0 and the thread that ran, 1 and the thread that the processor idles for, 2 for idle.
abbrev pub values : Answer → List ℕ
values (Ran i) = 0 ∷ i ∷ []
values (IdleFor i) = 1 ∷ i ∷ []
values Idle = 2 ∷ []

-- The answer that a call's values tell: 0 and the thread that ran, 1 and the thread that the processor idles for, 2 for idle.
unfoldable pub answer_of : List ℕ → Answer
answer_of [] = Idle
answer_of (kind ∷ []) = Idle
answer_of (kind ∷ i ∷ more) = pick (eqb kind 0) (Ran i) (IdleFor i)

-- Document 01's number and values of an outcome.
abbrev pub told : Result Answer Refusal → Told
told r = told_by values r

-- What a call gives: its number and values, and a state.
pub record Taken : Type 0 where
  pub told : Told
  pub state : State

-- A refused step hands back the state it was given.
abbrev pub refused_step : ℕ → State → Taken
refused_step why s = record { told = refused why; state = s }

abbrev pub took : Walked → Taken
took w = record { told = answered (values w.answer); state = w.state }

-- Bit i of a mask may be set only for an event thread i of the table.
unfoldable pub mask_ok : Table → ℕ → Bool
mask_ok t mask = every 32 (λ i. or (not (has_event mask i)) (and (ltb i t.count) (eqb (thread t i).kind 1)))

-- What a call gives whose step would be w, behind 11 and 19: in turn 12, 13, 18, 14, or that step.
unfoldable pub taken_then : Table → Walked → Input → State → Taken
taken_then t w x s =
    pick (fits t s)
    (pick (eqb (length x.bytes) t.count)
    (pick (mask_ok t x.mask)
    (pick (ltb s.clock last_clock)
    (took w)
    (refused_step 14 s))
    (refused_step 18 s))
    (refused_step 13 s))
    (refused_step 12 s)

-- A call in a mode: 11 for the table and then 19 for a frame that does not pass with it come first.
unfoldable pub taken : Table → Mode → Input → State → Taken
taken t mode x s =
    pick (legal t) (pick (mode_ok t mode) (taken_then t (step t mode x s) x s) (refused_step 19 s)) (refused_step 11 s)

-- What an answer of the code gives.
abbrev pub taken_of : Stepped → Taken
taken_of r = record { told = told r.outcome; state = r.state }
