-- Three parties on one bench, ten steps of 1 ms a period: the pitch loop, the actuator model below it, and above both a load monitor
-- that is private. It runs at clock 0 and then waits; a bench that hands its time down starts the pitch loop at clock 1, ours at 4.
use Rattle.std.specs.Prelude.{ℕ, ◌-◌, ◌≡◌, refl, List, [], ◌∷◌, ◌++◌, map, true, replicate, take}
use Rattle.basis.specs.Told.{Told, answered}
use Rattle.table.specs.Legal.{legal}
use Rattle.basis.specs.Search.{nothing, found}
use Rattle.table.specs.Mark.{mark, marks_of}
use Rattle.example.specs.Story.{story, monitor_sends}
use Rattle.state.specs.State.{fresh}
use Rattle.scheduler.specs.Taken.{Taken, values}
use Rattle.scheduler.specs.Calls.{quietly}
use Rattle.lessons.specs.Lessons.{Call, right, run, trace, call, marking, no_marks, gap, shown}
use Rattle.walk.specs.declared.Answer.{Answer}
use Rattle.walk.specs.declared.Answer.TheVariants.{Ran, IdleFor, Idle}

-- The table is legal, and the monitor is marked for the pitch loop, the first thread below it.
pub story-legal : legal story ≡ true
unfolding trace
story-legal = refl

pub monitor_marked : take 3 (marks_of story) ≡ mark nothing ∷ mark nothing ∷ mark (found 0) ∷ []
unfolding trace
monitor_marked = refl

-- It runs at clock 0, which is all that it may run, and waits from then on; it goes on asking to run; or it waits all the time.
abbrev pub once : List ℕ
once = 1 ∷ replicate 9 0

abbrev pub always : List ℕ
always = replicate 10 1

abbrev pub never : List ℕ
never = replicate 10 0

-- What a run with these bytes of the monitor answers, and what the pitch loop's domain is told of it.
abbrev answers : Call → List ℕ → List Told
answers f xs = map (λ (r : Taken). r.told) (run (f story) (quietly (monitor_sends xs)) (fresh story))

abbrev pitch_told : Call → List ℕ → List Told
pitch_told f xs = trace f story 0 (quietly (monitor_sends xs))

-- It is shown its own thread three times, from clock n on.
abbrev from_clock : ℕ → List Told
from_clock n = (replicate n gap ++ replicate 3 (shown 0)) ++ replicate (7 - n) gap

abbrev told : List Answer → List Told
told = map (λ (a : Answer). answered (values a))

-- Ours: the monitor waits out its budget of 4.
pub ours : answers right once ≡ told (Ran 2 ∷ IdleFor 2 ∷ IdleFor 2 ∷ IdleFor 2 ∷ Ran 0 ∷ Ran 0 ∷ Ran 0 ∷ Ran 1 ∷ Ran 1 ∷ Idle ∷ [])
unfolding trace
ours = refl

-- Handed down: the pitch loop runs while the monitor waits.
pub handed_down : answers (call (marking no_marks)) once ≡ told (Ran 2 ∷ Ran 0 ∷ Ran 0 ∷ Ran 0 ∷ Ran 1 ∷ Ran 1 ∷ Idle ∷ Idle ∷ Idle ∷ Idle ∷ [])
unfolding trace call marking no_marks
handed_down = refl

-- The pitch loop's domain is told the same whether the monitor runs, would run on or waits; so it is whatever the monitor sends (`isolation/proofs/OnStory.antt`).
pub pitch_ours : map (pitch_told right) (once ∷ always ∷ never ∷ []) ≡ replicate 3 (from_clock 4)
unfolding trace
pitch_ours = refl

-- Handed down, its clock tells it whether the monitor has run.
pub pitch_handed_down : map (pitch_told (call (marking no_marks))) (once ∷ always ∷ never ∷ []) ≡ from_clock 1 ∷ from_clock 1 ∷ from_clock 0 ∷ []
unfolding trace call marking no_marks
pitch_handed_down = refl
