-- A block of steps in one call: the state after them and one byte a step, or the number that refuses them all.
use Rattle.std.specs.Prelude.{ℕ, ◌+◌, ◌*◌, ◌/◌, ◌%◌, List, [], ◌++◌, map, Bool, length, get_or, take, drop, eqb, leb, Option, None, Some, Result, Ok, Err}
use Rattle.basis.specs.Tests.{pick, and, every}
use Rattle.basis.specs.Search.{listed}
use Rattle.basis.specs.Turns.{in_turn, after}
use Rattle.table.specs.Legal.{legal}
use Rattle.table.specs.declared.Table.{Table}
use Rattle.state.specs.State.{last_clock, fits}
use Rattle.state.specs.declared.State.{State}
use Rattle.frame.specs.Mode.{Mode, unframed, framed, mode_ok}
use Rattle.frame.specs.declared.Frame.{Frame}
use Rattle.walk.specs.Step.{Input, step}
use Rattle.walk.specs.declared.Answer.{Answer}
use Rattle.walk.specs.declared.Answer.TheVariants.{Ran, IdleFor, Idle}
use Rattle.walk.specs.declared.Walked.{Walked}
use Rattle.scheduler.specs.Taken.{Taken, answer_of, mask_ok}
use Rattle.basis.specs.Refusals.{number, values, number_or_0, given_or}
use Rattle.basis.specs.declared.refusal.Refusal.{Refusal}
use Rattle.block.specs.declared.Ended.{Ended}

-- The byte of an answer: i is thread i, 32 + i is idle for i, 255 is idle.
abbrev pub trace : Answer → ℕ
trace (Ran i) = i
trace (IdleFor i) = 32 + i
trace Idle = 255

-- The byte of a single call's answer.
abbrev pub byte_of : Taken → ℕ
byte_of r = trace (answer_of r.told.values)

-- Step k of a block: mask k, and one byte for each thread from k * count on.
unfoldable pub input_at : Table → List ℕ → List ℕ → ℕ → Input
input_at t masks bytes k = record { mask = get_or masks k 0; bytes = take t.count (drop (k * t.count) bytes) }

-- The n steps of a block from step k on.
unfoldable pub inputs : Table → List ℕ → List ℕ → ℕ → ℕ → List Input
inputs t masks bytes k n = listed n (λ j. input_at t masks bytes (k + j))

-- What steps in turn give, where f makes one: the state after them, and one byte a step.
unfoldable pub end_of : (Input → State → Walked) → List Input → State → State
end_of f xs s = after f (λ (w : Walked). w.state) xs s

unfoldable pub trace_of : (Input → State → Walked) → List Input → State → List ℕ
trace_of f xs s = map (λ (w : Walked). trace w.answer) (in_turn f (λ (w : Walked). w.state) xs s)

-- A block's bytes are a multiple of the threads, and its masks one a step.
unfoldable pub whole : Table → List ℕ → List ℕ → Bool
whole t masks bytes = and (eqb (length bytes % t.count) 0) (eqb (length masks) (length bytes / t.count))

-- Each of its masks has bits of event threads only.
unfoldable pub masks_ok : Table → List ℕ → Bool
masks_ok t masks = every (length masks) (λ k. mask_ok t (get_or masks k 0))

-- The number that refuses a block behind 11 and 19: in turn 12, 13, 18, 14 (the clock plus the steps above the last), 16; 0 where none does.
unfoldable pub refusal_then : Table → List ℕ → List ℕ → State → ℕ → ℕ
refusal_then t masks bytes s room =
    pick (fits t s)
    (pick (whole t masks bytes)
    (pick (masks_ok t masks)
    (pick (leb (s.clock + length masks) last_clock)
    (pick (leb (length masks) room) 0 16)
    14)
    18)
    13)
    12

-- In a mode: 11 for the table and then 19 for a frame that does not pass with it come first.
unfoldable pub refusal : Table → Mode → List ℕ → List ℕ → State → ℕ → ℕ
refusal t mode masks bytes s room = pick (legal t) (pick (mode_ok t mode) (refusal_then t masks bytes s room) 19) 11

-- What a call gives: its number (0: not refused) and the values that go with it, a state, what the lent part then holds, and the place in it
-- behind the last byte written.
pub record Blocked : Type 0 where
  pub number : ℕ
  pub values : List ℕ
  pub state : State
  pub part : List ℕ
  pub next : ℕ

-- A refused call hands back the state it was given, and writes no byte; its place is 0.
abbrev pub refused_block : ℕ → State → List ℕ → Blocked
refused_block why s part = record { number = why; values = []; state = s; part = part; next = 0 }

-- Steps made: their bytes stand at the part's front, and its other bytes stay; the next place is behind them.
unfoldable pub made : (Input → State → Walked) → List Input → State → List ℕ → Blocked
made f xs s part = record { number = 0; values = []; state = end_of f xs s; part = trace_of f xs s ++ drop (length xs) part; next = length xs }

-- A call in a mode, all or nothing: a refusal, or one step for each mask.
unfoldable pub block : Table → Mode → List ℕ → List ℕ → State → List ℕ → Blocked
block t mode masks bytes s part =
    pick (eqb (refusal t mode masks bytes s (length part)) 0)
    (made (step t mode) (inputs t masks bytes 0 (length masks)) s part)
    (refused_block (refusal t mode masks bytes s (length part)) s part)

-- Where a call stopped that has this number and writes m bytes from a place on: behind them, or at 0 if it was refused.
unfoldable pub stop : ℕ → ℕ → ℕ → ℕ
stop number at m = pick (eqb number 0) (at + m) 0

-- Of a part that starts at a place, said of the whole record: what stands before it stays, and the next place is as many bytes behind it.
abbrev pub behind : ℕ → List ℕ → Blocked → Blocked
behind at out b = record { number = b.number; values = b.values; state = b.state; part = take at out ++ b.part; next = stop b.number at b.next }

-- Where there is no place to write, 16 comes behind every other number.
unfoldable pub or_no_room : ℕ → ℕ
or_no_room n = pick (eqb n 0) 16 n

-- A call that names a record and a place in it: the part starts there. A place past the record's end is refused with 16, even for no steps.
unfoldable pub recorded : Table → Mode → List ℕ → List ℕ → State → List ℕ → ℕ → Blocked
recorded t mode masks bytes s out at =
    pick (leb at (length out)) (behind at out (block t mode masks bytes s (drop at out)))
    (refused_block (or_no_room (refusal t mode masks bytes s 0)) s out)

-- The mode of a frame that is there, or is not.
abbrev pub mode_of : Option Frame → Mode
mode_of (Some f) = framed f
mode_of None = unframed

-- The number of a refusal that is there, 0 where none is.
abbrev pub number_of : Option Refusal → ℕ
number_of (Some why) = number why
number_of None = 0

-- What an answer of the code gives, with what the part holds at its end; the place is 0 on a refusal, and only a refusal has values.
abbrev pub next_of : Result ℕ Refusal → ℕ
next_of r = given_or 0 r

abbrev pub values_of : Result ℕ Refusal → List ℕ
values_of (Ok next) = []
values_of (Err why) = values why

abbrev pub blocked_of : Ended → List ℕ → Blocked
blocked_of r part = record { number = number_or_0 r.outcome; values = values_of r.outcome; state = r.state; part = part; next = next_of r.outcome }
