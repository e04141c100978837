-- What of masks and step bytes a run makes: the whole steps before the first that is refused, and the number that refuses it.
use Rattle.std.specs.Prelude.{ℕ, ◌/◌, min, List, [], ◌∷◌, ◌++◌, length, drop, eqb, leb}
use Rattle.basis.specs.Tests.{pick}
use Rattle.table.specs.Legal.{legal}
use Rattle.table.specs.declared.Table.{Table}
use Rattle.state.specs.State.{fits}
use Rattle.state.specs.declared.State.{State}
use Rattle.frame.specs.Mode.{Mode, mode_ok}
use Rattle.walk.specs.Step.{Input}
use Rattle.scheduler.specs.Taken.{Taken, taken}
use Rattle.block.specs.Block.{byte_of, inputs, number_of}
use Rattle.runs.specs.declared.Played.{Played as Answer}

-- What a run leaves: after n steps the state, and the number that refuses the next whole step, or the run itself (0: none does).
pub record Played : Type 0 where
  pub state : State
  pub why : ℕ
  pub n : ℕ

-- What an answer of the code says, ..
abbrev pub played_of : Answer → Played
played_of r = record { state = r.state; why = number_of r.why; n = r.n }

-- .. with what the part then holds.
abbrev pub left_by : Answer → List ℕ → Played × List ℕ
left_by r part = (played_of r, part)

-- The whole steps of so many masks and bytes, where a step has one mask and one byte for each of so many threads.
unfoldable pub steps_in : ℕ → ℕ → ℕ → ℕ
steps_in count masks bytes = min masks (bytes / count)

abbrev pub whole_steps : Table → List ℕ → List ℕ → ℕ
whole_steps t masks bytes = steps_in t.count (length masks) (length bytes)

-- Single calls of the step: a byte for each that was made, the state after them, and the number of the first that is refused (0: none is).
pub record Run : Type 0 where
  pub bytes : List ℕ
  pub state : State
  pub why : ℕ

abbrev pub then_run : Taken → Run → Run
then_run r more = record { bytes = byte_of r ∷ more.bytes; state = more.state; why = more.why }

unfoldable pub one_by_one : Table → Mode → List Input → State → Run
one_by_one t mode [] s = record { bytes = []; state = s; why = 0 }
one_by_one t mode (x ∷ xs) s =
    pick (eqb (taken t mode x s).told.number 0) (then_run (taken t mode x s) (one_by_one t mode xs (taken t mode x s).state))
    (record { bytes = []; state = s; why = (taken t mode x s).told.number })

-- All whole steps of masks and bytes.
abbrev pub run_of : Table → Mode → List ℕ → List ℕ → State → Run
run_of t mode masks bytes s = one_by_one t mode (inputs t masks bytes 0 (whole_steps t masks bytes)) s

-- The record and the part that such a run leaves: its bytes stand at the part's front, and the part's other bytes stay.
abbrev pub played : Run → List ℕ → Played × List ℕ
played q part = (record { state = q.state; why = q.why; n = length q.bytes }, q.bytes ++ drop (length q.bytes) part)

-- The number that refuses a run of so many steps before its first: in turn 11 for the table, 19 for the frame, 12 for the state, and 16
-- where what is lent has fewer places than there are steps; 0 where none does.
unfoldable pub run_refusal : Table → Mode → State → ℕ → ℕ → ℕ
run_refusal t mode s steps room =
    pick (legal t) (pick (mode_ok t mode) (pick (fits t s) (pick (leb steps room) 0 16) 12) 19) 11

abbrev pub run_number : Table → Mode → List ℕ → List ℕ → State → List ℕ → ℕ
run_number t mode masks bytes s part = run_refusal t mode s (whole_steps t masks bytes) (length part)

-- A refused run makes no step: the state is the one that was handed in, and the part stays.
abbrev pub refused_run : ℕ → State → List ℕ → Played × List ℕ
refused_run why s part = (record { state = s; why = why; n = 0 }, part)

-- A run in a mode: a refusal, or the whole steps up to the first that is refused.
unfoldable pub ran : Table → Mode → List ℕ → List ℕ → State → List ℕ → Played × List ℕ
ran t mode masks bytes s part =
    pick (eqb (run_number t mode masks bytes s part) 0) (played (run_of t mode masks bytes s) part)
    (refused_run (run_number t mode masks bytes s part) s part)
