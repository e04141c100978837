-- Calls of the step, and what a domain is shown, written as numbers: through the public operations' definitions.
use Rattle.std.specs.Prelude.{ℕ, ◌-◌, List, [], ◌∷◌, ◌++◌, map, Bool, length, replicate}
use Rattle.basis.specs.Tests.{pick}
use Rattle.basis.specs.Turns.{after}
use Rattle.table.specs.declared.Table.{Table}
use Rattle.example.specs.Example.{sent}
use Rattle.state.specs.State.{no_progress, with_rest, with_execution, with_finished, with_count, with_since, starting, fresh_given}
use Rattle.state.specs.declared.Progress.{Progress}
use Rattle.state.specs.declared.State.{State}
use Rattle.walk.specs.Step.{Input}
use Rattle.walk.specs.declared.Answer.{Answer}
use Rattle.frame.specs.Mode.{Mode, unframed}
use Rattle.scheduler.specs.Taken.{Taken, answer_of, taken}
use Rattle.scheduler.specs.Calls.{quietly, calls}
use Rattle.sight.specs.Shown.{showing, showing_state, threads_shown}
use Rattle.known.specs.Entry.{flat}

-- A call's number and values: thread i ran, the processor idles for i, or for nobody; or it is refused with a number.
abbrev pub ran : ℕ → List ℕ
ran i = 0 ∷ 0 ∷ i ∷ []

abbrev pub idle_for : ℕ → List ℕ
idle_for i = 0 ∷ 1 ∷ i ∷ []

abbrev pub idle : List ℕ
idle = 0 ∷ 2 ∷ []

abbrev pub refused_with : ℕ → List ℕ
refused_with why = why ∷ []

-- What a domain is shown: 0 and thread i, or 0 and 256, which no thread is called, for a gap; or it is refused with a number, and 256.
abbrev pub seen : ℕ → List ℕ
seen i = 0 ∷ i ∷ []

abbrev pub gap : List ℕ
gap = 0 ∷ 256 ∷ []

abbrev pub not_shown : ℕ → List ℕ
not_shown why = why ∷ 256 ∷ []

abbrev or_256 : List ℕ → List ℕ
or_256 [] = 256 ∷ []
or_256 (i ∷ more) = i ∷ more

-- Lists one after the other.
abbrev pub joined : List (List ℕ) → List ℕ
joined [] = []
joined (x ∷ xs) = x ++ joined xs

-- A thread's rest, rest of execution, finish mark and count; and an event thread's, with its steps since release.
abbrev pub left : ℕ → ℕ → Bool → ℕ → Progress
left rest execution mark n = with_rest rest (with_execution execution (with_finished mark (with_count n no_progress)))

abbrev pub left_since : ℕ → ℕ → Bool → ℕ → ℕ → Progress
left_since rest execution mark n since = with_since since (left rest execution mark n)

-- A state by its clock and the threads that it begins with, zeros in the other places.
abbrev pub places : List Progress → List Progress
places ps = ps ++ replicate (32 - length ps) no_progress

abbrev pub at : ℕ → List Progress → State
at c ps = record { clock = c; threads = places ps }

-- A state as numbers: the clock, and both rests, the mark, the count and the steps since release of each of the 32 places.
abbrev pub each : List Progress → List ℕ
each [] = []
each (p ∷ ps) = p.rest ∷ p.execution ∷ pick p.finished 1 0 ∷ p.ran ∷ p.since ∷ each ps

abbrev pub state : State → List ℕ
state s = s.clock ∷ each s.threads

-- What `fresh` tells of a table, and then its state.
abbrev pub fresh_told : Table → List ℕ
fresh_told t = flat (starting t) ++ state (fresh_given t)

-- What one call gives: its number and values, and the state that it hands back.
abbrev pub gives : List ℕ → State → List ℕ
gives answer s = answer ++ state s

abbrev of_taken : Taken → List ℕ
of_taken r = gives (flat r.told) r.state

-- What a domain is shown of an answer, and of a state.
abbrev pub shown : Table → ℕ → Answer → List ℕ
shown t d a = (showing t d a).number ∷ or_256 (showing t d a).values

abbrev pub shown_state : Table → State → ℕ → List ℕ
shown_state t s d = flat (showing_state t s d) ++ each (threads_shown t s d)

-- Bytes, with a mask of events.
abbrev pub with_mask : List ℕ → ℕ → Input
with_mask bs mask = record { mask = mask; bytes = bs }

-- A call in a mode, with a mask of events; without a frame; without an event either; and so from a fresh start.
abbrev pub call_in : Table → Mode → State → ℕ → List ℕ → List ℕ
call_in t mode s mask bs = of_taken (taken t mode (with_mask bs mask) s)

abbrev pub call_with : Table → State → ℕ → List ℕ → List ℕ
call_with t s mask bs = call_in t unframed s mask bs

abbrev pub call : Table → State → List ℕ → List ℕ
call t s bs = call_with t s 0 bs

abbrev pub first_call : Table → List ℕ → List ℕ
first_call t bs = call t (fresh_given t) bs

-- The answers of a run of calls in a mode from a fresh start, the state after them, and what a domain is shown of each.
abbrev pub answers_in : Table → Mode → List Input → List ℕ
answers_in t mode xs = joined (map (λ (r : Taken). flat r.told) (calls t mode xs (fresh_given t)))

abbrev pub state_in : Table → Mode → List Input → List ℕ
state_in t mode xs = state (after (taken t mode) (λ (r : Taken). r.state) xs (fresh_given t))

abbrev pub shown_in : Table → Mode → ℕ → List Input → List ℕ
shown_in t mode d xs = joined (map (λ (r : Taken). shown t d (answer_of r.told.values)) (calls t mode xs (fresh_given t)))

-- The same without a frame.
abbrev pub answers_of : Table → List Input → List ℕ
answers_of t xs = answers_in t unframed xs

abbrev pub state_of : Table → List Input → List ℕ
state_of t xs = state_in t unframed xs

-- And without an event, thread 0 sending these bytes and thread 1 always 1.
abbrev pub answers : Table → List ℕ → List ℕ
answers t bs = answers_of t (quietly (sent bs))

abbrev pub state_after : Table → List ℕ → List ℕ
state_after t bs = state_of t (quietly (sent bs))

abbrev pub shown_to : Table → ℕ → List ℕ → List ℕ
shown_to t d bs = shown_in t unframed d (quietly (sent bs))
