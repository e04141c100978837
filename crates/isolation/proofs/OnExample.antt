-- Demand 3 on example E (K-3), without a frame and in one: domain 0 is shown the same whatever thread 0 sends, and it is shown thread 1 three times.
use Prim.Native.Nat.{ℕ, zero, suc}
use native.Mathlib.Nat.{suc_inj, suc-ne-zero}
use mathlib.Core.Path.{◌≡◌, refl, sym}
use mathlib.Core.List.{List, [], ◌∷◌, map}
use mathlib.Core.Bool.{true, false≢true}
use lib.ListN.{length, get_or, replicate}
use lib.Dec.{lit<}
use Rattle.basis.specs.Told.{Told, answered}
use Rattle.table.specs.Legal.{legal}
use Rattle.example.specs.Example.{example, sent, waiting}
use Rattle.state.specs.State.{fresh}
use Rattle.frame.specs.Frame.{no_window}
use Rattle.frame.specs.Mode.{Mode, unframed, framed, mode_ok}
use Rattle.walk.specs.Step.{quiet}
use Rattle.scheduler.specs.Taken.{Taken}
use Rattle.scheduler.specs.Calls.{quietly, calls}
use Rattle.sight.specs.Shown.{visible}
use Rattle.isolation.specs.Isolated.{telling, ShownCall, shown_of, SameStep, SameSteps, ended, next}
use Rattle.isolation.specs.Opened.{opened}
use Rattle.isolation.proofs.Isolation.{demand_3}

example-legal : legal example ≡ true
unfolding opened
example-legal = refl

-- Thread 0's domain may not flow to domain 0.
same_step : (x y : ℕ) → SameStep example 0 (quiet (x ∷ 1 ∷ [])) (quiet (y ∷ 1 ∷ []))
unfolding opened
same_step x y = record { masks = refl; long = refl; same = λ i v. cc (same i v) }
  where
    same : (i : ℕ) → visible example 0 i ≡ true → get_or (x ∷ 1 ∷ []) i 0 ≡ get_or (y ∷ 1 ∷ []) i 0
    same zero v = absurd (false≢true v)
    same (suc i) v = refl

same-steps : (xs ys : List ℕ) → length xs ≡ length ys → SameSteps example 0 (quietly (sent xs)) (quietly (sent ys))
same-steps [] [] h = ended
same-steps [] (y ∷ ys) h = absurd (suc-ne-zero _ (sym h))
same-steps (x ∷ xs) [] h = absurd (suc-ne-zero _ h)
same-steps (x ∷ xs) (y ∷ ys) h = next (same_step x y) (same-steps xs ys (suc_inj h))

-- Two steps of domain 1, in which thread 0 is walked alone, then three of domain 0, in which both threads are.
abbrev pub windows : Mode
windows = framed (record { count = 2; windows = record { domain = 1; length = 2 } ∷ record { domain = 0; length = 3 } ∷ replicate 62 no_window })

-- The frame passes with E: its calls are not refused with 19.
pub windows_pass : mode_ok example windows ≡ true
unfolding opened
windows_pass = refl

-- What domain 0 is shown of a run in a mode, thread 0 sending these bytes; and what it is told of each step.
abbrev pub shown_by : Mode → List ℕ → List ShownCall
shown_by mode xs = map (shown_of example 0) (calls example mode (quietly (sent xs)) (fresh example))

abbrev pub told_by : Mode → List ℕ → List Told
told_by mode xs = map (λ (r : Taken). telling example 0 r.told) (calls example mode (quietly (sent xs)) (fresh example))

-- Demand 3 itself, on E.
pub whatever_it_sends : (mode : Mode) (xs ys : List ℕ) → length xs ≡ length ys → shown_by mode xs ≡ shown_by mode ys
whatever_it_sends mode xs ys h = demand_3 example mode example-legal (record { rows = refl; threads = refl }) 0 (lit< tt) (quietly (sent xs)) (quietly (sent ys)) (same-steps xs ys h)

-- K-3: thread 0 sends 1, 0, 0, 2, then 1 six times; or 1 always.
pub k_3 : shown_by unframed waiting ≡ shown_by unframed (replicate 10 1)
k_3 = whatever_it_sends unframed waiting (replicate 10 1) refl

pub k_3_framed : shown_by windows waiting ≡ shown_by windows (replicate 10 1)
k_3_framed = whatever_it_sends windows waiting (replicate 10 1) refl

-- What domain 0 is told, by computation: thread 1 ran at the fifth, sixth and seventh step.
pub told : told_by unframed waiting ≡ map answered ([] ∷ [] ∷ [] ∷ [] ∷ (1 ∷ []) ∷ (1 ∷ []) ∷ (1 ∷ []) ∷ [] ∷ [] ∷ [] ∷ [])
unfolding opened
told = refl

-- In the frame at the fifth, eighth and ninth: the sixth and the seventh are in a window of domain 1.
pub told_framed : told_by windows waiting ≡ map answered ([] ∷ [] ∷ [] ∷ [] ∷ (1 ∷ []) ∷ [] ∷ [] ∷ (1 ∷ []) ∷ (1 ∷ []) ∷ [] ∷ [])
unfolding opened
told_framed = refl
