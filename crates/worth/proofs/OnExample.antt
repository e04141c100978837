-- Q-12 on example E, whose bounds are 4 and 7: thread 0 runs two of the four steps from each of its releases on, and thread 1 three of seven,
-- whatever the other sends. So the premises can be met.
use Prim.Native.Nat.{ℕ, ◌+◌, ◌%◌, ◌≤◌, zero-le}
use mathlib.Core.Path.{◌≡◌, refl, ◌∙◌, ap}
use mathlib.Core.List.{List, [], ◌∷◌}
use mathlib.Core.Bool.{true}
use native.Mathlib.Nat.{sub-zero}
use native.Mathlib.Omega.{arith}
use lib.ListN.{length, replicate}
use Rattle.basis.specs.Told.{answered}
use Rattle.table.specs.Legal.{Sized}
use Rattle.example.specs.Example.{example, sent}
use Rattle.state.specs.State.{last_clock}
use Rattle.frame.specs.Mode.{unframed}
use Rattle.walk.specs.Step.{Input}
use Rattle.walk.specs.Paid.{payments}
use Rattle.scheduler.specs.Taken.{mask_ok}
use Rattle.scheduler.specs.Calls.{quietly, WholeSteps}
use Rattle.scheduler.specs.Opened.{opened as calls-opened}
use Rattle.admission.specs.Bounded.{bounding}
use Rattle.admission.specs.Opened.{opened as bounds-opened}
use Rattle.worth.specs.Worth.{from, calls_of, state_at, bytes_of, runs_told}
use Rattle.worth.proofs.ClockLaws.{clock_pays, multiple_buys, whole_by, ones_by, length_by}

pub bounds : (bounding example 0 ≡ answered (4 ∷ [])) × (bounding example 1 ≡ answered (7 ∷ []))
unfolding bounds-opened
bounds = (refl, refl)

sized : Sized example
sized = record { rows = refl; threads = refl }

-- Any run, from any of the releases on.
module _ (run : List Input) (whole : WholeSteps example run) (clocks : length run ≤ last_clock) (r : ℕ) (release : r % 10 ≡ 0) where
  pub thread_0 : r + 4 ≤ length run → bytes_of 0 (from r 4 run) ≡ replicate 4 1 → runs_told 0 (from r 4 (calls_of example run)) ≡ 2
  thread_0 = multiple_buys example sized 0 4 bounds.0 (λ e. absurd (omega arith)) refl run whole clocks r release

  pub thread_1 : r + 7 ≤ length run → bytes_of 1 (from r 7 run) ≡ replicate 7 1 → runs_told 1 (from r 7 (calls_of example run)) ≡ 3
  thread_1 = multiple_buys example sized 1 7 bounds.1 (λ e. absurd (omega arith)) refl run whole clocks r release

  -- whatever anybody sends, itself included
  pub thread_0_pays : r + 4 ≤ length run → payments example unframed 0 (from r 4 run) (state_at example run r) ≡ 4
  thread_0_pays l =
      clock_pays example sized 0 4 r run
      (record { bounded = bounds.0; periodic = λ e. absurd (omega arith); begun = zero-le; phase = ap (λ c. c % 10) (sub-zero r) ∙ release; whole = whole; calls = l; clocks = clocks })

no_events : mask_ok example 0 ≡ true
unfolding calls-opened
no_events = refl

-- Thread 1 sends 1 always, and thread 0 these bytes.
pub whatever_thread_0_sends : (xs : List ℕ) → length xs ≤ last_clock → (r : ℕ) → r % 10 ≡ 0 → r + 7 ≤ length xs
    → runs_told 1 (from r 7 (calls_of example (quietly (sent xs)))) ≡ 3
whatever_thread_0_sends xs c r e l =
    let f : ℕ → List ℕ = λ b. b ∷ 1 ∷ [] in
    let n = length_by f xs in
    thread_1 (quietly (sent xs)) (whole_by f example no_events (λ b. refl) xs) (omega arith) r e (omega arith) (ones_by f 1 (λ b. refl) r 7 xs l)
