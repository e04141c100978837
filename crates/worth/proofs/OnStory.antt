-- Q-12 in the user's story, whose bounds are 7, 9 and 4: whatever the load monitor sends, the pitch loop runs three of the seven steps from
-- each of its releases on, and the actuator model below it two of nine.
use Prim.Native.Nat.{ℕ, ◌+◌, ◌%◌, ◌≤◌}
use mathlib.Core.Path.{◌≡◌, refl}
use mathlib.Core.List.{List, [], ◌∷◌}
use mathlib.Core.Bool.{true}
use native.Mathlib.Omega.{arith}
use lib.ListN.{length, replicate}
use Rattle.basis.specs.Told.{answered}
use Rattle.table.specs.Legal.{Sized}
use Rattle.example.specs.Story.{story, monitor_sends}
use Rattle.state.specs.State.{last_clock}
use Rattle.walk.specs.Step.{Input}
use Rattle.scheduler.specs.Taken.{mask_ok}
use Rattle.scheduler.specs.Calls.{quietly, WholeSteps}
use Rattle.scheduler.specs.Opened.{opened as calls-opened}
use Rattle.admission.specs.Bounded.{bounding}
use Rattle.admission.specs.Opened.{opened as bounds-opened}
use Rattle.worth.specs.Worth.{from, calls_of, bytes_of, runs_told}
use Rattle.worth.proofs.ClockLaws.{multiple_buys, whole_by, ones_by, length_by}

pub bounds : (bounding story 0 ≡ answered (7 ∷ [])) × (bounding story 1 ≡ answered (9 ∷ [])) × (bounding story 2 ≡ answered (4 ∷ []))
unfolding bounds-opened
bounds = (refl, refl, refl)

sized : Sized story
sized = record { rows = refl; threads = refl }

-- Any run, from any of the releases on.
module _ (run : List Input) (whole : WholeSteps story run) (clocks : length run ≤ last_clock) (r : ℕ) (release : r % 10 ≡ 0) where
  pub pitch_loop : r + 7 ≤ length run → bytes_of 0 (from r 7 run) ≡ replicate 7 1 → runs_told 0 (from r 7 (calls_of story run)) ≡ 3
  pitch_loop = multiple_buys story sized 0 7 bounds.0 (λ e. absurd (omega arith)) refl run whole clocks r release

  pub actuator_model : r + 9 ≤ length run → bytes_of 1 (from r 9 run) ≡ replicate 9 1 → runs_told 1 (from r 9 (calls_of story run)) ≡ 2
  actuator_model = multiple_buys story sized 1 9 bounds.1 (λ e. absurd (omega arith)) refl run whole clocks r release

  -- of its four steps the monitor may run one
  pub load_monitor : r + 4 ≤ length run → bytes_of 2 (from r 4 run) ≡ replicate 4 1 → runs_told 2 (from r 4 (calls_of story run)) ≡ 1
  load_monitor = multiple_buys story sized 2 4 bounds.2 (λ e. absurd (omega arith)) refl run whole clocks r release

no_events : mask_ok story 0 ≡ true
unfolding calls-opened
no_events = refl

-- The pitch loop and the actuator model send 1 always, and the monitor these bytes.
module _ (xs : List ℕ) (c : length xs ≤ last_clock) (r : ℕ) (release : r % 10 ≡ 0) where
  abbrev sent : ℕ → List ℕ
  sent b = 1 ∷ 1 ∷ b ∷ []

  abbrev run : List Input
  run = quietly (monitor_sends xs)

  whole : WholeSteps story run
  whole = whole_by sent story no_events (λ b. refl) xs

  pub pitch_whatever_it_sends : r + 7 ≤ length xs → runs_told 0 (from r 7 (calls_of story (quietly (monitor_sends xs)))) ≡ 3
  pitch_whatever_it_sends l =
      let n = length_by sent xs in
      pitch_loop run whole (omega arith) r release (omega arith) (ones_by sent 0 (λ b. refl) r 7 xs l)

  pub actuator_whatever_it_sends : r + 9 ≤ length xs → runs_told 1 (from r 9 (calls_of story (quietly (monitor_sends xs)))) ≡ 2
  actuator_whatever_it_sends l =
      let n = length_by sent xs in
      actuator_model run whole (omega arith) r release (omega arith) (ones_by sent 1 (λ b. refl) r 9 xs l)
