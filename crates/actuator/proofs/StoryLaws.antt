-- The story: whatever the load monitor sends, and for however many steps, the positions are the same under the same commands.
use Prim.Native.Nat.{ℕ}
use native.Mathlib.Nat.{suc_inj, suc-ne-zero}
use mathlib.Core.Path.{◌≡◌, refl, sym, ap}
use mathlib.Core.List.{List, [], ◌∷◌}
use mathlib.Core.Bool.{true}
use lib.ListN.{length}
use lib.Dec.{lit<}
use lib.IntN.{ℤ}
use Rattle.sight.specs.Opened.{opened}
use Rattle.state.specs.State.{fresh}
use Rattle.sight.specs.Shown.{visible}
use Rattle.isolation.specs.Isolated.{ended, next}
use Rattle.isolation.proofs.OnStory.{story-legal, same_step}
use Rattle.actuator.specs.Motion.{start}
use Rattle.frame.specs.Mode.{unframed}
use Rattle.walk.specs.Step.{quiet}
use Rattle.actuator.specs.Drive.{Brought}
use Rattle.actuator.specs.Runs.{positions, SameRuns}
use Rattle.example.specs.Story.{story}
use Rattle.actuator.proofs.IsolatedDrives.{same-positions}

-- The pitch loop and the actuator model send 1 at every step, the monitor the bytes xs, and the commands are cs: as many steps as
-- both have.
unfoldable pub monitor_sends : List ℕ → List ℤ → List Brought
monitor_sends [] cs = []
monitor_sends (x ∷ xs) [] = []
monitor_sends (x ∷ xs) (c ∷ cs) = record { input = quiet (1 ∷ 1 ∷ x ∷ []); command = c } ∷ monitor_sends xs cs

-- The pitch loop's domain may see its own thread.
pitch_seen : visible story 0 0 ≡ true
unfolding opened
pitch_seen = refl

same_runs : (xs ys : List ℕ) (cs : List ℤ) → length xs ≡ length ys → SameRuns story 0 (monitor_sends xs cs) (monitor_sends ys cs)
unfolding monitor_sends
same_runs [] [] cs h = record { steps = ended; commands = refl }
same_runs [] (y ∷ ys) cs h = absurd (suc-ne-zero _ (sym h))
same_runs (x ∷ xs) [] cs h = absurd (suc-ne-zero _ h)
same_runs (x ∷ xs) (y ∷ ys) [] h = record { steps = ended; commands = refl }
same_runs (x ∷ xs) (y ∷ ys) (c ∷ cs) h =
    let m = same_runs xs ys cs (suc_inj h) in
    record { steps = next (same_step x y) m.steps; commands = ap (λ l. c ∷ l) m.commands }

-- The actuator may start anywhere and have any rate.
pub whatever_the_monitor_sends : (xs ys : List ℕ) (cs : List ℤ) → length xs ≡ length ys → (p : ℤ) (rate : ℕ)
    → positions story unframed (monitor_sends xs cs) (fresh story) (start p rate 0) ≡ positions story unframed (monitor_sends ys cs) (fresh story) (start p rate 0)
unfolding start
whatever_the_monitor_sends xs ys cs h p rate =
    same-positions story unframed story-legal (record { rows = refl; threads = refl }) 0 (lit< tt) (start p rate 0) pitch_seen
    (monitor_sends xs cs) (monitor_sends ys cs) (same_runs xs ys cs h)
