-- Demand 3 in the user's story: the pitch loop's domain is shown the same whatever the load monitor sends, for however many steps.
use Prim.Native.Nat.{ℕ, zero, suc}
use native.Mathlib.Nat.{suc_inj, suc-ne-zero}
use mathlib.Core.Path.{◌≡◌, refl, sym}
use mathlib.Core.List.{List, [], ◌∷◌, map}
use mathlib.Core.Bool.{true, false≢true}
use lib.ListN.{length, get_or}
use lib.Dec.{lit<}
use Rattle.table.specs.Legal.{legal}
use Rattle.example.specs.Story.{story, monitor_sends}
use Rattle.state.specs.State.{fresh}
use Rattle.frame.specs.Mode.{unframed}
use Rattle.walk.specs.Step.{quiet}
use Rattle.scheduler.specs.Calls.{quietly, calls}
use Rattle.sight.specs.Shown.{visible}
use Rattle.isolation.specs.Isolated.{shown_of, SameStep, SameSteps, ended, next}
use Rattle.isolation.specs.Opened.{opened}
use Rattle.isolation.proofs.Isolation.{demand_3}

pub story-legal : legal story ≡ true
unfolding opened
story-legal = refl

-- The monitor's domain may not flow to the pitch loop's.
pub same_step : (x y : ℕ) → SameStep story 0 (quiet (1 ∷ 1 ∷ x ∷ [])) (quiet (1 ∷ 1 ∷ y ∷ []))
unfolding opened
same_step x y = record { masks = refl; long = refl; same = λ i v. cc (same i v) }
  where
    same : (i : ℕ) → visible story 0 i ≡ true → get_or (1 ∷ 1 ∷ x ∷ []) i 0 ≡ get_or (1 ∷ 1 ∷ y ∷ []) i 0
    same zero v = refl
    same (suc zero) v = refl
    same (suc (suc zero)) v = absurd (false≢true v)
    same (suc (suc (suc i))) v = refl

same-steps : (xs ys : List ℕ) → length xs ≡ length ys → SameSteps story 0 (quietly (monitor_sends xs)) (quietly (monitor_sends ys))
same-steps [] [] h = ended
same-steps [] (y ∷ ys) h = absurd (suc-ne-zero _ (sym h))
same-steps (x ∷ xs) [] h = absurd (suc-ne-zero _ h)
same-steps (x ∷ xs) (y ∷ ys) h = next (same_step x y) (same-steps xs ys (suc_inj h))

pub whatever_the_monitor_sends : (xs ys : List ℕ) → length xs ≡ length ys
    → map (shown_of story 0) (calls story unframed (quietly (monitor_sends xs)) (fresh story)) ≡ map (shown_of story 0) (calls story unframed (quietly (monitor_sends ys)) (fresh story))
whatever_the_monitor_sends xs ys h =
    demand_3 story unframed story-legal (record { rows = refl; threads = refl }) 0 (lit< tt) (quietly (monitor_sends xs)) (quietly (monitor_sends ys)) (same-steps xs ys h)
