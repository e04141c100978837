-- A thread runs W - B steps at most between two releases, whatever it sends, and never with a rest of execution of 0.
use Prim.Native.Nat.{ℕ, ◌-◌, ◌≤◌, ◌<◌, zero-le}
use mathlib.Core.Path.{◌≡◌, ◌∙◌, subst}
use mathlib.Core.List.{List, [], ◌∷◌}
use native.Mathlib.Omega.{arith}
use lib.ListN.{length, get_or}
use Rattle.table.specs.Threads.{thread}
use Rattle.table.specs.Mark.{marks_of}
use Rattle.table.specs.declared.Table.{Table}
use Rattle.state.specs.State.{progress, Fits}
use Rattle.state.specs.Release.{release}
use Rattle.state.specs.declared.State.{State}
use Rattle.state.proofs.ReleaseLaws.{release_length, release_slows}
use Rattle.state.proofs.TickLaws.{tick-length}
use Rattle.state.proofs.FitLaws.{release-fits}
use Rattle.frame.specs.Mode.{Mode, threads_at}
use Rattle.walk.specs.Step.{Input, ticked, advance, marks_at, step, Says}
use Rattle.walk.specs.Paid.{runs_of, Unreleased}
use Rattle.walk.specs.declared.Answer.{Answer}
use Rattle.walk.specs.declared.Answer.TheVariants.{Ran}
use Rattle.walk.proofs.WalkLaws.{walk-length}
use Rattle.walk.proofs.ReachedLaws.{runs_exactly}
use Rattle.walk.proofs.ChoiceLaws.{chosen_says}
use Rattle.walk.proofs.CountLaws.{step-runs}

pub runs_rested : (t : Table) (mode : Mode) (x : Input) (s : State) (i : ℕ) → (step t mode x s).answer ≡ Ran i → 0 < (progress (release t x.mask s) i).execution
runs_rested t mode x s i e =
    let r : State = release t x.mask s in
    ((runs_exactly (get_or x.bytes i 0) (progress r i)).0 (subst (λ (a : Answer). Says (marks_of t) x.bytes r a) e (chosen_says t mode x s))).2

step-length : (t : Table) (mode : Mode) (x : Input) (s : State) → length (step t mode x s).state.threads ≡ length s.threads
unfolding step advance ticked
step-length t mode x s = tick-length t _ ∙ walk-length (marks_at t mode s.clock) x.bytes (threads_at t mode s.clock) (release t x.mask s) ∙ release_length t x.mask s

-- While thread i is not released it runs no more than the execution it has left.
runs-left : (t : Table) (mode : Mode) (i : ℕ) (more : List Input) (s : State) → i < length s.threads
    → Unreleased t mode i more s → runs_of t mode i more s ≤ (progress s i).execution
unfolding runs_of
runs-left t mode i [] s l n = zero-le
runs-left t mode i (x ∷ more) s l n =
    let k : length (step t mode x s).state.threads ≡ length s.threads = step-length t mode x s in
    omega (
      arith,
      step-runs t mode x s i l,
      release_slows t i x.mask s n.0,
      runs-left t mode i more (step t mode x s).state (omega arith) n.1,
    )

-- From a fitting state: W - B at most, over a first step and more in which thread i is not released.
pub runs-most : (t : Table) (mode : Mode) (i : ℕ) (x : Input) (more : List Input) (s : State) → t.count ≤ 32 → i < t.count → Fits t s
    → Unreleased t mode i more (step t mode x s).state → runs_of t mode i (x ∷ more) s ≤ (thread t i).budget - (thread t i).blocking
unfolding runs_of
runs-most t mode i x more s few l f n =
    let k : length (step t mode x s).state.threads ≡ 32 = step-length t mode x s ∙ f.long in
    omega (
      arith,
      step-runs t mode x s i (omega (arith, f.long)),
      ((release-fits t x.mask s f).at i).execution_high l,
      runs-left t mode i more (step t mode x s).state (omega arith) n,
    )
