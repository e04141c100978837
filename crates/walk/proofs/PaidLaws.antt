-- A thread pays one at most in a step, since the order has it once, and W at most between two releases, since only a release
-- raises a rest and a walk lowers it by what is paid.
use Prim.Native.Nat.{ℕ, ◌+◌, ◌≤◌, ◌<◌, zero-le}
use mathlib.Core.List.{List, [], ◌∷◌}
use native.Mathlib.Omega.{arith}
use native.Mathlib.Nat.{le_refl}
use lib.ListN.{get_or}
use Rattle.basis.proofs.TestLaws.{both_ways}
use Rattle.table.specs.Threads.{thread}
use Rattle.table.specs.declared.Table.{Table}
use Rattle.table.specs.Mark.{Mark}
use Rattle.state.specs.State.{progress, Fits}
use Rattle.state.specs.Release.{release}
use Rattle.state.specs.Methods.{pay, finish, count}
use Rattle.state.specs.Given.{Each}
use Rattle.state.specs.declared.Progress.{Progress}
use Rattle.state.specs.declared.State.{State}
use Rattle.state.proofs.StateLaws.{put-each}
use Rattle.state.proofs.ReleaseLaws.{release_spends}
use Rattle.state.proofs.TickLaws.{tick_keeps, aged_rest}
use Rattle.state.proofs.FitLaws.{release-fits}
use Rattle.order.proofs.OrderLaws.{FallingFrom}
use Rattle.frame.specs.Mode.{Mode, threads_at}
use Rattle.frame.proofs.ModeLaws.{at_falls_from, at_below}
use Rattle.walk.specs.Walk.{heard, decided, visit, walk}
use Rattle.walk.specs.Step.{Input, ticked, advance, marks_at, step}
use Rattle.walk.specs.Paid.{pays, payments, Unreleased}
use Rattle.walk.specs.declared.Walked.{Walked}
use Rattle.walk.proofs.WalkLaws.{walk-each}
use Rattle.walk.proofs.StepLaws.{Spent, kept_spent}

-- No thread's rest rises in the walk, so what it pays is the whole difference.
pub step_spends : (t : Table) (mode : Mode) (x : Input) (s : State) → Spent (release t x.mask s) (step t mode x s).state
unfolding step advance ticked
step_spends t mode x s =
    let r : State = release t x.mask s in
    let w : Spent r (walk (marks_at t mode s.clock) x.bytes (threads_at t mode s.clock) r).state
    = walk-each (marks_at t mode s.clock) t.count _ (kept_spent t.count r) (λ i p. p.rest ≤ (progress r i).rest) (λ i p h. h)
    (λ i p l h. h) x.bytes (threads_at t mode s.clock) r (at_below t mode s.clock) (record { at = λ i. le_refl _ }) in
    record { at = λ i. rw (tick_keeps t (λ p. p.rest) aged_rest (walk (marks_at t mode s.clock) x.bytes (threads_at t mode s.clock) r).state i) (w.at i) }

-- A walk down a falling list reaches each thread once.
module _ (t : Table) (m : List Mark) (s : State) where
  -- since s thread i has paid one at most, and nothing if its priority is below p: the walk has not reached it
  abbrev Once : ℕ → ℕ → Progress → Type 0
  Once p i q = ((progress s i).rest ≤ q.rest + 1) × ((thread t i).priority < p → (progress s i).rest ≤ q.rest)

  visit-once : (p b i : ℕ) (z : State) → (thread t i).priority < p → Each (Once p) z → Each (Once (thread t i).priority) (visit m b i z).state
  unfolding visit decided heard finish pay count
  visit-once p b i z l h =
      let P : ℕ → Progress → Type 0 = Once (thread t i).priority in
      let reached : (x : State) → Each (Once p) x → Each P x = λ x g. record { at = λ k. ((g.at k).0, λ u. (g.at k).1 (omega arith)) } in
      let k : Each (Once p) (heard b i z) = both_ways (Each (Once p)) _ _ _ (put-each (Once p) z i _ h (h.at i)) h in
      let a : Each P (heard b i z) = reached _ k in
      let q : Each P (pay (heard b i z) i) = put-each P (heard b i z) i _ a (omega (arith, (k.at i).1 l), λ u. absurd (omega arith)) in
      let R : Walked → Type 0 = λ w. Each P w.state in
      both_ways R _ _ _ (reached z h)
      (both_ways R _ _ _ (put-each P (pay (heard b i z) i) i _ q (q.at i)) (both_ways R _ _ _ (search) (search)))

  walk-once : (p : ℕ) (bs is : List ℕ) (z : State) → FallingFrom t p is → Each (Once p) z
      → Each (λ i q. (progress s i).rest ≤ q.rest + 1) (walk m bs is z).state
  unfolding walk
  walk-once p bs [] z f h = record { at = λ i. (h.at i).0 }
  walk-once p bs (i ∷ is) z f h =
      let v : Each (Once (thread t i).priority) (visit m (get_or bs i 0) i z).state = visit-once p (get_or bs i 0) i z f.0 h in
      let R : Walked → Type 0 = λ w. Each (λ i q. (progress s i).rest ≤ q.rest + 1) w.state in
      both_ways R _ _ _ (record { at = λ j. (v.at j).0 }) (walk-once (thread t i).priority bs is _ f.1 v)

pub pays-once : (t : Table) (mode : Mode) (x : Input) (s : State) (i : ℕ) → pays t mode x s i ≤ 1
unfolding pays step advance ticked
pays-once t mode x s i =
    let r : State = release t x.mask s in
    let w : Each (λ i q. (progress r i).rest ≤ q.rest + 1) (walk (marks_at t mode s.clock) x.bytes (threads_at t mode s.clock) r).state
    = walk-once t (marks_at t mode s.clock) r 256 x.bytes (threads_at t mode s.clock) r (at_falls_from t mode s.clock) (record { at = λ i. (omega arith, λ u. le_refl _) }) in
    let k = tick_keeps t (λ p. p.rest) aged_rest (walk (marks_at t mode s.clock) x.bytes (threads_at t mode s.clock) r).state i in
    omega (arith, w.at i, k)

-- While thread i is not released it pays no more than the rest it has.
payments-left : (t : Table) (mode : Mode) (i : ℕ) (more : List Input) (s : State)
    → Unreleased t mode i more s → payments t mode i more s ≤ (progress s i).rest
unfolding payments pays
payments-left t mode i [] s n = zero-le
payments-left t mode i (x ∷ more) s n =
    omega (
      arith,
      (step_spends t mode x s).at i,
      release_spends t i x.mask s n.0,
      payments-left t mode i more (step t mode x s).state n.1,
    )

-- From a fitting state: W at most, over a first step and more in which thread i is not released.
pub payments-most : (t : Table) (mode : Mode) (i : ℕ) (x : Input) (more : List Input) (s : State) → i < t.count → Fits t s
    → Unreleased t mode i more (step t mode x s).state → payments t mode i (x ∷ more) s ≤ (thread t i).budget
unfolding payments pays
payments-most t mode i x more s l f n =
    omega (
      arith,
      (step_spends t mode x s).at i,
      ((release-fits t x.mask s f).at i).rest_high l,
      payments-left t mode i more (step t mode x s).state n,
    )
