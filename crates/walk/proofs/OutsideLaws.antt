-- A walk names and touches threads of its list only: so threads outside a window are not chosen, pay nothing and are not heard.
use Prim.Native.Nat.{ℕ}
use mathlib.Core.Path.{◌≡◌, refl, sym, ◌∙◌}
use mathlib.Core.List.{List, [], ◌∷◌}
use mathlib.Core.Bool.{true, false, true≢false}
use mathlib.Core.Logic.{inl, inr}
use lib.ListN.{get_or}
use Rattle.basis.proofs.TestLaws.{both_ways}
use Rattle.table.specs.declared.Table.{Table}
use Rattle.table.specs.Mark.{Mark}
use Rattle.state.specs.State.{progress}
use Rattle.state.specs.Release.{release}
use Rattle.state.specs.Methods.{tick}
use Rattle.state.specs.declared.State.{State}
use Rattle.state.proofs.TickLaws.{tick-same}
use Rattle.order.specs.Order.{Stands}
use Rattle.frame.specs.Mode.{Mode, threads_at, walks}
use Rattle.frame.proofs.ModeLaws.{at_only}
use Rattle.walk.specs.Walk.{visit, walk}
use Rattle.walk.specs.Step.{Input, ticked, advance, marks_at, step, Names}
use Rattle.walk.specs.declared.Walked.{Walked}
use Rattle.walk.proofs.WalkLaws.{walk-length}
use Rattle.walk.proofs.ChoiceLaws.{nobody, visit_names, visit_others}

module _ (m : List Mark) (bs : List ℕ) where
  walk_names : (i : ℕ) (is : List ℕ) (s : State) → Names i (walk m bs is s).answer → Stands i is
  unfolding walk
  walk_names i [] s n = nobody i n
  walk_names i (j ∷ js) s n =
      let P : Walked → Type 0 = λ w. Names i w.answer → Stands i (j ∷ js) in
      both_ways P _ _ _ (λ v. inl (visit_names m _ j s i v)) (λ w. inr (walk_names i js _ w)) n

  walk_out : (i : ℕ) (is : List ℕ) (s : State) → (Stands i is → ⊥) → progress (walk m bs is s).state i ≡ progress s i
  unfolding walk
  walk_out i [] s h = refl
  walk_out i (j ∷ js) s h =
      let q : progress (visit m (get_or bs j 0) j s).state i ≡ progress s i = visit_others m _ j s i (λ e. h (inl e)) in
      let P : Walked → Type 0 = λ w. progress w.state i ≡ progress s i in
      both_ways P _ _ _ q (walk_out i js _ (λ r. h (inr r)) ∙ q)

module _ (t : Table) (mode : Mode) (x : Input) (s : State) (i : ℕ) where
  -- The thread that an answer names is one that the mode has at that clock.
  pub chosen-walks : Names i (step t mode x s).answer → walks t mode s.clock i ≡ true
  unfolding step advance ticked
  chosen-walks n = at_only t mode s.clock i (walk_names (marks_at t mode s.clock) x.bytes i (threads_at t mode s.clock) (release t x.mask s) n)

  -- Every other thread is as the release left it, one tick later.
  pub outside_stays : walks t mode s.clock i ≡ false → progress (step t mode x s).state i ≡ progress (tick t (release t x.mask s)) i
  unfolding step advance ticked
  outside_stays o =
      let r : State = release t x.mask s in
      let is : List ℕ = threads_at t mode s.clock in
      tick-same t _ r (walk-length (marks_at t mode s.clock) x.bytes is r) i
      (walk_out (marks_at t mode s.clock) x.bytes i is r (λ q. true≢false (sym (at_only t mode s.clock i q) ∙ o)))
