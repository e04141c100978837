-- What is hidden from d is not shown to it: an answer is a gap, and of a state only what d may see counts.
use Prim.Native.Nat.{ℕ, ◌<◌}
use mathlib.Core.Path.{◌≡◌, refl, ap, fun_ext, sym, ◌∙◌}
use mathlib.Core.List.{List, [], ◌∷◌, append-nil}
use lib.ListN.{get_or}
use lib.Dec.{ltb}
use borrow.Author.Tests.{ltb-true, lt-ltb}
use mathlib.Core.Logic.{◌↔◌}
use mathlib.Core.Bool.{true, false}
use Rattle.basis.specs.Tests.{pick}
use Rattle.basis.specs.Search.{listed}
use Rattle.basis.specs.Told.{answered}
use Rattle.basis.proofs.TestLaws.{both, and_both, and-of}
use Rattle.basis.proofs.SearchLaws.{listed_at}
use Rattle.flow.specs.Flow.{flows}
use Rattle.table.specs.Threads.{thread}
use Rattle.table.specs.Mark.{seen_by}
use Rattle.table.specs.declared.Table.{Table}
use Rattle.state.specs.State.{no_progress, with_since, progress}
use Rattle.state.specs.declared.State.{State}
use Rattle.state.specs.declared.Progress.{Progress}
use Rattle.walk.specs.declared.Answer.TheVariants.{Ran, IdleFor, Idle}
use Rattle.sight.specs.Shown.{visible, view, seen_progress, seen_threads}

module _ (t : Table) (d : ℕ) where
  pub seen-run : (i : ℕ) → visible t d i ≡ true → view t d (Ran i) ≡ answered (i ∷ [])
  unfolding view pick
  seen-run i e = rw e

  pub unseen_gap : (i : ℕ) → visible t d i ≡ false → view t d (Ran i) ≡ answered []
  unfolding view pick
  unseen_gap i v = rw v

  pub idle-gap : (i : ℕ) → view t d (IdleFor i) ≡ answered []
  unfolding view
  idle-gap i = refl

  pub nobody-gap : view t d Idle ≡ answered []
  unfolding view
  nobody-gap = refl

  -- Two states in which each thread that d may see is the same are shown the same.
  pub seen_same : (s r : State) → ((i : ℕ) → visible t d i ≡ true → progress s i ≡ progress r i) → seen_threads t d s ≡ seen_threads t d r
  unfolding seen_threads seen_progress
  seen_same s r h = ap (listed 32) (fun_ext (λ i. both ◌≡◌ (visible t d i) _ refl (λ v. ap (with_since 0) (h i v)) (λ _. refl)))

  -- Of a place d is shown the progress of a thread that it may see, but for its steps since release, and zeros of any other.
  shown-at : (s : State) (i : ℕ) → i < 32 → get_or (seen_threads t d s) i no_progress ≡ seen_progress t d s i
  unfolding seen_threads
  shown-at s i l = sym (ap (λ (x : List Progress). get_or x i no_progress) (append-nil (listed 32 (seen_progress t d s)))) ∙ listed_at (seen_progress t d s) 32 i [] no_progress l

  pub seen_at : (s : State) (i : ℕ) → i < 32 → visible t d i ≡ true → get_or (seen_threads t d s) i no_progress ≡ with_since 0 (progress s i)
  unfolding seen_progress pick
  seen_at s i l v = shown-at s i l ∙ rw v

  pub hidden_at : (s : State) (i : ℕ) → i < 32 → visible t d i ≡ false → get_or (seen_threads t d s) i no_progress ≡ no_progress
  unfolding seen_progress pick
  hidden_at s i l v = shown-at s i l ∙ rw v

  -- d may see thread i exactly if i is a thread of the table whose domain may flow to d.
  pub visible_exactly : (i : ℕ) → (visible t d i ≡ true) ↔ ((i < t.count) × (flows t.rows (thread t i).domain d ≡ true))
  unfolding visible seen_by
  visible_exactly i = (
    λ e. let q = and_both (ltb i t.count) _ e in (ltb-true _ _ q.0, q.1),
    λ h. and-of (lt-ltb _ _ h.0) h.1,
  )
