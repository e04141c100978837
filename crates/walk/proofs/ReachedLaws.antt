-- A reached thread: it pays whatever it says, and a marked one ends the walk. Demand 3 needs both.
use Prim.Native.Nat.{ℕ, ◌<◌}
use mathlib.Core.Path.{◌≡◌, refl}
use mathlib.Core.List.{List}
use mathlib.Core.Bool.{true, false, not}
use mathlib.Core.Logic.{◌≢◌, ◌↔◌}
use borrow.Author.Tests.{eqb-true, eq-eqb, ne_eqb, not-true, ltb-true, lt-ltb}
use lib.Dec.{eqb, ltb}
use Rattle.basis.specs.Tests.{pick, and}
use Rattle.basis.proofs.TestLaws.{either, both_ways, refuted, and_both, and-of}
use Rattle.table.specs.Mark.{Mark}
use Rattle.table.specs.Mark.{is_set}
use Rattle.state.specs.State.{progress}
use Rattle.state.specs.Methods.{pay, finish, count}
use Rattle.state.specs.declared.Progress.{Progress}
use Rattle.state.specs.declared.State.{State}
use Rattle.walk.specs.Walk.{heard, runs, walked, decided, visit, chosen}
use Rattle.walk.specs.declared.Answer.TheVariants.{Ran, IdleFor, Idle}
use Rattle.walk.specs.declared.Walked.{Walked}

module _ (m : List Mark) (b i : ℕ) (s : State) where
  -- It has paid in each of its three cases: it runs, the processor idles on its account, or the walk goes on.
  pub reached_pays : (P : Walked → Type 0) → (runs b (progress s i) ≡ true → P (walked (Ran i) (count (pay s i) i))) → P (walked (IdleFor i) (pay s i))
      → P (walked Idle (pay s i)) → P (decided m b i s)
  unfolding decided pay
  reached_pays P runs_so idles-so goes_on = either P (runs b (progress s i)) runs_so (λ _. both_ways P _ _ _ idles-so goes_on)

  pub marked_ends : is_set m i ≡ true → chosen (decided m b i s).answer ≡ true
  unfolding decided
  marked_ends e =
      let P : Walked → Type 0 = λ w. chosen w.answer ≡ true in
      either P (runs b (progress s i)) (λ _. refl) (λ _. either P (is_set m i) (λ _. refl) (λ n. refuted e n))

-- 1 runs, unless the finish mark is set or no execution is left; no other byte does.
pub runs_exactly : (b : ℕ) (p : Progress) → (runs b p ≡ true) ↔ ((b ≡ 1) × (p.finished ≡ false) × (0 < p.execution))
unfolding runs
runs_exactly b p = (
  λ e.
      let q = and_both (eqb b 1) (and (not p.finished) (ltb 0 p.execution)) e in
      let r = and_both (not p.finished) (ltb 0 p.execution) q.1 in
      (eqb-true b 1 q.0, not-true _ r.0, ltb-true _ _ r.1),
  λ h. and-of (eq-eqb b 1 h.0) (and-of {a = not p.finished} (rw h.1) (lt-ltb _ _ h.2)),
)

-- 2 is finish; every byte but 1 and 2 acts as 0.
pub two_finishes : (i : ℕ) (s : State) → heard 2 i s ≡ finish s i
unfolding heard pick
two_finishes i s = refl

pub strange_waits : (m : List Mark) (b i : ℕ) (s : State) → b ≢ 1 → b ≢ 2 → visit m b i s ≡ visit m 0 i s
unfolding visit decided heard runs pick
strange_waits m b i s n k = rw (ne_eqb b 1 n, ne_eqb b 2 k)
