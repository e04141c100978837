-- No second answer fits a run: none is refused with 7, the one number that comes with values.
use Prim.Native.Nat.{ℕ, ◌<◌}
use mathlib.Core.Path.{◌≡◌, refl, sym, ◌∙◌, ap}
use mathlib.Core.List.{List, [], ◌∷◌}
use native.Mathlib.Omega.{arith}
use lib.ListN.{length}
use lib.Dec.{eqb}
use Rattle.std.specs.Prelude.{Option, None, Some}
use Rattle.basis.specs.Tests.{pick}
use Rattle.basis.specs.Refusals.{number}
use Rattle.basis.specs.declared.refusal.Refusal.{Refusal}
use Rattle.basis.proofs.TestLaws.{by_test, either}
use Rattle.basis.proofs.RefusalLaws.{number-positive}
use Rattle.table.specs.declared.Table.{Table}
use Rattle.state.specs.declared.State.{State}
use Rattle.frame.specs.Mode.{Mode}
use Rattle.walk.specs.Step.{Input}
use Rattle.scheduler.specs.Numbered.{Numbered}
use Rattle.scheduler.specs.Taken.{taken}
use Rattle.scheduler.proofs.RefusalLaws.{number_exactly}
use Rattle.block.specs.Block.{inputs, number_of}
use Rattle.block.proofs.UniqueLaws.{refusal_known}
use Rattle.runs.specs.Playing.{Played, one_by_one, run_of, run_refusal, run_number, whole_steps, ran, left_by}
use Rattle.runs.specs.Numbered.{RunNumbered}
use Rattle.runs.specs.declared.Played.{Played as Answer}
use Rattle.runs.proofs.NumberLaws.{run_number_exactly}

why_known : (r q : Option Refusal) → number_of r ≡ number_of q → (number_of r ≡ 7 → ⊥) → r ≡ q
why_known None None e d = refl
why_known None (Some why) e d = absurd (let p : 0 < number why = number-positive why in omega arith)
why_known (Some why) None e d = absurd (let p : 0 < number why = number-positive why in omega arith)
why_known (Some why) (Some other) e d = ap Some (refusal_known why other e d)

step_never_7 : (t : Table) (mode : Mode) (x : Input) (s : State) → (taken t mode x s).told.number ≡ 7 → ⊥
step_never_7 t mode x s e = none ((number_exactly t mode x s 7).0 e)
  where
    none : Numbered t mode x s 7 → ⊥
    none r = elim r [ ]

steps_never_7 : (t : Table) (mode : Mode) (xs : List Input) (s : State) → (one_by_one t mode xs s).why ≡ 7 → ⊥
unfolding one_by_one pick
steps_never_7 t mode [] s e = omega arith
steps_never_7 t mode (x ∷ xs) s e =
    by_test (eqb (taken t mode x s).told.number 0)
    (λ z. steps_never_7 t mode xs (taken t mode x s).state (rw z at e))
    (λ z. step_never_7 t mode x s (rw z at e))

refused_never_7 : (t : Table) (mode : Mode) (s : State) (steps room : ℕ) → run_refusal t mode s steps room ≡ 7 → ⊥
refused_never_7 t mode s steps room e = none ((run_number_exactly t mode s steps room 7).0 e)
  where
    none : RunNumbered t mode s steps room 7 → ⊥
    none r = elim r [ ]

-- No second answer says why a run is refused before its first step.
pub run_refusal_unique : (t : Table) (mode : Mode) (s : State) (steps room : ℕ) (r q : Option Refusal) → number_of r ≡ run_refusal t mode s steps room
    → number_of q ≡ run_refusal t mode s steps room → r ≡ q
run_refusal_unique t mode s steps room r q e f = why_known r q (e ∙ sym f) (λ z. refused_never_7 t mode s steps room (sym e ∙ z))

module _ (t : Table) (mode : Mode) (masks bs : List ℕ) (s : State) (part : List ℕ) where
  never_7 : (ran t mode masks bs s part).0.why ≡ 7 → ⊥
  unfolding ran
  never_7 =
      either (λ (w : Played × List ℕ). w.0.why ≡ 7 → ⊥) (eqb (run_number t mode masks bs s part) 0)
      (λ _. steps_never_7 t mode (inputs t masks bs 0 (whole_steps t masks bs)) s)
      (λ _. refused_never_7 t mode s (whole_steps t masks bs) (length part))

  pub runs_unique : (r q : Answer) (x y : List ℕ) → left_by r x ≡ ran t mode masks bs s part → left_by q y ≡ ran t mode masks bs s part → (r ≡ q) × (x ≡ y)
  runs_unique r q x y e f =
      let g : left_by r x ≡ left_by q y = e ∙ sym f in
      let seven : number_of r.why ≡ 7 → ⊥ = λ z. never_7 (sym (ap (λ (w : Played × List ℕ). w.0.why) e) ∙ z) in
      let o : r.why ≡ q.why = why_known _ _ (ap (λ (w : Played × List ℕ). w.0.why) g) seven in (
        (λ i. record { state = ap (λ (w : Played × List ℕ). w.0.state) g i; why = o i; n = ap (λ (w : Played × List ℕ). w.0.n) g i }),
        ap (λ (w : Played × List ℕ). w.1) g,
      )
