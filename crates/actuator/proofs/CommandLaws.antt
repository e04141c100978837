-- Which command stands after a drive: the number brought, drawn into the range, exactly where the drive tells that the named thread ran.
use Prim.Native.Nat.{ℕ, ◌<◌}
use mathlib.Core.Path.{◌≡◌, refl, sym, ◌∙◌, ap}
use mathlib.Core.List.{[], ◌∷◌}
use mathlib.Core.Logic.{◌≢◌}
use native.Mathlib.Omega.{arith}
use borrow.Author.Tests.{eq-eqb, eqb-true, eqb-false}
use lib.Dec.{eqb}
use Rattle.basis.specs.Tests.{pick}
use Rattle.basis.specs.Told.{Told, answered}
use Rattle.basis.proofs.TestLaws.{by_test, either}
use Rattle.table.specs.declared.Table.{Table}
use Rattle.walk.specs.Step.{step}
use Rattle.scheduler.specs.Taken.{Taken, values, taken}
use Rattle.scheduler.specs.Numbered.{Numbered, steps}
use Rattle.state.specs.declared.State.{State}
use Rattle.walk.specs.declared.Answer.{Answer}
use Rattle.walk.specs.declared.Answer.TheVariants.{Ran, IdleFor, Idle}
use Rattle.scheduler.proofs.RefusalLaws.{number_exactly, taken-steps}
use Rattle.frame.specs.Mode.{Mode}
use Rattle.actuator.specs.Motion.{drawn}
use Rattle.actuator.specs.Drive.{Brought, Drove, ran, commanded, moved_to, driven}
use Rattle.actuator.specs.declared.Actuator.{Actuator}
use Rattle.scheduler.proofs.UniqueLaws.{answer_back}
use Rattle.actuator.proofs.NumberLaws.{drive_refused_keeps}
use Rattle.actuator.proofs.MoveLaws.{drive_steps}

above : {n : ℕ} → n ≢ 0 → 0 < n
above h = omega (arith, h)

module _ (t : Table) (mode : Mode) (b : Brought) (s : State) (a : Actuator) where
  -- The command after a drive that tells an answer.
  command-of : (n : Answer) → (driven t mode b s a).told ≡ answered (values n) → (driven t mode b s a).actuator.command ≡ commanded a n b.command
  unfolding moved_to
  command-of n h =
      let e = drive_steps t mode b s a (ap (λ (x : Told). x.number) h) in
      let v : (taken t mode b.input s).told ≡ answered (values n) = sym (ap (λ (x : Drove). x.told) e) ∙ h in
      ap (λ (x : Drove). x.actuator.command) e ∙ rw (v, answer_back n)

  pub taken_if_ran : (driven t mode b s a).told ≡ answered (0 ∷ a.thread ∷ []) → (driven t mode b s a).actuator.command ≡ drawn b.command
  unfolding commanded ran pick
  taken_if_ran h = command-of (Ran a.thread) h ∙ rw (eq-eqb a.thread a.thread refl)

  -- Any other answer, and any refusal, leaves the last command.
  pub kept_unless_ran : (driven t mode b s a).told ≢ answered (0 ∷ a.thread ∷ []) → (driven t mode b s a).actuator.command ≡ a.command
  unfolding commanded ran pick
  kept_unless_ran h =
      by_test (eqb (driven t mode b s a).told.number 0)
      (λ q. let m = eqb-true (driven t mode b s a).told.number 0 q in
      let k : (taken t mode b.input s).told.number ≡ 0 = sym (ap (λ (x : Drove). x.told.number) (drive_steps t mode b s a m)) ∙ m in
      stepped ((number_exactly t mode b.input s 0).0 k) m)
      (λ q. ap (λ (x : Actuator). x.command) (drive_refused_keeps t mode b s a (above (eqb-false _ 0 q))).1)
    where
      other : (n : Answer) → (driven t mode b s a).told ≡ answered (values n) → commanded a n b.command ≡ a.command
      other (Ran i) e =
          either (λ z. z ≡ a.command) (eqb a.thread i)
          (λ q. absurd (h (e ∙ ap (λ (j : ℕ). answered (0 ∷ j ∷ [])) (sym (eqb-true a.thread i q))))) (λ q. refl)
      other (IdleFor i) e = refl
      other Idle e = refl

      stepped : Numbered t mode b.input s 0 → (driven t mode b s a).told.number ≡ 0 → (driven t mode b s a).actuator.command ≡ a.command
      stepped (steps x o y z u w) m =
          let n : Answer = (step t mode b.input s).answer in
          let e : (driven t mode b s a).told ≡ answered (values n) =
          ap (λ (r : Drove). r.told) (drive_steps t mode b s a m) ∙ ap (λ (r : Taken). r.told) (taken-steps t mode b.input s x o y z u w) in
          command-of n e ∙ other n e
