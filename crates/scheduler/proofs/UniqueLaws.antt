-- No second answer fits `step`: from what an outcome tells, the outcome can be read back.
use Prim.Native.Nat.{ℕ}
use mathlib.Core.Path.{◌≡◌, refl, sym, ◌∙◌, ap}
use mathlib.Core.List.{List, [], ◌∷◌}
use lib.Dec.{eqb}
use Rattle.basis.specs.Tests.{pick}
use Rattle.basis.proofs.BackLaws.{undone}
use Rattle.table.specs.declared.Table.{Table}
use Rattle.state.specs.declared.State.{State}
use Rattle.frame.specs.Mode.{Mode}
use Rattle.walk.specs.Step.{Input}
use Rattle.walk.specs.declared.Answer.{Answer}
use Rattle.walk.specs.declared.Answer.TheVariants.{Ran, IdleFor, Idle}
use Rattle.scheduler.specs.Taken.{Taken, values, answer_of, told, taken, taken_of}
use Rattle.std.specs.Prelude.{Result}
use Rattle.basis.specs.declared.refusal.Refusal.{Refusal}
use Rattle.basis.proofs.RefusalLaws.{told-apart}
use Rattle.scheduler.specs.declared.Stepped.{Stepped}

-- An answer is known from its values.
pub answer_back : (a : Answer) → answer_of (values a) ≡ a
unfolding answer_of pick
answer_back (Ran i) = refl
answer_back (IdleFor i) = refl
answer_back Idle = refl

pub told_injective : (a b : Result Answer Refusal) → told a ≡ told b → a ≡ b
told_injective a b e = told-apart values a b (λ x y f. sym (answer_back x) ∙ ap answer_of f ∙ answer_back y) e

pub step_unique : (t : Table) (mode : Mode) (x : Input) (s : State) (r q : Stepped) → taken_of r ≡ taken t mode x s → taken_of q ≡ taken t mode x s → r ≡ q
step_unique t mode x s r q e f =
    let g : taken_of r ≡ taken_of q = e ∙ sym f in
    let o : r.outcome ≡ q.outcome = told_injective _ _ (ap (λ (x : Taken). x.told) g) in
    let n : r.state ≡ q.state = ap (λ (x : Taken). x.state) g in
    λ k. record { outcome = o k; state = n k }
