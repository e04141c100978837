-- A call that is given 0 is a step, and any other hands back its state: so what each step keeps a run of calls keeps, and calls that are all
-- given 0 are the steps in turn.
use Prim.Native.Nat.{ℕ, zero, suc, ◌<◌}
use mathlib.Core.Path.{◌≡◌, refl, sym, subst}
use mathlib.Core.List.{List, [], ◌∷◌}
use native.Mathlib.Omega.{arith}
use borrow.Author.Tests.{eqb-true, eqb-false}
use lib.ListN.{length, get_or, replicate}
use lib.Dec.{eqb}
use Rattle.basis.specs.Turns.{in_turn, after}
use Rattle.basis.proofs.TestLaws.{by_test}
use Rattle.basis.proofs.TurnLaws.{after_keeps}
use Rattle.basis.proofs.ListLaws.{Each}
use Rattle.table.specs.declared.Table.{Table}
use Rattle.state.specs.State.{last_clock, Fits}
use Rattle.state.specs.declared.State.{State}
use Rattle.frame.specs.Mode.{Mode, unframed}
use Rattle.walk.specs.Step.{Input, step}
use Rattle.walk.specs.Paid.{runs_of}
use Rattle.walk.proofs.StepLaws.{step_clock, step_fits}
use Rattle.walk.proofs.MostLaws.{Room}
use Rattle.scheduler.specs.Taken.{Taken, took, taken}
use Rattle.scheduler.specs.Numbered.{Numbered, steps}
use Rattle.scheduler.specs.Calls.{calls}
use Rattle.scheduler.proofs.RefusalLaws.{taken-steps, number_exactly, refused_keeps}
use Rattle.scheduler.proofs.UniqueLaws.{answer_back}
use Rattle.worth.specs.Worth.{after_calls, numbers, bytes_of, runs_told}
use Rattle.worth.proofs.MostLaws.{onward}

-- Thread i's byte is 1 at each of these steps.
abbrev pub Ones : ℕ → List Input → Type 0
Ones i = Each (λ (y : Input). get_or y.bytes i 0 ≡ 1)

pub ones_of : (i n : ℕ) (a : List Input) → bytes_of i a ≡ replicate n 1 → Ones i a
ones_of i n [] e = tt
ones_of i zero (y ∷ a) e = let z : ◌≡◌ {A = ℕ} 0 1 = cc in absurd (omega arith)
ones_of i (suc n) (y ∷ a) e = let rest : bytes_of i a ≡ replicate n 1 = cc in (cc, ones_of i n a rest)

-- What a call that is given 0 had.
pub record Steps (t : Table) (mode : Mode) (y : Input) (s : State) : Type 0 where
  pub step-taken : taken t mode y s ≡ took (step t mode y s)
  pub early : s.clock < last_clock

pub stepped : (t : Table) (mode : Mode) (y : Input) (s : State) → (taken t mode y s).told.number ≡ 0 → Steps t mode y s
stepped t mode y s e = go ((number_exactly t mode y s 0).0 e)
  where
    go : Numbered t mode y s 0 → Steps t mode y s
    go (steps a o b c m d) = record { step-taken = taken-steps t mode y s a o b c m d; early = d }

module _ (t : Table) where
  -- what each step from a fitting state keeps, a run of calls keeps
  pub calls_keep : (P : State → Type 0) → ((y : Input) (s : State) → Fits t s → s.clock < last_clock → P s → P (step t unframed y s).state)
      → (a : List Input) (s : State) → Fits t s × P s → Fits t (after_calls t a s) × P (after_calls t a s)
  calls_keep P keep = after_keeps (taken t unframed) (λ (c : Taken). c.state) Q one
    where
      Q : State → Type 0
      Q s = Fits t s × P s

      one : (y : Input) (s : State) → Q s → Q (taken t unframed y s).state
      one y s h =
          by_test (eqb (taken t unframed y s).told.number 0)
          (λ e. let d = stepped t unframed y s (eqb-true _ _ e) in
          subst (λ (c : Taken). Q c.state) (sym d.step-taken) (step_fits t unframed y s h.0 d.early, keep y s h.0 d.early h.1))
          (λ e. let d = eqb-false (taken t unframed y s).told.number 0 e in
          subst Q (sym (refused_keeps t unframed y s (omega (arith, d)))) h)

  -- calls that are all given 0 are the steps
  pub record Made (n : ℕ) (a : List Input) (s : State) : Type 0 where
    pub many : length a ≡ n
    pub room : Room a s
    pub ends : after_calls t a s ≡ onward t a s
    pub ran : (i : ℕ) → runs_told i (calls t unframed a s) ≡ runs_of t unframed i a s

  pub made : (n : ℕ) (a : List Input) (s : State) → Fits t s → numbers (calls t unframed a s) ≡ replicate n 0 → Made n a s
  unfolding calls in_turn after runs_told runs_of
  made zero [] s f e = record { many = refl; room = omega (arith, f.clock_high); ends = refl; ran = λ i. refl }
  made zero (y ∷ a) s f e = let z : ◌≡◌ {A = ℕ} 0 1 = cc in absurd (omega arith)
  made (suc n) [] s f e = let z : ◌≡◌ {A = ℕ} 0 1 = cc in absurd (omega arith)
  made (suc n) (y ∷ a) s f e =
      let first : (taken t unframed y s).told.number ≡ 0 = cc in
      let rest : numbers (calls t unframed a (taken t unframed y s).state) ≡ replicate n 0 = cc in
      let d = stepped t unframed y s first in
      let z : State = (step t unframed y s).state in
      let m : Made n a z = made n a z (step_fits t unframed y s f d.early) (rw d.step-taken at rest) in
      record {
        many = omega (arith, m.many);
        room = omega (arith, m.room, step_clock t unframed y s);
        ends = rw d.step-taken m.ends;
        ran = λ i. rw (d.step-taken, answer_back (step t unframed y s).answer, m.ran i);
      }
