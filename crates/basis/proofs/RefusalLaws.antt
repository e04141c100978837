-- Laws of refusals: what a refusal tells is its own, and what a call tells whose values tell an answer apart is its answer's alone.
use Rattle.std.proofs.Common.{ℕ, ◌-◌, ◌≡◌, ◌<◌, List, [], ◌∷◌, get_or, Result, Ok, Err, refl, sym, ap, ◌∙◌, arith}
use Rattle.basis.specs.Told.{Told}
use Rattle.basis.specs.Refusals.{number, values, refused_by, told_by, told_done, told_number, given_or}
use Rattle.basis.specs.declared.refusal.Refusal.{Refusal}
use Rattle.basis.specs.declared.refusal.Refusal.TheVariants.{EndsEarly, NotShortest, TooLarge, Version, Count, Row, Intransitive, Field, PriorityTaken, Extra, NotLegal, NotFitting, StepBytes, LastClock, Missing, NoRoom, EventMask, Frame, Actuator, TraceByte}

-- The refusal that has a number and values.
abbrev back : Told → Refusal
back t =
    let vs = t.values in
    get_or (EndsEarly ∷ EndsEarly ∷ NotShortest ∷ TooLarge ∷ Version ∷ Count ∷ Row ∷ Intransitive (get_or vs 0 0) (get_or vs 1 0) (get_or vs 2 0) ∷ Field
    ∷ PriorityTaken ∷ Extra ∷ NotLegal ∷ NotFitting ∷ StepBytes ∷ LastClock ∷ Missing ∷ NoRoom ∷ NoRoom ∷ EventMask ∷ Frame ∷ Actuator ∷ TraceByte ∷ [])
    t.number EndsEarly

back-refused : (why : Refusal) → back (refused_by why) ≡ why
back-refused EndsEarly = refl
back-refused NotShortest = refl
back-refused TooLarge = refl
back-refused Version = refl
back-refused Count = refl
back-refused Row = refl
back-refused (Intransitive a b c) = refl
back-refused Field = refl
back-refused PriorityTaken = refl
back-refused Extra = refl
back-refused NotLegal = refl
back-refused NotFitting = refl
back-refused StepBytes = refl
back-refused LastClock = refl
back-refused Missing = refl
back-refused NoRoom = refl
back-refused EventMask = refl
back-refused Frame = refl
back-refused Actuator = refl
back-refused TraceByte = refl

-- No two refusals tell the same.
pub refused-apart : (why other : Refusal) → refused_by why ≡ refused_by other → why ≡ other
refused-apart why other e = sym (back-refused why) ∙ ap back e ∙ back-refused other

-- A refusal's number is not 0.
pub number-positive : (why : Refusal) → 0 < number why
number-positive EndsEarly = omega arith
number-positive NotShortest = omega arith
number-positive TooLarge = omega arith
number-positive Version = omega arith
number-positive Count = omega arith
number-positive Row = omega arith
number-positive (Intransitive a b c) = omega arith
number-positive Field = omega arith
number-positive PriorityTaken = omega arith
number-positive Extra = omega arith
number-positive NotLegal = omega arith
number-positive NotFitting = omega arith
number-positive StepBytes = omega arith
number-positive LastClock = omega arith
number-positive Missing = omega arith
number-positive NoRoom = omega arith
number-positive EventMask = omega arith
number-positive Frame = omega arith
number-positive Actuator = omega arith
number-positive TraceByte = omega arith

zero-not : {n : ℕ} → 0 < n → 0 ≡ n → ⊥
zero-not p e = omega arith

-- Where values tell answers apart, what a call tells does too.
pub told-apart : {A : Type 0} (vs : A → List ℕ) (r q : Result A Refusal) → ((a b : A) → vs a ≡ vs b → a ≡ b) → told_by vs r ≡ told_by vs q → r ≡ q
told-apart vs (Ok a) (Ok b) f e = ap Ok (f a b (ap (λ (t : Told). t.values) e))
told-apart vs (Ok a) (Err why) f e = absurd (zero-not (number-positive why) (ap (λ (t : Told). t.number) e))
told-apart vs (Err why) (Ok b) f e = absurd (zero-not (number-positive why) (sym (ap (λ (t : Told). t.number) e)))
told-apart vs (Err why) (Err other) f e = ap Err (refused-apart why other e)

-- An answer that is a number is told apart,
pub number-apart : (r q : Result ℕ Refusal) → told_number r ≡ told_number q → r ≡ q
number-apart r q e = told-apart (λ n. n ∷ []) r q (λ a b f. ap (λ (xs : List ℕ). get_or xs 0 0) f) e

-- and one that is given beside.
pub done-apart : {A : Type 0} (z : A) (r q : Result A Refusal) → told_done r ≡ told_done q → given_or z r ≡ given_or z q → r ≡ q
done-apart z (Ok a) (Ok b) e f = ap Ok f
done-apart z (Ok a) (Err why) e f = absurd (zero-not (number-positive why) (ap (λ (t : Told). t.number) e))
done-apart z (Err why) (Ok b) e f = absurd (zero-not (number-positive why) (sym (ap (λ (t : Told). t.number) e)))
done-apart z (Err why) (Err other) e f = ap Err (refused-apart why other e)
