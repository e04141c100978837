-- No second answer fits a call; none is refused with 7, the one number that comes with values.
use Prim.Native.Nat.{ℕ, ◌<◌}
use lib.ListN.{length}
use mathlib.Core.Path.{◌≡◌, refl, sym, ◌∙◌, ap}
use mathlib.Core.List.{List, []}
use native.Mathlib.Omega.{arith}
use Rattle.std.specs.Prelude.{Result, Ok, Err}
use Rattle.basis.specs.Refusals.{number, values, number_or_0}
use Rattle.basis.specs.declared.refusal.Refusal.{Refusal}
use Rattle.basis.specs.declared.refusal.Refusal.TheVariants.{EndsEarly, NotShortest, TooLarge, Version, Count, Row, Intransitive, Field, PriorityTaken, Extra, NotLegal, NotFitting, StepBytes, LastClock, Missing, NoRoom, EventMask, Frame, Actuator, TraceByte}
use Rattle.basis.proofs.RefusalLaws.{refused-apart, number-positive}
use Rattle.table.specs.declared.Table.{Table}
use Rattle.state.specs.declared.State.{State}
use Rattle.frame.specs.Mode.{Mode}
use Rattle.block.specs.declared.Ended.{Ended}
use Rattle.block.specs.Block.{refusal, Blocked, recorded, or_no_room, next_of, values_of, blocked_of}
use Rattle.block.specs.Numbered.{BlockNumbered}
use Rattle.block.proofs.RecordLaws.{recorded-front, block-number}
use Rattle.block.proofs.PlaceLaws.{recorded_past}
use Rattle.block.proofs.NumberLaws.{block_number_exactly}

valueless : (why : Refusal) → (number why ≡ 7 → ⊥) → values why ≡ []
valueless EndsEarly d = refl
valueless NotShortest d = refl
valueless TooLarge d = refl
valueless Version d = refl
valueless Count d = refl
valueless Row d = refl
valueless (Intransitive a b c) d = absurd (d refl)
valueless Field d = refl
valueless PriorityTaken d = refl
valueless Extra d = refl
valueless NotLegal d = refl
valueless NotFitting d = refl
valueless StepBytes d = refl
valueless LastClock d = refl
valueless Missing d = refl
valueless NoRoom d = refl
valueless EventMask d = refl
valueless Frame d = refl
valueless Actuator d = refl
valueless TraceByte d = refl

pub refusal_known : (why other : Refusal) → number why ≡ number other → (number why ≡ 7 → ⊥) → why ≡ other
refusal_known why other e d =
    let v : values why ≡ values other = valueless why d ∙ sym (valueless other (λ q. d (e ∙ q))) in
    refused-apart why other (λ i. record { number = e i; values = v i })

-- An outcome is known by its number, its values and its place.
outcome_known : (r q : Result ℕ Refusal) → number_or_0 r ≡ number_or_0 q → values_of r ≡ values_of q → next_of r ≡ next_of q → r ≡ q
outcome_known (Ok a) (Ok b) e v f = ap Ok f
outcome_known (Ok a) (Err why) e v f = absurd (let p : 0 < number why = number-positive why in omega arith)
outcome_known (Err why) (Ok b) e v f = absurd (let p : 0 < number why = number-positive why in omega arith)
outcome_known (Err why) (Err other) e v f = ap Err (refused-apart why other (λ i. record { number = e i; values = v i }))

-- No second answer fits a call, and the part can hold nothing else.
pub block_unique : (b : Blocked) (r q : Ended) (x y : List ℕ) → blocked_of r x ≡ b → blocked_of q y ≡ b → (r ≡ q) × (x ≡ y)
block_unique b r q x y e f =
    let g : blocked_of r x ≡ blocked_of q y = e ∙ sym f in
    let o : r.outcome ≡ q.outcome
    = outcome_known _ _ (ap (λ (w : Blocked). w.number) g) (ap (λ (w : Blocked). w.values) g) (ap (λ (w : Blocked). w.next) g) in
    ((λ i. record { outcome = o i; state = ap (λ (w : Blocked). w.state) g i }), ap (λ (w : Blocked). w.part) g)

module _ (t : Table) (mode : Mode) (masks bs : List ℕ) (s : State) where
  pub never_7 : (out : List ℕ) (at : ℕ) → (recorded t mode masks bs s out at).number ≡ 7 → ⊥
  never_7 out at e = none ((block_number_exactly t mode masks bs s out at 7).0 e)
    where
      none : BlockNumbered t mode masks bs s out at 7 → ⊥
      none r = elim r [ ]

  pub record_unique : (out : List ℕ) (at : ℕ) (r q : Ended) (x y : List ℕ) → blocked_of r x ≡ recorded t mode masks bs s out at
      → blocked_of q y ≡ recorded t mode masks bs s out at → (r ≡ q) × (x ≡ y)
  record_unique out at = block_unique (recorded t mode masks bs s out at)

  -- A refusal of a call has no values.
  pub block_plain : (part : List ℕ) (why : Refusal) → number why ≡ refusal t mode masks bs s (length part) → values why ≡ []
  block_plain part why e =
      valueless why (λ z. never_7 part 0 (ap (λ (w : Blocked). w.number) (recorded-front t mode masks bs s part) ∙ block-number t mode masks bs s part ∙ sym e ∙ z))

  pub record_plain : (out : List ℕ) (at : ℕ) (why : Refusal) → length out < at → number why ≡ or_no_room (refusal t mode masks bs s 0) → values why ≡ []
  record_plain out at why h e =
      valueless why (λ z. never_7 out at (ap (λ (w : Blocked). w.number) (sym (recorded_past t mode masks bs s out at _ h refl)) ∙ sym e ∙ z))
