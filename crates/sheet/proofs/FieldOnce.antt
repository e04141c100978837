-- No second answer fits the reading of a field: what refuses it is 1, 2 or 3, and so comes with no values.
use Prim.Native.Nat.{ℕ}
use mathlib.Core.Path.{◌≡◌, refl, sym, ◌∙◌, ap}
use mathlib.Core.List.{List, []}
use native.Mathlib.Omega.{arith}
use Rattle.std.specs.Prelude.{Result, Ok, Err}
use Rattle.basis.specs.Refusals.{number, values}
use Rattle.basis.specs.declared.refusal.Refusal.{Refusal}
use Rattle.basis.specs.declared.refusal.Refusal.TheVariants.{Intransitive}
use Rattle.basis.proofs.RefusalLaws.{refused-apart}
use Rattle.numeral.specs.Number.{Number, Value, Refused, given}
use Rattle.numeral.specs.declared.Numeral.{Numeral}
use Rattle.sheet.specs.Field.{field_at}
use Rattle.sheet.proofs.CodeCuts.{no_field-few}
use Rattle.sheet.proofs.FieldRules.{no_field_exactly}

plain : (why : Refusal) → (number why ≡ 7 → ⊥) → values why ≡ []
plain (Intransitive a b c) d = absurd (d refl)
plain why d = refl

field-plain : (s : List ℕ) (at : ℕ) (why : Refusal) → given (Err why) ≡ field_at s at → values why ≡ []
field-plain s at why e = plain why (no_field-few _ (number why) ((no_field_exactly s at (number why)).0 (sym e)))

-- No second answer fits `read_field`.
pub read_field_unique : (s : List ℕ) (at : ℕ) (r q : Result Numeral Refusal) → given r ≡ field_at s at → given q ≡ field_at s at → r ≡ q
read_field_unique s at (Ok n) (Ok m) e f =
    let g : given (Ok n) ≡ given (Ok m) = e ∙ sym f in
    let v : n.value ≡ m.value = cc in
    let w : n.next ≡ m.next = cc in
    ap Ok (λ i. record { value = v i; next = w i })
read_field_unique s at (Ok n) (Err why) e f = let g : given (Ok n) ≡ given (Err why) = e ∙ sym f in cc
read_field_unique s at (Err why) (Ok n) e f = let g : given (Err why) ≡ given (Ok n) = e ∙ sym f in cc
read_field_unique s at (Err why) (Err other) e f =
    let g : Refused (number why) ≡ Refused (number other) = e ∙ sym f in
    let n : number why ≡ number other = cc in
    let v : values why ≡ values other = field-plain s at why e ∙ sym (field-plain s at other f) in
    ap Err (refused-apart why other (cc))
