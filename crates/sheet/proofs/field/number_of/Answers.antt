use mathlib.Core.Path.{◌≡◌, sym, ◌∙◌}
use mathlib.Core.Bool.{true, false}
use Rattle.sheet.specs.Field.{zero_first, all_digits}
use Rattle.sheet.proofs.FieldLaws.{handed_on, digits-all, judged-padded, judged_strange, judged_over, judged_value}
use Rattle.sheet.proofs.field.number_of.Goals as goal
use Rattle.sheet.proofs.field.number_of.Goals.{Else-is_padded, Else-not-is_digits, then-is_padded-via-then-is_padded, then-is_padded-via-else-is_padded+then-not-is_digits}

unpadded : (c : Else-is_padded) → zero_first c.args.f.now ≡ false
unpadded c = sym c.is_padded.ensures ∙ c.if-is_padded.false

digits : (c : Else-not-is_digits) → all_digits c.args.f.now ≡ true
digits c = sym (digits-all c.args.f.now) ∙ sym c.is_digits.ensures ∙ c.if-not-is_digits.false

pub returns-then-is_padded : goal.returns-then-is_padded
returns-then-is_padded c =
    elim c.then-is_padded.branch [
      | then-is_padded-via-then-is_padded w ↦ judged-padded _ _ (sym c.is_padded.ensures ∙ w.if-is_padded.true)
      | then-is_padded-via-else-is_padded+then-not-is_digits w ↦ judged_strange _ _ (sym c.is_padded.ensures ∙ w.if-is_padded.false) (sym (digits-all c.args.f.now) ∙ sym w.is_digits.ensures ∙ w.if-not-is_digits.true)
    ]

pub value_of-requires : goal.value_of-requires
value_of-requires c = digits (goal.at.value_of-requires c).Else-not-is_digits

pub returns-in_err-value : goal.returns-in_err-value
returns-in_err-value c = handed_on _ _ c.from_residual.ensures.1 (judged_over _ _ (unpadded (goal.at.returns-in_err-value c).Else-is_padded) (digits (goal.at.returns-in_err-value c).Else-not-is_digits) c.in_err-value.ensures.0 c.in_err-value.ensures.1)

pub returns : goal.returns
returns c = judged_value _ _ (unpadded (goal.at.returns c).Else-is_padded) (digits (goal.at.returns c).Else-not-is_digits) c.in_ok-value.ensures.0 c.in_ok-value.ensures.1
