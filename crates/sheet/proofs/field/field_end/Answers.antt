-- What is left of the field is what was left at its start, less the characters passed.
use mathlib.Core.Path.{sym, ◌∙◌, ap}
use native.Mathlib.Omega.{arith}
use Rattle.sheet.specs.Field.{field_ends}
use Rattle.sheet.proofs.FieldLaws.{along_open, along_shut, end_so, drop_all}
use Rattle.sheet.proofs.field.field_end.Goals as goal

pub returns-then-field_ends : goal.returns-then-field_ends
returns-then-field_ends c =
    along_shut _ _ _ c.loop-end.invariant (sym (c.field_ends.ensures ∙ ap field_ends (drop_all c.args.s.now c.loop-end.end)) ∙ c.if-field_ends.true)

pub loop-end-preserved : goal.loop-end-preserved
loop-end-preserved c =
    along_open _ _ _ c.loop-end.invariant (sym (c.field_ends.ensures ∙ ap field_ends (drop_all c.args.s.now c.loop-end.end)) ∙ c.if-field_ends.false)

pub returns : goal.returns
returns c = end_so _ _ _ _ c.loop-end.invariant c.loop-end-test.false (λ h. omega arith) c.max.ensures
