use mathlib.Core.Path.{◌∙◌}
use native.Mathlib.Omega.{arith}
use Rattle.sheet.proofs.FieldLaws.{field-empty, field_cut-short, field-judged}
use Rattle.sheet.proofs.FieldRuns.{field-within}
use borrow.Author.Rules.{rules}
use Rattle.sheet.proofs.field.read_field.Goals as goal
use Rattle.sheet.proofs.field.read_field.Goals.{then-end-at-via-then-end-at, then-end-at-via-else-end-at+then-s-end}

pub returns-then-end-at : goal.returns-then-end-at
returns-then-end-at c =
    elim c.then-end-at.branch [
      | then-end-at-via-then-end-at w ↦ (field-empty _ _ _ c.field_end-end.ensures w.if-end-at.true, omega arith)
      | then-end-at-via-else-end-at+then-s-end w ↦ (field_cut-short _ _ _ c.field_end-end.ensures w.if-s-end.true, omega arith)
    ]

pub slice_bounds-number_of-count : goal.slice_bounds-number_of-count
slice_bounds-number_of-count c = omega (arith, c.field_end-end.ensures)

pub slice_bounds-number_of-start : goal.slice_bounds-number_of-start
slice_bounds-number_of-start c = search (rules, c.field_end-end.ensures)

pub returns : goal.returns
returns c =
    let r = c.number_of.ensures ∙ field-judged _ _ _ c.field_end-end.ensures c.if-end-at.false c.if-s-end.false in
    (r, field-within _ _ _ r)
