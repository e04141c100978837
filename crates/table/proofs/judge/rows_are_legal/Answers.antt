use Rattle.basis.proofs.TestLaws.{every-none, every-next, every_fails, every_end}
use mathlib.Core.Path.{sym, ◌∙◌}
use borrow.Author.Rules.{rules}
use Rattle.table.proofs.judge.rows_are_legal.Goals as goal

pub loop-i-init : goal.loop-i-init
loop-i-init c = (search rules, every-none _)

pub returns-then-not-row_is_legal : goal.returns-then-not-row_is_legal
returns-then-not-row_is_legal c = sym (every_fails _ _ _ (sym c.row_is_legal.ensures ∙ c.if-not-row_is_legal.true) c.loop-i-test.true)

pub loop-i-preserved : goal.loop-i-preserved
loop-i-preserved c = (search rules, every-next _ _ c.loop-i.invariant.1 (sym c.row_is_legal.ensures ∙ c.if-not-row_is_legal.false))

pub returns : goal.returns
returns c = sym (every_end _ _ _ c.loop-i.invariant.1 c.loop-i.invariant.0 c.loop-i-test.false)
