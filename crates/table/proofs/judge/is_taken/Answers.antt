use Rattle.table.specs.Legal.{taken}
use Rattle.basis.proofs.TestLaws.{some-none, some_next, some_hit, some_end}
use borrow.Author.Tests.{eq-eqb, ne_eqb}
use mathlib.Core.Path.{sym}
use borrow.Author.Rules.{rules}
use Rattle.table.proofs.judge.is_taken.Goals as goal

pub loop-j-init : goal.loop-j-init
unfolding taken
loop-j-init c = (search rules, some-none _)

pub returns-then-th-p : goal.returns-then-th-p
unfolding taken
returns-then-th-p c = sym (some_hit _ _ _ (eq-eqb _ _ c.if-th-p.true) c.loop-j-test.true)

pub loop-j-preserved : goal.loop-j-preserved
unfolding taken
loop-j-preserved c = (search rules, some_next _ _ c.loop-j.invariant.1 (ne_eqb _ _ c.if-th-p.false))

pub returns : goal.returns
unfolding taken
returns c = sym (some_end _ _ _ c.loop-j.invariant.1 c.loop-j.invariant.0 c.loop-j-test.false)
