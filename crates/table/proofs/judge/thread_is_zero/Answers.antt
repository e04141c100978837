use Rattle.table.specs.Threads.{field_count}
use Rattle.table.specs.Legal.{field_zero, thread_zero}
use Rattle.basis.proofs.TestLaws.{every-none, every-next, every_fails, every_end}
use borrow.Author.Tests.{eq-eqb, ne_eqb}
use mathlib.Core.Path.{sym}
use borrow.Author.Rules.{rules}
use Rattle.table.proofs.judge.thread_is_zero.Goals as goal

pub loop-k-init : goal.loop-k-init
loop-k-init c = (search rules, every-none _)

pub returns-then-vs-k-ne0 : goal.returns-then-vs-k-ne0
unfolding thread_zero field_zero
returns-then-vs-k-ne0 c = rw (← c.fields-vs.ensures) (sym (every_fails (field_zero c.fields-vs.result) _ field_count (ne_eqb _ _ c.if-vs-k-ne0.true) c.loop-k-test.true))

pub loop-k-preserved : goal.loop-k-preserved
unfolding field_zero
loop-k-preserved c = (search rules, every-next _ _ c.loop-k.invariant.1 (eq-eqb _ _ c.if-vs-k-ne0.false))

pub returns : goal.returns
unfolding thread_zero
returns c = rw (← c.fields-vs.ensures) (sym (every_end _ _ _ c.loop-k.invariant.1 c.loop-k.invariant.0 c.loop-k-test.false))
