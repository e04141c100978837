use Rattle.basis.specs.Tests.{pick}
use borrow.Author.Tests.{eq-eqb, ne_eqb}
use Rattle.block.specs.Play.{event_bit}
use borrow.Author.Rules.{rules}
use Rattle.block.proofs.judge.event_bit.Goals as goal

pub returns-then-th-eq1 : goal.returns-then-th-eq1
unfolding pick event_bit
returns-then-th-eq1 c = (rw (eq-eqb _ _ c.if-th-eq1.true), search rules)

pub returns : goal.returns
unfolding pick event_bit
returns c = (rw (ne_eqb _ _ c.if-th-eq1.false), search rules)
