use borrow.Author.Tests.{eq-eqb, ne_eqb}
use Rattle.basis.specs.Tests.{pick}
use Rattle.block.proofs.thread.heard.Goals as goal

pub returns-then-b-eq2 : goal.returns-then-b-eq2
unfolding pick
returns-then-b-eq2 c = simp (eq-eqb _ _ c.if-b-eq2.true)

pub returns : goal.returns
unfolding pick
returns c = simp (ne_eqb _ _ c.if-b-eq2.false)
