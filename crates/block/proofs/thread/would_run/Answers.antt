use borrow.Author.Tests.{eq-eqb, ne_eqb}
use Rattle.basis.specs.Tests.{pick}
use Rattle.block.specs.Play.{would_run}
use Rattle.block.proofs.thread.would_run.Goals as goal

pub returns-then-finished : goal.returns-then-finished
unfolding pick would_run
returns-then-finished c = rw c.if-finished.true

pub returns-then-execution-eq0 : goal.returns-then-execution-eq0
unfolding pick would_run
returns-then-execution-eq0 c = rw (c.if-finished.false, eq-eqb _ _ c.if-execution-eq0.true)

pub returns : goal.returns
unfolding pick would_run
returns c = rw (c.if-finished.false, ne_eqb _ _ c.if-execution-eq0.false)
