use borrow.Author.Tests.{lt-ltb, le-ltb, eq-eqb, ne_eqb}
use Rattle.basis.specs.Tests.{pick}
use Rattle.block.specs.Play.{since_after}
use Rattle.block.proofs.thread.since_after.Goals as goal

pub returns-then-th-ne1 : goal.returns-then-th-ne1
unfolding pick since_after
returns-then-th-ne1 c = simp (ne_eqb _ _ c.if-th-ne1.true)

pub returns-then-since-th : goal.returns-then-since-th
unfolding pick since_after
returns-then-since-th c = simp (eq-eqb _ _ c.if-th-ne1.false, lt-ltb _ _ c.if-since-th.true)

pub returns : goal.returns
unfolding pick since_after
returns c = simp (eq-eqb _ _ c.if-th-ne1.false, le-ltb _ _ c.if-since-th.false)
