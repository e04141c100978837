-- By the two tests.
use borrow.Author.Tests.{lt-ltb, le-ltb, eq-eqb, ne_eqb}
use Rattle.basis.specs.Tests.{pick}
use Rattle.bench.specs.Playing.{refusal_behind}
use Rattle.bench.proofs.play.refusal.Goals as goal

pub returns-then-n-whole : goal.returns-then-n-whole
unfolding refusal_behind pick
returns-then-n-whole c = rw (lt-ltb _ _ c.if-n-whole.true)

pub returns-then-rest-eq0 : goal.returns-then-rest-eq0
unfolding refusal_behind pick
returns-then-rest-eq0 c = rw (le-ltb _ _ c.if-n-whole.false, eq-eqb _ _ c.if-rest-eq0.true)

pub returns : goal.returns
unfolding refusal_behind pick
returns c = rw (le-ltb _ _ c.if-n-whole.false, ne_eqb _ _ c.if-rest-eq0.false)
