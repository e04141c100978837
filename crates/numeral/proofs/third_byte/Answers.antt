use Rattle.basis.proofs.ListLaws.{drop-some}
use Rattle.basis.specs.Tests.{pick}
use Rattle.numeral.specs.Number.{third}
use lib.ListN.{drop_of_length-le}
use borrow.Author.Tests.{le-leb, lt-leb, lt-ltb, le-ltb, eq-eqb, ne_eqb}
use Rattle.numeral.proofs.third_byte.Goals as goal

pub returns-then-s-at : goal.returns-then-s-at
unfolding third pick
returns-then-s-at c = rw (drop_of_length-le _ c.if-s-at.true)

pub returns-then-last-ge128 : goal.returns-then-last-ge128
unfolding third pick
returns-then-last-ge128 c = rw (drop-some _ _ _ c.from-last.ensures c.if-s-at.false, le-leb _ _ c.if-last-ge128.true)

pub returns-then-last-eq0 : goal.returns-then-last-eq0
unfolding third pick
returns-then-last-eq0 c = rw (drop-some _ _ _ c.from-last.ensures c.if-s-at.false, lt-leb _ _ c.if-last-ge128.false, eq-eqb _ _ c.if-last-eq0.true)

pub returns-then-w-le65535 : goal.returns-then-w-le65535
unfolding third pick
returns-then-w-le65535 c = rw (drop-some _ _ _ c.from-last.ensures c.if-s-at.false, lt-leb _ _ c.if-last-ge128.false, ne_eqb _ _ c.if-last-eq0.false, le-ltb _ _ c.if-w-le65535.true)

pub returns : goal.returns
unfolding third pick
returns c = rw (drop-some _ _ _ c.from-last.ensures c.if-s-at.false, lt-leb _ _ c.if-last-ge128.false, ne_eqb _ _ c.if-last-eq0.false, lt-ltb _ _ c.if-w-le65535.false)
