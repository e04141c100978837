use Rattle.numeral.specs.Number.{second}
use Rattle.basis.specs.Tests.{pick}
use Rattle.basis.proofs.ListLaws.{drop-some}
use lib.ListN.{drop_of_length-le}
use borrow.Author.Tests.{lt-ltb, le-ltb, eq-eqb, ne_eqb}
use Rattle.numeral.proofs.second_byte.Goals as goal

pub returns-then-s-at : goal.returns-then-s-at
unfolding second pick
returns-then-s-at c = rw (drop_of_length-le _ c.if-s-at.true)

pub returns-then-b-eq0 : goal.returns-then-b-eq0
unfolding second pick
returns-then-b-eq0 c = rw (drop-some _ _ _ c.from-b.ensures c.if-s-at.false, eq-eqb _ _ c.if-b-eq0.true)

pub returns-then-b-lt128 : goal.returns-then-b-lt128
unfolding second pick
returns-then-b-lt128 c = rw (drop-some _ _ _ c.from-b.ensures c.if-s-at.false, ne_eqb _ _ c.if-b-eq0.false, lt-ltb _ _ c.if-b-lt128.true)

pub returns : goal.returns
unfolding second pick
returns c = rw (drop-some _ _ _ c.from-b.ensures c.if-s-at.false, ne_eqb _ _ c.if-b-eq0.false, le-ltb _ _ c.if-b-lt128.false) c.third_byte.ensures
