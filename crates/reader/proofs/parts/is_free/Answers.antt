use Rattle.reader.specs.Reader.{free}
use borrow.Author.Tests.{eq-eqb, ne_eqb}
use Rattle.reader.proofs.parts.is_free.Goals as goal

pub returns-then-k-ne1 : goal.returns-then-k-ne1
unfolding free
returns-then-k-ne1 c = rw (ne_eqb _ _ c.if-k-ne1.true)

pub returns : goal.returns
unfolding free
returns c = rw (eq-eqb _ _ c.if-k-ne1.false, c.is_taken.ensures)
