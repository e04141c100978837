use Rattle.numeral.specs.Number.{number, number_at}
use Rattle.numeral.proofs.NumberLaws.{held_bytes}
use Rattle.basis.specs.Tests.{pick}
use Rattle.basis.proofs.ListLaws.{drop-some}
use lib.ListN.{drop_of_length-le}
use borrow.Author.Tests.{lt-ltb, le-ltb}
use Rattle.numeral.proofs.read_number.Goals as goal

pub returns-then-s-at : goal.returns-then-s-at
unfolding number_at number pick
returns-then-s-at c = (rw (drop_of_length-le _ c.if-s-at.true), held_bytes c.shared_slice_known-1.given)

pub returns-then-b-lt128 : goal.returns-then-b-lt128
unfolding number_at number pick
returns-then-b-lt128 c = (
  rw (drop-some _ _ _ c.from-b.ensures c.if-s-at.false, lt-ltb _ _ c.if-b-lt128.true),
  held_bytes c.shared_slice_known-2-1.given,
)

pub returns : goal.returns
unfolding number_at number pick
returns c = (
  rw (drop-some _ _ _ c.from-b.ensures c.if-s-at.false, le-ltb _ _ c.if-b-lt128.false) c.second_byte.ensures,
  held_bytes c.shared_slice_known-2-1.given,
)
