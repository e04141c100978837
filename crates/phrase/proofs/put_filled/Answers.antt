-- The characters before i are filled in, with j numbers used up: each turn fills in one more.
use native.Mathlib.Omega.{arith}
use lib.ListN.{get_or}
use Rattle.writer.proofs.WriterLaws.{put-length}
use Rattle.phrase.proofs.PhraseLaws.{used_small, filling_starts, filling_room, filling_goes, filling_ends}
use Rattle.phrase.proofs.put_filled.Goals as goal

pub loop-b-init : goal.loop-b-init
loop-b-init c = (omega arith, omega arith, filling_starts _ _ _ _)

pub put_piece-k-requires : goal.put_piece-k-requires
put_piece-k-requires c =
    filling_room _ _ c.loop-b.invariant.2 c.requires c.loop-b-test.true c.number_at-n.ensures

pub loop-b-preserved : goal.loop-b-preserved
loop-b-preserved c = (
  omega (arith, c.loop-b-test.true),
  omega (arith, c.loop-b.invariant.1, c.used_up-j.ensures, used_small (get_or c.args.template.now c.loop-b.b-index 0)),
  filling_goes _ _ c.loop-b.invariant.2 c.loop-b-test.true c.number_at-n.ensures c.used_up-j.ensures c.put_piece-k.ensures,
)

pub shape_of-buf : goal.shape_of-buf
shape_of-buf c = put-length c.loop-b.invariant.2.put

pub returns : goal.returns
returns c = filling_ends _ _ c.loop-b.invariant.2 c.loop-b-test.false
