-- The first numbers are put: each turn joins the next to them.
use native.Mathlib.Omega.{arith}
use lib.Seq.{take_all}
use Rattle.numeral.specs.Number.{encode_all}
use Rattle.writer.proofs.WriterLaws.{put-none, put_join, put_room, numbers-next, numbers_room}
use Rattle.writer.proofs.put.write_numbers.Goals as goal

pub loop-v-init : goal.loop-v-init
unfolding encode_all
loop-v-init c = (omega arith, put-none _ _)

pub write_number-k-requires : goal.write_number-k-requires
write_number-k-requires c =
    put_room c.loop-v.invariant.1 c.requires
    (numbers_room _ _ c.loop-v-test.true)

pub loop-v-preserved : goal.loop-v-preserved
loop-v-preserved c = (
  omega arith,
  rw (numbers-next _ _ c.loop-v-test.true)
      (put_join c.loop-v.invariant.1 c.write_number-k.ensures),
)

pub returns : goal.returns
returns c =
    rw (take_all c.loop-v.v-index c.args.vs.now c.loop-v-test.false) at c.loop-v.invariant.1
