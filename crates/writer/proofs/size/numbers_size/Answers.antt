-- The sizes of the numbers add up as their bytes join.
use mathlib.Core.Path.{refl}
use native.Mathlib.Omega.{arith}
use lib.Seq.{take_all}
use Rattle.numeral.specs.Number.{encode_all}
use Rattle.writer.proofs.WriterLaws.{numbers-length}
use Rattle.writer.proofs.size.numbers_size.Goals as goal

pub loop-v-init : goal.loop-v-init
unfolding encode_all
loop-v-init c = (omega arith, refl, omega arith)

pub loop-v-preserved : goal.loop-v-preserved
loop-v-preserved c = omega (arith, numbers-length c.args.vs.now c.loop-v.v-index c.loop-v-test.true)

pub returns : goal.returns
returns c = (rw (take_all c.loop-v.v-index c.args.vs.now c.loop-v-test.false) at c.loop-v.invariant.1, omega arith)
