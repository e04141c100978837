-- The sizes of the threads add up as their bytes join.
use mathlib.Core.Path.{refl}
use native.Mathlib.Omega.{arith}
use lib.ListN.{take}
use lib.Seq.{length-take-le}
use Rattle.numeral.specs.Number.{encode_all}
use Rattle.writer.specs.Format.{thread_numbers}
use Rattle.writer.proofs.WriterLaws.{threads_length, first_all}
use Rattle.writer.proofs.size.threads_size.Goals as goal

pub loop-th-init : goal.loop-th-init
unfolding encode_all thread_numbers
loop-th-init c = (omega arith, refl, omega arith)

pub loop-th-preserved : goal.loop-th-preserved
loop-th-preserved c = omega (arith, threads_length c.args.version (take c.args.n c.args.threads) c.loop-th.th-index)

pub returns : goal.returns
returns c =
    let e = first_all c.args.version c.args.threads c.args.n (omega arith) c.loop-th.th-index c.loop-th.invariant.0 c.loop-th-test.false in
    (rw e at c.loop-th.invariant.1, omega (arith, length-take-le c.args.n c.args.threads (omega arith)))
