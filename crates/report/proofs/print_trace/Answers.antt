-- The lines of the first k bytes are put: each turn puts one more.
use native.Mathlib.Omega.{arith}
use lib.Seq.{take_all}
use Rattle.writer.proofs.WriterLaws.{put-none, put_join, put-length}
use Rattle.report.specs.Lines.{trace_lines}
use Rattle.report.proofs.LineLaws.{trace_lines-next}
use Rattle.report.proofs.print_trace.Goals as goal

pub loop-k-init : goal.loop-k-init
unfolding trace_lines
loop-k-init c = (omega arith, omega arith, put-none _ _)

pub put_line-next-requires : goal.put_line-next-requires
put_line-next-requires c =
    omega (arith, c.loop-k.invariant.1, put-length c.loop-k.invariant.2, c.requires.0, c.loop-k-test.true)

pub loop-k-preserved : goal.loop-k-preserved
loop-k-preserved c = (
  omega (arith, c.loop-k-test.true),
  omega (arith, c.put_line-next.ensures.0, c.loop-k.invariant.1),
  rw (trace_lines-next c.args.clock c.args.trace.now c.loop-k.k c.loop-k-test.true) (put_join c.loop-k.invariant.2 c.put_line-next.ensures.1),
)

pub shape_of-buf : goal.shape_of-buf
shape_of-buf c = put-length c.loop-k.invariant.2

pub returns : goal.returns
returns c = (
  omega (arith, c.loop-k.invariant.0, c.loop-k.invariant.1),
  rw (take_all c.loop-k.k c.args.trace.now c.loop-k-test.false) at c.loop-k.invariant.2,
)
