use Rattle.reader.proofs.ReaderLaws.{threads_ends, threads_next, threads_end, fields_read}
use Rattle.reader.specs.Reader.{threads_from}
use Rattle.table.proofs.RangeLaws.{fields_in-most}
use native.Mathlib.Omega.{arith}
use mathlib.Core.Path.{◌≡◌}
use Rattle.reader.proofs.parts.read_threads.Goals as goal

pub loop-i-init : goal.loop-i-init
unfolding threads_from
loop-i-init c = (omega arith, rw c.no_thread-z.ensures)

pub returns-in_err-next : goal.returns-in_err-next
returns-in_err-next c =
    threads_ends _ _ _ c.from_residual.ensures.1
    (threads_end _ _ _ _ _ _ _ _ c.loop-i.invariant.1 c.loop-i-test.true c.in_err-next.ensures)

pub make_thread-requires : goal.make_thread-requires
make_thread-requires c = fields_read _ _ _ _ _ _ _ _ c.in_ok-next.ensures (fields_in-most _) c.ranges.domains.fits

pub loop-i-preserved : goal.loop-i-preserved
loop-i-preserved c = (omega arith, rw c.make_thread.ensures (threads_next _ _ _ _ _ _ _ _ c.loop-i.invariant.1 c.in_ok-next.ensures))

pub returns : goal.returns
returns c = let e : c.loop-i.i ≡ c.args.count = omega arith in rw e at c.loop-i.invariant.1
