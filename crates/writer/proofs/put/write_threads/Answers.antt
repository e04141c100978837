-- The first threads are put: each turn joins the next to them.
use native.Mathlib.Omega.{arith}
use Rattle.numeral.specs.Number.{encode_all}
use Rattle.writer.specs.Format.{thread_numbers}
use Rattle.writer.proofs.WriterLaws.{put-none, put_join, put_room, threads_next, first_room, first_all}
use Rattle.writer.proofs.put.write_threads.Goals as goal

pub loop-th-init : goal.loop-th-init
unfolding encode_all thread_numbers
loop-th-init c = (omega arith, put-none _ _)

pub write_thread-k-requires : goal.write_thread-k-requires
write_thread-k-requires c =
    put_room c.loop-th.invariant.1 c.requires.1
    (first_room _ _ _ (omega arith) _ c.loop-th-test.true)

pub loop-th-preserved : goal.loop-th-preserved
loop-th-preserved c = (
  omega arith,
  rw (threads_next _ _ _)
      (put_join c.loop-th.invariant.1 c.write_thread-k.ensures),
)

pub returns : goal.returns
returns c =
    rw (first_all c.args.version c.args.threads c.args.n (omega arith) c.loop-th.th-index c.loop-th.invariant.0 c.loop-th-test.false) at c.loop-th.invariant.1
