-- The threads so far are put: each turn joins the next to them.
use Prim.Native.Nat.{◌<◌}
use mathlib.Core.Path.{◌≡◌}
use native.Mathlib.Omega.{arith}
use lib.ListN.{length, length-take}
use lib.Seq.{get_or-take}
use borrow.Author.Rules.{rules}
use Rattle.table.specs.Threads.{none}
use Rattle.writer.proofs.WriterLaws.{put-none, put_join, put_room, put-length}
use Rattle.sheet.specs.Text.{thread_lines}
use Rattle.sheet.proofs.LineLaws.{thread_lines-next, thread_lines_room}
use Rattle.sheet.proofs.put.put_threads.Goals as goal

pub loop-th-init : goal.loop-th-init
unfolding thread_lines
loop-th-init c = put-none _ _

pub put_thread-k-requires : goal.put_thread-k-requires
put_thread-k-requires c =
    let h : c.loop-th.th-index < c.args.n = omega (arith, length-take c.args.n c.args.threads) in
    rw (get_or-take c.args.n c.args.threads c.loop-th.th-index none h) (put_room c.loop-th.invariant c.requires.1 (thread_lines_room _ _ _ _ h))

pub loop-th-preserved : goal.loop-th-preserved
loop-th-preserved c =
    let h : c.loop-th.th-index < c.args.n = omega (arith, length-take c.args.n c.args.threads) in
    rw (thread_lines-next c.args.version c.args.threads c.loop-th.th-index, ← get_or-take c.args.n c.args.threads c.loop-th.th-index none h)
    (put_join c.loop-th.invariant c.put_thread-k.ensures)

pub shape_of-buf : goal.shape_of-buf
shape_of-buf c = put-length c.loop-th.invariant

pub returns : goal.returns
returns c =
    let l : length c.args.threads ≡ 32 = search rules in
    let e : c.loop-th.th-index ≡ c.args.n = omega (arith, length-take c.args.n c.args.threads, c.requires.0) in
    rw e at c.loop-th.invariant
