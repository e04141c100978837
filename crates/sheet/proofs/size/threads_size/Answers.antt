-- Each turn adds the size of one line.
use Prim.Native.Nat.{◌<◌}
use mathlib.Core.Path.{◌≡◌, ap}
use native.Mathlib.Omega.{arith}
use lib.ListN.{length, length-take}
use lib.Seq.{get_or-take}
use borrow.Author.Rules.{rules}
use Rattle.table.specs.Threads.{none}
use Rattle.table.specs.declared.Thread.{Thread}
use Rattle.writer.specs.Format.{written_fields}
use Rattle.sheet.specs.Text.{line}
use Rattle.sheet.proofs.LineLaws.{thread_lines-length}
use Rattle.sheet.proofs.size.threads_size.Goals as goal

pub loop-th-preserved : goal.loop-th-preserved
loop-th-preserved c =
    let h : c.loop-th.th-index < c.args.n = omega (arith, length-take c.args.n c.args.threads) in
    let e = ap (λ (th : Thread). length (line (written_fields c.args.version th))) (get_or-take c.args.n c.args.threads c.loop-th.th-index none h) in (
      omega (arith, e, thread_lines-length c.args.version c.args.threads c.loop-th.th-index, c.loop-th.invariant.0, c.thread_size-k.ensures.0),
      omega (arith, c.loop-th.invariant.1, c.thread_size-k.ensures.1),
    )

pub returns : goal.returns
returns c =
    let l : length c.args.threads ≡ 32 = search rules in
    let e : c.loop-th.th-index ≡ c.args.n = omega (arith, length-take c.args.n c.args.threads, c.requires) in
    (rw e at c.loop-th.invariant.0, omega (arith, c.loop-th.invariant.1, c.requires))
