-- The sizes of the threads add up as their lines join.
use Prim.Native.Nat.{◌*◌, ◌≤◌}
use mathlib.Core.Path.{◌≡◌}
use lib.ListN.{length}
use Rattle.sheet.specs.Text.{thread_lines}
use Rattle.sheet.proofs.size.threads_size.Given as goal

abbrev pub invariant-loop-th : goal.invariant-loop-th
invariant-loop-th l = (l.k ≡ length (thread_lines l.version l.fn.threads l.th-index)) × (l.k ≤ 56 * l.th-index)
