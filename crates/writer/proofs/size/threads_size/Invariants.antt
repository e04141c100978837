-- The sizes of the threads add up as their bytes join.
use Prim.Native.Nat.{◌*◌, ◌≤◌}
use mathlib.Core.Path.{◌≡◌}
use lib.ListN.{length}
use Rattle.table.specs.Threads.{field_count}
use Rattle.numeral.specs.Number.{encode_all}
use Rattle.writer.specs.Format.{thread_numbers}
use Rattle.writer.proofs.size.threads_size.Given as goal

abbrev pub invariant-loop-th : goal.invariant-loop-th
invariant-loop-th l = (l.th-index ≤ length l.th-items) × (l.k ≡ length (encode_all (thread_numbers l.version l.th-items l.th-index))) × (l.k ≤ 3 * field_count * l.th-index)
