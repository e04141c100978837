-- The first threads are put: each turn joins the next to them.
use Prim.Native.Nat.{◌≤◌}
use lib.ListN.{length}
use Rattle.numeral.specs.Number.{encode_all}
use Rattle.writer.specs.Format.{thread_numbers}
use Rattle.writer.specs.Buffer.{Put}
use Rattle.writer.proofs.put.write_threads.Given as goal

abbrev pub invariant-loop-th : goal.invariant-loop-th
invariant-loop-th l = (l.th-index ≤ length l.th-items) × Put l.initial.buf l.at l.buf l.k (encode_all (thread_numbers l.version l.th-items l.th-index))
