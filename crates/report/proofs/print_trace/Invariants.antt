-- The lines of the first k bytes are put: each turn puts one more.
use Prim.Native.Nat.{◌+◌, ◌*◌, ◌≤◌}
use lib.ListN.{take}
use Rattle.writer.specs.Buffer.{Put}
use Rattle.report.specs.Lines.{trace_lines}
use Rattle.report.proofs.print_trace.Given as goal

abbrev pub invariant-loop-k : goal.invariant-loop-k
invariant-loop-k l = (l.k ≤ l.k-end) × (l.next ≤ l.at + l.k * 16) × Put l.initial.buf l.at l.buf l.next (trace_lines l.clock (take l.k l.trace))
