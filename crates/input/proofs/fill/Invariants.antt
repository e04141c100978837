-- The count stays within the buffer.
use Rattle.std.proofs.Common.{◌≤◌, length}
use Rattle.input.proofs.fill.Given as goal

abbrev pub invariant-loop : goal.invariant-loop
invariant-loop g l = l.f.count ≤ length l.buf
