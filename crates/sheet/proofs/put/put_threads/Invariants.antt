-- The threads so far are put: each turn joins the next to them.
use Rattle.writer.specs.Buffer.{Put}
use Rattle.sheet.specs.Text.{thread_lines}
use Rattle.sheet.proofs.put.put_threads.Given as goal

abbrev pub invariant-loop-th : goal.invariant-loop-th
invariant-loop-th l = Put l.initial.buf l.at l.buf l.k (thread_lines l.version l.fn.threads l.th-index)
