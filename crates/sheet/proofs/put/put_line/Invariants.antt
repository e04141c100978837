-- The first i fields are put: each turn joins the next to them.
use Rattle.writer.specs.Buffer.{Put}
use Rattle.sheet.specs.Text.{line_part}
use Rattle.sheet.proofs.put.put_line.Given as goal

abbrev pub invariant-loop-i : goal.invariant-loop-i
invariant-loop-i l = Put l.initial.buf l.at l.buf l.k (line_part l.vs l.i)
