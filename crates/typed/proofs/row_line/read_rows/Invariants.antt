-- What is still to be read ends as the whole does.
use mathlib.Core.Path.{◌≡◌}
use lib.ListN.{drop}
use Rattle.typed.specs.RowLine.{rows_of, rows_read}
use Rattle.typed.proofs.row_line.read_rows.Given as goal

abbrev pub invariant-loop-b : goal.invariant-loop-b
invariant-loop-b l = rows_read (rows_of l.r) (drop l.b-index l.part) ≡ rows_read (rows_of l.initial.r) l.part
