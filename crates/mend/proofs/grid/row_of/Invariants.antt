-- The columns from b on are read, the highest first.
use Rattle.mend.specs.Rows.{row_from}
use Rattle.std.proofs.Common.{◌≡◌, ◌-◌}
use Rattle.mend.proofs.grid.row_of.Given as goal

abbrev pub invariant-loop-b : goal.invariant-loop-b
invariant-loop-b l = l.v ≡ row_from l.grid l.a (16 - l.b)
