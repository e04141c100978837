use Rattle.table.specs.Legal.{row_legal}
use Rattle.basis.specs.Tests.{every}
use mathlib.Core.Bool.{true}
use mathlib.Core.Path.{◌≡◌}
use Prim.Native.Nat.{◌≤◌}
use Rattle.table.proofs.judge.rows_are_legal.Given as goal

abbrev pub invariant-loop-i : goal.invariant-loop-i
invariant-loop-i l = (l.i ≤ 16) × (every l.i (row_legal l.rows l.domains) ≡ true)
