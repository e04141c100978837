use Prim.Native.Nat.{◌≤◌}
use Rattle.reader.specs.Reader.{standing, rows_from}
use mathlib.Core.Path.{◌≡◌}
use Rattle.reader.proofs.parts.read_rows.Given as goal

abbrev pub invariant-loop-i : goal.invariant-loop-i
invariant-loop-i l = (l.i ≤ l.domains) × (record { cursor = standing l.k; rows = l.rows } ≡ rows_from l.s l.domains (standing l.initial.k) l.i)
