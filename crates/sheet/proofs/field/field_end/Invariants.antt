-- What is left of the field is what was left at its start, less the characters passed.
use Prim.Native.Nat.{◌+◌}
use mathlib.Core.Path.{◌≡◌}
use lib.ListN.{length, drop}
use Rattle.sheet.specs.Field.{field}
use Rattle.sheet.proofs.field.field_end.Given as goal

abbrev pub invariant-loop-end : goal.invariant-loop-end
invariant-loop-end l = l.end + length (field (drop l.end l.s)) ≡ l.at + length (field (drop l.at l.s))
