-- The digits so far have the value v, which is small.
use Prim.Native.Nat.{◌≤◌}
use mathlib.Core.Path.{◌≡◌}
use mathlib.Core.Bool.{true}
use lib.ListN.{drop}
use Rattle.sheet.specs.Field.{all_digits, value_from}
use Rattle.sheet.proofs.field.value_of.Given as goal

abbrev pub invariant-loop-b : goal.invariant-loop-b
invariant-loop-b l = (l.v ≤ 65535) × (all_digits (drop l.b-index l.f) ≡ true) × (value_from l.v (drop l.b-index l.f) ≡ value_from 0 l.f)
