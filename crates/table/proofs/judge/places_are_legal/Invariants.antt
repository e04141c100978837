use Rattle.table.specs.Legal.{place_legal}
use Rattle.table.proofs.TakenLaws.{Kept}
use Rattle.basis.specs.Tests.{every}
use mathlib.Core.Bool.{true}
use mathlib.Core.Path.{◌≡◌}
use Prim.Native.Nat.{◌≤◌}
use Rattle.table.proofs.judge.places_are_legal.Given as goal

abbrev pub invariant-loop-i : goal.invariant-loop-i
invariant-loop-i l = (l.i ≤ 32) × (every l.i (place_legal l.t) ≡ true) × Kept l.t.threads l.i l.taken
