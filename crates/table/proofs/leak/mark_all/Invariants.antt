use Rattle.table.specs.Mark.{protects, mark}
use Rattle.basis.specs.Search.{nothing, listed}
use lib.ListN.{replicate}
use mathlib.Core.List.{◌++◌}
use mathlib.Core.Path.{◌≡◌}
use Prim.Native.Nat.{◌≤◌, ◌-◌}
use Rattle.table.proofs.leak.mark_all.Given as goal

abbrev pub invariant-loop-i : goal.invariant-loop-i
invariant-loop-i l = (l.i ≤ l.i-end) × (l.out ≡ listed l.i (λ k. mark (protects l.t k)) ++ replicate (32 - l.i) (mark nothing))
