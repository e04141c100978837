-- The bounds meet their contract. The loop's invariant: every thread before i has a bound, and these and the counts stand in the arrays.
use Prim.Native.Nat.{◌-◌, ◌≤◌}
use mathlib.Core.Path.{◌≡◌}
use mathlib.Core.List.{◌++◌}
use lib.ListN.{replicate}
use Rattle.basis.specs.Search.{nothing, first, listed}
use Rattle.admission.specs.Admit.{without_bound, bound_number}
use Rattle.admission.specs.Tried.{tried as the-tried}
use Rattle.admission.proofs.bounds.admit_legal.Given as goal

abbrev pub invariant-loop-i : goal.invariant-loop-i
invariant-loop-i l = (l.i ≤ l.i-end) × (first l.i (without_bound l.t) ≡ nothing) × (l.bounds ≡ listed l.i (bound_number l.t) ++ replicate (32 - l.i) 0)
    × (l.tried ≡ listed l.i (the-tried l.t) ++ replicate (32 - l.i) 0)
