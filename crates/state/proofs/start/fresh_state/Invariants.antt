use Rattle.state.specs.State.{no_progress, ready}
use Rattle.basis.specs.Search.{listed}
use lib.ListN.{replicate}
use mathlib.Core.List.{◌++◌}
use mathlib.Core.Path.{◌≡◌}
use Prim.Native.Nat.{◌≤◌, ◌-◌}
use Rattle.state.proofs.start.fresh_state.Given as goal

abbrev pub invariant-loop-i : goal.invariant-loop-i
invariant-loop-i l = (l.i ≤ l.i-end) × (l.threads ≡ listed l.i (ready l.t) ++ replicate (32 - l.i) no_progress)
