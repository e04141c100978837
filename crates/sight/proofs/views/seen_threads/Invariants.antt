use Rattle.sight.specs.Shown.{seen_progress}
use Rattle.state.specs.State.{no_progress}
use Rattle.basis.specs.Search.{listed}
use lib.ListN.{replicate}
use mathlib.Core.List.{◌++◌}
use mathlib.Core.Path.{◌≡◌}
use Prim.Native.Nat.{◌≤◌, ◌-◌}
use Rattle.sight.proofs.views.seen_threads.Given as goal

abbrev pub invariant-loop-i : goal.invariant-loop-i
invariant-loop-i l = (l.i ≤ 32) × (l.out ≡ listed l.i (seen_progress l.t l.d l.s) ++ replicate (32 - l.i) no_progress)
