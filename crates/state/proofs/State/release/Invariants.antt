use Rattle.table.specs.Threads.{thread}
use Rattle.state.specs.State.{each_thread}
use Rattle.state.specs.Release.{has_event, released}
use mathlib.Core.Path.{◌≡◌}
use Prim.Native.Nat.{◌≤◌, ◌-◌}
use Rattle.state.proofs.State.release.Given as goal

abbrev pub invariant-loop-i : goal.invariant-loop-i
invariant-loop-i l = (l.i ≤ l.i-end) × (l.next ≡ each_thread (λ k. released (thread l.t k) l.initial.next.clock (has_event l.mask k)) l.i l.initial.next)
