use Rattle.table.specs.Threads.{thread}
use Rattle.state.specs.State.{each_thread}
use Rattle.state.specs.Methods.{aged}
use mathlib.Core.Path.{◌≡◌}
use Prim.Native.Nat.{◌≤◌, ◌-◌}
use Rattle.state.proofs.State.tick.Given as goal

abbrev pub invariant-loop-i : goal.invariant-loop-i
invariant-loop-i l = (l.i ≤ l.i-end) × (l.next ≡ each_thread (λ k. aged (thread l.t k)) l.i l.initial.next)
