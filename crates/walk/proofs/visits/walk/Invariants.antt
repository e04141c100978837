-- `scheduler::walk::walk` meets its contract: the walk over the ranks that are left, from the state at hand, is the whole walk.
use mathlib.Core.Path.{◌≡◌}
use Prim.Native.Nat.{◌≤◌, ◌-◌}
use lib.ListN.{length}
use lib.Seq.{slice}
use Rattle.walk.specs.Walk.{walk}
use Rattle.state.specs.Given.{Counted}
use Rattle.order.specs.Order.{Below}
use Rattle.walk.proofs.visits.walk.Given as goal

abbrev pub invariant-loop-k : goal.invariant-loop-k
invariant-loop-k l = (l.k ≤ l.k-end)
    × Below (length l.bytes) (slice l.k l.k-end l.o.at)
    × Counted 999999999 l.next
    × (walk l.marks l.bytes (slice l.k l.k-end l.o.at) l.next ≡ walk l.marks l.bytes (slice 0 l.k-end l.o.at) l.initial.next)
