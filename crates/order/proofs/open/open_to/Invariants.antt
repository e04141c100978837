-- `order::open_to` meets its contract: those that were picked, and behind them the open threads of those that are left, are all that are open.
use mathlib.Core.List.{◌++◌}
use mathlib.Core.Path.{◌≡◌}
use Prim.Native.Nat.{◌≤◌}
use lib.Seq.{slice}
use Rattle.order.specs.Order.{ranked, Below}
use Rattle.order.specs.Open.{open_to}
use Rattle.order.proofs.open.open_to.Given as goal

abbrev pub invariant-loop-k : goal.invariant-loop-k
invariant-loop-k l = (l.k ≤ l.count)
    × (l.next.count ≤ l.k)
    × Below l.t.count (slice l.k l.count l.o.at)
    × (ranked l.next ++ open_to l.t l.d (slice l.k l.count l.o.at) ≡ open_to l.t l.d (slice 0 l.count l.o.at))
