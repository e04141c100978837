-- The search meets its contract. The loop's invariant: what was tried and what is left from x on are together the count, each length tried
-- was a step further at least, no length from the budget up to x holds its demand, and deadline and period are in their ranges.
use Prim.Native.Nat.{suc, ◌+◌, ◌-◌, ◌≤◌}
use mathlib.Core.Path.{◌≡◌}
use lib.ListN.{length}
use Rattle.table.specs.Threads.{thread}
use Rattle.admission.specs.Tried.{lengths_from, tried as the-tried}
use Rattle.admission.proofs.BoundLaws.{Short}
use Rattle.admission.proofs.bounds.find_bound.Given as goal

abbrev pub invariant-loop-x : goal.invariant-loop-x
invariant-loop-x l = (l.tried + length (lengths_from l.t l.i ((thread l.t l.i).deadline - (thread l.t l.i).budget + 1 - l.tried) l.x) ≡ the-tried l.t l.i)
    × ((thread l.t l.i).budget + l.tried ≤ l.x) × Short l.t l.i l.x × ((thread l.t l.i).deadline ≤ (thread l.t l.i).period) × ((thread l.t l.i).period ≤ 60000)

abbrev pub decreases-loop-x : goal.decreases-loop-x
decreases-loop-x l = suc l.last - l.x
