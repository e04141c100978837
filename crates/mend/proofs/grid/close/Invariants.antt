-- The first k domains are gone by way of; by way of k the first a sources are widened, and a to the first b targets.
use Rattle.mend.specs.Grid.{widened, passed, closed}
use Rattle.std.proofs.Common.{◌≡◌}
use Rattle.mend.proofs.grid.close.Given as goal

abbrev pub invariant-loop-k : goal.invariant-loop-k
invariant-loop-k l = l.grid ≡ closed l.domains l.k l.fn.grid

abbrev pub invariant-loop-a : goal.invariant-loop-a
invariant-loop-a l = l.grid ≡ passed l.domains l.k l.a (closed l.domains l.k l.fn.grid)

abbrev pub invariant-loop-b : goal.invariant-loop-b
invariant-loop-b l = l.grid ≡ widened l.k l.a l.b (passed l.domains l.k l.a (closed l.domains l.k l.fn.grid))
