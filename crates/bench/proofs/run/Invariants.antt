-- The buffers keep their length, the state fits on, and the rest stays less than a step.
use Prim.Native.Nat.{◌<◌}
use mathlib.Core.Path.{◌≡◌}
use lib.ListN.{length}
use Rattle.state.specs.State.{Fits}
use Rattle.bench.proofs.run.Given as goal

abbrev pub invariant-loop : goal.invariant-loop
invariant-loop g l = (length l.steps ≡ 128000) × (length l.out ≡ 65536) × Fits l.t l.s × (l.have < l.t.count)
