-- The threads from i on are in the mask.
use Prim.Native.Nat.{◌-◌}
use mathlib.Core.Path.{◌≡◌}
use Rattle.block.specs.Play.{events}
use Rattle.block.proofs.judge.events_of.Given as goal

abbrev pub invariant-loop-i : goal.invariant-loop-i
invariant-loop-i l = l.all ≡ events l.t l.i (l.t.count - l.i)
