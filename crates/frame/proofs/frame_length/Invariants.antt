use Rattle.frame.specs.Frame.{before}
use mathlib.Core.Path.{◌≡◌}
use Prim.Native.Nat.{◌≤◌, ◌*◌}
use Rattle.frame.proofs.frame_length.Given as goal

abbrev pub invariant-loop-k : goal.invariant-loop-k
invariant-loop-k l = (l.k ≤ l.k-end) × (l.length ≤ 65535 * l.k) × (l.length ≡ before l.f l.k)
