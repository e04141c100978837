-- `frame::window_within` meets its contract: the sum is the end of the windows passed, and none of them ends behind the place.
use Rattle.frame.specs.Frame.{before, ends_behind}
use Rattle.basis.specs.Search.{nothing, first}
use mathlib.Core.Path.{◌≡◌}
use Prim.Native.Nat.{◌≤◌, ◌*◌}
use Rattle.frame.proofs.window_within.Given as goal

abbrev pub invariant-loop-k : goal.invariant-loop-k
invariant-loop-k l = (l.k ≤ l.k-end) × (l.end ≤ 65535 * l.k) × (l.end ≡ before l.f l.k) × (first l.k (ends_behind l.f l.place) ≡ nothing)
