use Rattle.frame.specs.Frame.{before}
use mathlib.Core.Path.{◌≡◌}
use Prim.Native.Nat.{◌≤◌, ◌*◌}
use Rattle.block.proofs.window.end_of_window.Given as goal

abbrev pub invariant-loop-j : goal.invariant-loop-j
invariant-loop-j l = (l.j ≤ l.windows) × (l.end ≤ 65535 * l.j) × (l.end ≡ before l.f l.j)
