-- The sizes of the fields add up as the line grows.
use Prim.Native.Nat.{◌*◌, ◌≤◌}
use mathlib.Core.Path.{◌≡◌}
use lib.ListN.{length}
use Rattle.sheet.specs.Text.{line_part}
use Rattle.sheet.proofs.size.line_size.Given as goal

abbrev pub invariant-loop-i : goal.invariant-loop-i
invariant-loop-i l = (l.k ≡ length (line_part l.vs l.i)) × (l.k ≤ 7 * l.i)
