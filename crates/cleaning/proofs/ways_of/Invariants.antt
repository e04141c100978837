-- `cleaning::ways_of` meets its contract: the numbers of the threads before this one are stored.
use Prim.Native.Nat.{◌≤◌, ◌-◌}
use mathlib.Core.Path.{◌≡◌}
use lib.ListN.{length}
use Rattle.cleaning.proofs.WayLaws.{Begun}
use Rattle.cleaning.proofs.ways_of.Given as goal

abbrev pub invariant-loop-i : goal.invariant-loop-i
invariant-loop-i l = (l.i ≤ 32) × (length l.w ≡ 64) × Begun l.t l.w l.i
