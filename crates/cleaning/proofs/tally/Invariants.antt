-- `cleaning::tally` meets its contract: what is counted and what is left are all, and the answer for the rest of the bytes is the answer for all of them.
use mathlib.Core.Path.{◌≡◌}
use Prim.Native.Nat.{◌+◌, ◌-◌, ◌≤◌}
use lib.ListN.{length, drop}
use Rattle.cleaning.specs.Cleanings.{cleaned, all_known}
use Rattle.cleaning.specs.Scan.{barred, scanned}
use Rattle.cleaning.proofs.tally.Given as goal

abbrev pub invariant-loop-i : goal.invariant-loop-i
invariant-loop-i l = (l.m ≤ l.i) × (l.m + length (cleaned (barred l.n l.w) l.n l.i l.a (drop l.i l.trace)) ≡ length (scanned l.n l.w l.trace)) × (all_known l.n (drop l.i l.trace) ≡ all_known l.n l.trace)
