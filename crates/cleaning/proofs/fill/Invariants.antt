-- What is left of the scan after k cleanings begins with the one at hand, and the first k stand in the list.
use Rattle.std.proofs.Common.{◌≡◌, ◌≤◌, ◌-◌, drop}
use Rattle.cleaning.specs.Scan.{first, scanned, pasted}
use Rattle.cleaning.proofs.fill.Given as goal

abbrev pub invariant-loop-k : goal.invariant-loop-k
invariant-loop-k l = record {
  within : l.k ≤ l.m;
  at_hand : l.found ≡ first (drop l.k (scanned l.n l.w l.trace));
  written : l.list ≡ pasted l.k (scanned l.n l.w l.trace) l.initial.list;
}
