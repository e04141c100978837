-- `cleaning::scan` meets its contract: what is left of the trace has the same first cleaning.
use mathlib.Core.Path.{◌≡◌}
use Prim.Native.Nat.{◌-◌}
use lib.ListN.{length, drop}
use Rattle.cleaning.specs.Cleanings.{cleaned}
use Rattle.cleaning.specs.Scan.{first, barred}
use Rattle.cleaning.proofs.scan.Given as goal

abbrev pub invariant-loop-i : goal.invariant-loop-i
invariant-loop-i l = first (cleaned (barred l.n l.w) l.n l.i l.a (drop l.i l.trace)) ≡ first (cleaned (barred l.n l.w) l.n l.from l.last (drop l.from l.trace))
