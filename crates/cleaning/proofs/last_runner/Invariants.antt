-- Who last ran in what is left is who last ran in the whole.
use mathlib.Core.Path.{◌≡◌}
use Prim.Native.Nat.{◌-◌}
use lib.ListN.{length, drop}
use Rattle.cleaning.specs.Cleanings.{nobody, last_run}
use Rattle.cleaning.proofs.last_runner.Given as goal

abbrev pub invariant-loop-i : goal.invariant-loop-i
invariant-loop-i l = last_run l.t l.a (drop l.i l.trace) ≡ last_run l.t nobody l.trace
