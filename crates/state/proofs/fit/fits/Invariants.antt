use Rattle.state.specs.State.{progress, place_fits}
use Rattle.basis.specs.Tests.{every}
use Prim.Native.Nat.{◌≤◌, ◌-◌}
use mathlib.Core.Bool.{true}
use mathlib.Core.Path.{◌≡◌}
use Rattle.state.proofs.fit.fits.Given as goal

abbrev pub invariant-loop-i : goal.invariant-loop-i
invariant-loop-i l = (l.i ≤ 32) × (every l.i (λ j. place_fits l.t l.clock j (progress l.s j)) ≡ true)
