-- Each turn cuts one field more.
use mathlib.Core.Path.{◌≡◌, refl}
use native.Mathlib.Omega.{arith}
use Rattle.basis.specs.Tests.{pick}
use Rattle.sheet.specs.Scan.{scanned}
use Rattle.sheet.proofs.CodeCuts.{scan-next}
use Rattle.sheet.proofs.scan.scan.Goals as goal

pub loop-init : goal.loop-init
unfolding scanned pick
loop-init c = refl

pub loop-preserved : goal.loop-preserved
loop-preserved c = scan-next _ _ _ c.turn-c.ensures c.loop.invariant

pub returns : goal.returns
returns c = let e : c.loop.counter ≡ c.args.n = omega arith in rw e at c.loop.invariant
