-- `cleaning::next` meets its contract.
use mathlib.Core.Path.{sym, ◌∙◌, ap}
use native.Mathlib.Omega.{arith}
use Rattle.cleaning.specs.Scan.{following, first}
use Rattle.cleaning.proofs.ScanLaws.{at_end}
use Rattle.cleaning.proofs.next.Goals as goal

pub returns-then-at-trace : goal.returns-then-at-trace
unfolding following
returns-then-at-trace c = c.scan.ensures

pub returns : goal.returns
unfolding following
returns c = sym (ap first (at_end _ _ _ _ _ (omega arith)))
