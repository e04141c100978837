-- The digits and what is due behind them: a number of 16 bits has at most five digits.
use Prim.Native.Nat.{◌≤◌}
use native.Mathlib.Omega.{arith}
use lib.ListN.{length-append}
use Rattle.decimal.specs.Decimal.{decimal}
use Rattle.decimal.proofs.DecimalLaws.{decimal-short}
use Rattle.sheet.specs.Text.{ending}
use Rattle.sheet.proofs.size.field_size.Goals as goal
use Rattle.sheet.proofs.size.field_size.Goals.{After-places-digits}

few : (c : After-places-digits) → c.places-digits.result ≤ 5
few c = omega (arith, c.places-digits.ensures, decimal-short 5 c.args.v (omega arith) (omega (arith, c.ranges.v.fits)))

pub overflow_add-result : goal.overflow_add-result
overflow_add-result c = omega (arith, few (goal.at.overflow_add-result c).After-places-digits, c.ending_size-end.ensures.1)

pub returns : goal.returns
returns c =
    omega (arith, few (goal.at.returns c).After-places-digits, c.places-digits.ensures, c.ending_size-end.ensures, length-append (decimal c.args.v) (ending c.args.last))
