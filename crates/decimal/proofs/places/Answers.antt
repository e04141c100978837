-- A digit is told off each turn, and the last number is one digit.
use Rattle.decimal.proofs.DecimalLaws.{counting_starts, counting_goes, counting_ends, counting_last}
use Rattle.decimal.proofs.places.Goals as goal

pub loop-k-init : goal.loop-k-init
loop-k-init c = counting_starts _ c.ranges.n.fits

pub returns-then-rest-lt10 : goal.returns-then-rest-lt10
returns-then-rest-lt10 c = counting_ends c.loop-k.invariant c.if-rest-lt10.true

pub loop-k-preserved : goal.loop-k-preserved
loop-k-preserved c = counting_goes c.loop-k.invariant c.if-rest-lt10.false

pub returns : goal.returns
returns c = counting_last c.loop-k.invariant c.loop-k-test.false
