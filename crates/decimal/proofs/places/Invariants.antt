-- A digit is told off each turn, and the last number is one digit.
use Rattle.decimal.proofs.DecimalLaws.{Counting}
use Rattle.decimal.proofs.places.Given as goal

abbrev pub invariant-loop-k : goal.invariant-loop-k
invariant-loop-k l = Counting l.n l.k l.rest
