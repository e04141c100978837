-- The ones of a row of 16 bits are those that the processor counts.
use Rattle.mend.proofs.OnesLaws.{ones_of_small, ones-most}
use native.Mathlib.Omega.{arith}
use mathlib.Core.Path.{refl}
use borrow.Author.Rules.{rules}
use Rattle.mend.proofs.pairs.more_ones.Goals as goal

pub overflow_sub-result : goal.overflow_sub-result
overflow_sub-result c = rw (ones_of_small c.args.row (search rules), ones_of_small c.args.mended (search rules)) c.requires

pub overflow_cast-result : goal.overflow_cast-result
overflow_cast-result c = rw (ones_of_small c.args.row (search rules), ones_of_small c.args.mended (search rules)) (omega (arith, ones-most c.args.mended (search rules)))

pub returns : goal.returns
returns c = rw (ones_of_small c.args.row (search rules), ones_of_small c.args.mended (search rules)) (refl, omega (arith, ones-most c.args.mended (search rules)))
