use Rattle.table.specs.Mark.{protects, mark, marks_of}
use Rattle.basis.proofs.SearchLaws.{listed-none, listed_next}
use Rattle.basis.specs.Search.{nothing}
use native.Mathlib.Nat.{le_antisymm}
use native.Mathlib.Omega.{arith}
use borrow.Author.Rules.{rules}
use Rattle.table.proofs.leak.mark_all.Goals as goal

pub loop-i-init : goal.loop-i-init
loop-i-init c = (search rules, (listed-none (λ k. mark (protects c.args.t k)) (mark nothing) 32))

pub loop-i-preserved : goal.loop-i-preserved
loop-i-preserved c =
    (search rules, rw (c.loop-i.invariant.1, c.mark_of.ensures) (listed_next (λ k. mark (protects c.args.t k)) (mark nothing) c.loop-i.i 32 (omega arith)))

pub returns : goal.returns
unfolding marks_of
returns c = let e = le_antisymm c.loop-i.invariant.0 c.loop-i-test.false in rw e at c.loop-i.invariant.1
