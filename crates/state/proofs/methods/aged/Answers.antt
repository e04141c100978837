use Rattle.basis.specs.Tests.{pick}
use Rattle.state.specs.Methods.{aged}
use borrow.Author.Tests.{lt-ltb, le-ltb}
use Rattle.state.proofs.methods.aged.Goals as goal

pub returns-then-p-longest_since : goal.returns-then-p-longest_since
unfolding aged pick
returns-then-p-longest_since c = simp (lt-ltb _ _ (rw c.longest_since.ensures at c.if-p-longest_since.true))

pub returns-else-p-longest_since : goal.returns-else-p-longest_since
unfolding aged pick
returns-else-p-longest_since c = rw (le-ltb _ _ (rw c.longest_since.ensures at c.if-p-longest_since.false))
