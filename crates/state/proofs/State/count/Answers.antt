-- `State::count` meets its contract: the two fields change, and the place is stored.
use Rattle.state.specs.Methods.{count}
use borrow.Author.Rules.{rules}
use Rattle.state.proofs.State.count.Goals as goal

pub returns : goal.returns
unfolding count
returns c = search rules
