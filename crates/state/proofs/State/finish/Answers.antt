-- `State::finish` meets its contract: the one field changes, and the place is stored.
use Rattle.state.specs.Methods.{finish}
use borrow.Author.Rules.{rules}
use Rattle.state.proofs.State.finish.Goals as goal

pub returns : goal.returns
unfolding finish
returns c = search rules
