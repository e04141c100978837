-- `State::pay` meets its contract: the one field changes, and the place is stored.
use Rattle.state.specs.Methods.{pay}
use borrow.Author.Rules.{rules}
use Rattle.state.proofs.State.pay.Goals as goal

pub returns : goal.returns
unfolding pay
returns c = search rules
