-- `cleaning::may_pass` meets its contract.
use borrow.Author.Rules.{rules}
use Rattle.cleaning.specs.Scan.{passes}
use Rattle.cleaning.proofs.may_pass.Goals as goal

pub returns : goal.returns
unfolding passes
returns c = search rules
