-- `cleaning::start` meets its contract.
use Rattle.cleaning.specs.Scan.{scanned}
use Rattle.cleaning.proofs.start.Goals as goal

pub returns : goal.returns
unfolding scanned
returns c = c.scan.ensures
