use Rattle.flow.specs.Flow.{flows}
use Rattle.flow.proofs.may_flow.Goals as goal

pub returns : goal.returns
unfolding flows
returns c = rw (c.bit.ensures, c.row.ensures)
