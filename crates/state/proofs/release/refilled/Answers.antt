use Rattle.state.proofs.release.refilled.Goals as goal

pub returns : goal.returns
returns c = rw c.execution_budget.ensures
