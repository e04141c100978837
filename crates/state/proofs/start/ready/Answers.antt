use Rattle.state.proofs.start.ready.Goals as goal

pub returns : goal.returns
returns c = rw (c.longest_since.ensures, c.no_progress-p.ensures)
