use Rattle.state.specs.Release.{has_event}
use borrow.Author.Rules.{rules}
use Rattle.state.proofs.release.has_event.Goals as goal

pub returns : goal.returns
unfolding has_event
returns c = search rules
