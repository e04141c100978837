use Rattle.basis.specs.Tests.{pick}
use Rattle.reader.specs.Reader.{judged}
use Rattle.reader.proofs.steps.judge.Goals as goal

pub returns-then-ok : goal.returns-then-ok
unfolding judged pick
returns-then-ok c = rw c.if-ok.true

pub returns : goal.returns
unfolding judged pick
returns c = record { met = rw c.if-ok.false; plain = c.requires }
