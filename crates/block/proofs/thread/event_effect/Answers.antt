use mathlib.Core.Path.{sym, ◌∙◌}
use borrow.Author.Tests.{le-leb, lt-leb}
use Rattle.basis.specs.Tests.{pick}
use Rattle.block.specs.Play.{event_effect}
use Rattle.block.proofs.thread.event_effect.Goals as goal

pub returns-then-is_due : goal.returns-then-is_due
unfolding pick event_effect
returns-then-is_due c = rw (sym c.is_due.ensures ∙ c.if-is_due.true)

pub returns-then-th-since : goal.returns-then-th-since
unfolding pick event_effect
returns-then-th-since c = rw (sym c.is_due.ensures ∙ c.if-is_due.false, le-leb _ _ c.if-th-since.true)

pub returns : goal.returns
unfolding pick event_effect
returns c = rw (sym c.is_due.ensures ∙ c.if-is_due.false, lt-leb _ _ c.if-th-since.false)
