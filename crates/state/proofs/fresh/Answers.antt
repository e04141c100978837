use Rattle.table.proofs.LegalLaws.{legal_small}
use Rattle.basis.specs.Tests.{pick}
use Rattle.state.specs.State.{starting, fresh_given}
use mathlib.Core.Path.{sym, ◌∙◌}
use Rattle.state.proofs.fresh.Goals as goal

pub returns-then-not-legal : goal.returns-then-not-legal
unfolding starting fresh_given pick
returns-then-not-legal c = let e = sym c.legal.ensures ∙ c.if-not-legal.true in (rw e, rw e)

pub fresh_state-requires : goal.fresh_state-requires
fresh_state-requires c = (legal_small _ (sym c.legal.ensures ∙ c.if-not-legal.false)).1

pub returns : goal.returns
unfolding starting fresh_given pick
returns c = let e = sym c.legal.ensures ∙ c.if-not-legal.false in (rw e, rw e c.fresh_state.ensures)
