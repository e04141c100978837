-- `scheduler::step` meets its contract: 11, and then the step over all threads in their order.
use mathlib.Core.Path.{◌≡◌, sym, ◌∙◌}
use mathlib.Core.Bool.{true}
use borrow.Author.Tests.{not-true, not-false}
use Rattle.basis.specs.Tests.{pick}
use Rattle.basis.proofs.ListLaws.{long_of}
use Rattle.table.specs.Legal.{legal, Sized}
use Rattle.state.specs.Given.{Usable}
use Rattle.state.proofs.FitLaws.{usable}
use Rattle.order.proofs.OrderLaws.{order_below}
use Rattle.frame.specs.Mode.{mode_ok, threads_at}
use Rattle.walk.specs.Step.{marks_at, step}
use Rattle.scheduler.specs.Taken.{taken}
use borrow.Author.Rules.{rules}
use Rattle.scheduler.proofs.step.Goals as goal
use Rattle.scheduler.proofs.step.Goals.{Else-not-legal}

-- What the test of the table told, once it was passed.
lawful : (c : Else-not-legal) → legal c.args.t ≡ true
lawful c = sym c.legal.ensures ∙ c.if-not-legal.false

ready : (c : Else-not-legal) → Usable c.args.t
ready c =
    -- the table's sizes are its types'
    let sized : Sized c.args.t = record { rows = search (rules, long_of); threads = search (rules, long_of) } in
    usable _ sized (lawful c)

pub returns-then-not-legal : goal.returns-then-not-legal
unfolding taken pick
returns-then-not-legal c = rw (sym c.legal.ensures ∙ c.if-not-legal.true) c.refuse.ensures

pub prepare-p-requires : goal.prepare-p-requires
prepare-p-requires c = (ready (goal.at.prepare-p-requires c).Else-not-legal).few

pub step_over-requires : goal.step_over-requires
step_over-requires c =
    record { usable = ready (goal.at.step_over-requires c).Else-not-legal; count_bound = (c.prepare-p.ensures.0, rw c.prepare-p.ensures.1 (order_below c.args.t)) }

pub returns : goal.returns
unfolding taken step marks_at mode_ok threads_at pick
returns c = rw (lawful (goal.at.returns c).Else-not-legal, ← c.prepare-p.ensures.1, ← c.prepare-p.ensures.2) c.step_over.ensures
