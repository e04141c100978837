-- `scheduler::step_in_frame` meets its contract: 11, 19, and then the step over the threads that are open to the window's domain.
use mathlib.Core.Path.{◌≡◌, sym, ◌∙◌}
use mathlib.Core.Bool.{true}
use borrow.Author.Tests.{not-true, not-false}
use Rattle.basis.specs.Tests.{pick}
use Rattle.basis.proofs.ListLaws.{long_of}
use Rattle.table.specs.Legal.{legal, Sized}
use Rattle.state.specs.Given.{Usable}
use Rattle.state.proofs.FitLaws.{usable}
use Rattle.order.specs.Order.{order}
use Rattle.order.proofs.OrderLaws.{order_below}
use Rattle.order.proofs.OpenLaws.{open_below}
use Rattle.frame.specs.Frame.{frame_ok}
use Rattle.frame.specs.Mode.{mode_ok, threads_at}
use Rattle.frame.proofs.FrameLaws.{ok_framed, framed_timed}
use Rattle.walk.specs.Step.{marks_at, step}
use Rattle.scheduler.specs.Taken.{taken}
use borrow.Author.Rules.{rules}
use Rattle.scheduler.proofs.step_in_frame.Goals as goal
use Rattle.scheduler.proofs.step_in_frame.Goals.{Else-not-frame_passes, Else-not-legal}

-- What the test of the table told, once it was passed.
lawful : (c : Else-not-legal) → legal c.args.t ≡ true
lawful c = sym c.legal.ensures ∙ c.if-not-legal.false

ready : (c : Else-not-legal) → Usable c.args.t
ready c =
    -- the table's sizes are its types'
    let sized : Sized c.args.t = record { rows = search (rules, long_of); threads = search (rules, long_of) } in
    usable _ sized (lawful c)

passing : (c : Else-not-frame_passes) → frame_ok c.args.t c.args.f ≡ true
passing c = sym c.frame_passes.ensures ∙ c.if-not-frame_passes.false

pub returns-then-not-legal : goal.returns-then-not-legal
unfolding taken pick
returns-then-not-legal c = rw (sym c.legal.ensures ∙ c.if-not-legal.true) c.refuse.ensures

pub returns-then-not-frame_passes : goal.returns-then-not-frame_passes
unfolding taken mode_ok pick
returns-then-not-frame_passes c = rw (lawful (goal.at.returns-then-not-frame_passes c).Else-not-legal, sym c.frame_passes.ensures ∙ c.if-not-frame_passes.true) c.refuse-then-not-frame_passes.ensures

pub prepare-all-requires : goal.prepare-all-requires
prepare-all-requires c = (ready (goal.at.prepare-all-requires c).Else-not-legal).few

pub domain_at-d-requires : goal.domain_at-d-requires
domain_at-d-requires c = framed_timed _ _ (ok_framed _ _ (passing (goal.at.domain_at-d-requires c).Else-not-frame_passes))

pub narrow-p-requires : goal.narrow-p-requires
narrow-p-requires c =
    ((ready (goal.at.narrow-p-requires c).Else-not-legal).few, c.prepare-all.ensures.0, rw c.prepare-all.ensures.1 (order_below c.args.t), c.prepare-all.ensures.2)

pub step_over-requires : goal.step_over-requires
step_over-requires c =
    record { usable = ready (goal.at.step_over-requires c).Else-not-legal; count_bound = (c.narrow-p.ensures.0, rw (c.narrow-p.ensures.1, c.prepare-all.ensures.1) (open_below c.args.t _ c.args.t.count (order c.args.t) (order_below c.args.t))) }

pub returns : goal.returns
unfolding taken step marks_at mode_ok threads_at pick
returns c =
    rw (lawful (goal.at.returns c).Else-not-legal, passing (goal.at.returns c).Else-not-frame_passes, ← c.domain_at-d.ensures, ← c.prepare-all.ensures.1, ← c.narrow-p.ensures.1, ← c.narrow-p.ensures.2)
    c.step_over.ensures
