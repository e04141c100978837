use Rattle.basis.specs.Tests.{pick}
use Rattle.state.specs.Release.{at_phase, by_clock}
use borrow.Author.Tests.{lt-ltb, le-ltb, eq-eqb, ne_eqb, le-leb, lt-leb}
use Rattle.state.proofs.release.by_clock.Goals as goal

pub returns-then-clock-offset : goal.returns-then-clock-offset
unfolding pick by_clock
returns-then-clock-offset c = simp (lt-ltb _ _ c.if-clock-offset.true)

pub returns-then-phase-eq0 : goal.returns-then-phase-eq0
unfolding pick by_clock at_phase
returns-then-phase-eq0 c = simp (le-ltb _ _ c.if-clock-offset.false, eq-eqb _ _ c.if-phase-eq0.true, c.refilled.ensures)

pub returns-then-deadline-phase : goal.returns-then-deadline-phase
unfolding pick by_clock at_phase
returns-then-deadline-phase c = simp (le-ltb _ _ c.if-clock-offset.false, ne_eqb _ _ c.if-phase-eq0.false, le-leb _ _ c.if-deadline-phase.true, c.cut.ensures)

pub returns : goal.returns
unfolding pick by_clock at_phase
returns c = simp (le-ltb _ _ c.if-clock-offset.false, ne_eqb _ _ c.if-phase-eq0.false, lt-leb _ _ c.if-deadline-phase.false)
