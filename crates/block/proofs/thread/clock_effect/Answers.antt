use borrow.Author.Tests.{lt-ltb, le-ltb, eq-eqb, ne_eqb, le-leb, lt-leb}
use Rattle.basis.specs.Tests.{pick}
use Rattle.block.specs.Play.{clock_effect}
use Rattle.block.proofs.thread.clock_effect.Goals as goal

pub returns-then-clock-offset : goal.returns-then-clock-offset
unfolding pick clock_effect
returns-then-clock-offset c = simp (lt-ltb _ _ c.if-clock-offset.true)

pub returns-then-phase-eq0 : goal.returns-then-phase-eq0
unfolding pick clock_effect
returns-then-phase-eq0 c = simp (le-ltb _ _ c.if-clock-offset.false, eq-eqb _ _ c.if-phase-eq0.true)

pub returns-then-deadline-phase : goal.returns-then-deadline-phase
unfolding pick clock_effect
returns-then-deadline-phase c = simp (le-ltb _ _ c.if-clock-offset.false, ne_eqb _ _ c.if-phase-eq0.false, le-leb _ _ c.if-deadline-phase.true)

pub returns : goal.returns
unfolding pick clock_effect
returns c = simp (le-ltb _ _ c.if-clock-offset.false, ne_eqb _ _ c.if-phase-eq0.false, lt-leb _ _ c.if-deadline-phase.false)
