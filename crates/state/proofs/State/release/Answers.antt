use Rattle.state.specs.State.{each_thread}
use Rattle.state.specs.Release.{release}
use native.Mathlib.Nat.{le_antisymm}
use native.Mathlib.Numerals.{add-one}
use borrow.Author.Rules.{rules}
use Rattle.state.proofs.State.release.Goals as goal

pub loop-i-init : goal.loop-i-init
unfolding each_thread
loop-i-init c = search rules

pub released-requires : goal.released-requires
released-requires c = c.requires.period _ c.loop-i-test.true

pub loop-i-preserved : goal.loop-i-preserved
unfolding each_thread
loop-i-preserved c = (search rules, rw add-one (cc))

pub returns : goal.returns
unfolding release
returns c = cc (le_antisymm c.loop-i.invariant.0 c.loop-i-test.false)
