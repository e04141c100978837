use Rattle.frame.specs.Frame.{frame_length}
use Rattle.frame.proofs.FrameLaws.{before-none, before-next}
use native.Mathlib.Nat.{le_antisymm}
use native.Mathlib.Numerals.{add-one}
use mathlib.Core.Path.{sym}
use borrow.Author.Rules.{rules}
use Rattle.frame.proofs.frame_length.Goals as goal

pub loop-k-init : goal.loop-k-init
loop-k-init c = (search rules, search rules, sym (before-none _))

pub loop-k-preserved : goal.loop-k-preserved
loop-k-preserved c = (search rules, search rules, rw add-one (before-next _ c.loop-k.k c.loop-k.invariant.2))

pub returns : goal.returns
unfolding frame_length
returns c = let e = le_antisymm c.loop-k.invariant.0 c.loop-k-test.false in rw e at c.loop-k.invariant.2
