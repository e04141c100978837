use Rattle.frame.proofs.FrameLaws.{before-none, before-next}
use native.Mathlib.Nat.{le_antisymm}
use native.Mathlib.Numerals.{add-one}
use mathlib.Core.Path.{sym, ◌∙◌}
use borrow.Author.Rules.{rules}
use Rattle.block.proofs.window.end_of_window.Goals as goal

pub loop-j-init : goal.loop-j-init
loop-j-init c = (search rules, search rules, sym (before-none _))

pub loop-j-preserved : goal.loop-j-preserved
loop-j-preserved c = (search rules, search rules, rw add-one (before-next _ c.loop-j.j c.loop-j.invariant.2))

pub returns : goal.returns
returns c = let e = le_antisymm c.loop-j.invariant.0 c.loop-j-test.false ∙ add-one _ in rw e at c.loop-j.invariant.2
