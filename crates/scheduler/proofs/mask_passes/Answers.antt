use Rattle.scheduler.specs.Taken.{mask_ok}
use Rattle.state.specs.Release.{has_event}
use Rattle.table.specs.Threads.{thread}
use Rattle.basis.specs.Tests.{and, or, every}
use Rattle.basis.proofs.TestLaws.{every-none, every-next, every_end, every_fails}
use lib.Dec.{eqb, ltb}
use borrow.Author.Tests.{not-true, not-false}
use mathlib.Core.Bool.{true, not}
use mathlib.Core.Path.{◌≡◌, sym, ◌∙◌}
use Prim.Native.Nat.{◌≤◌, ◌-◌}
use borrow.Author.Rules.{rules}
use Rattle.scheduler.proofs.mask_passes.Goals as goal

pub loop-i-init : goal.loop-i-init
loop-i-init c = (search rules, every-none _)

pub returns-then-not-bit_passes : goal.returns-then-not-bit_passes
unfolding mask_ok
returns-then-not-bit_passes c = sym (every_fails _ _ 32 (sym c.bit_passes.ensures ∙ c.if-not-bit_passes.true) c.loop-i-test.true)

pub loop-i-preserved : goal.loop-i-preserved
loop-i-preserved c = (search rules, every-next _ _ c.loop-i.invariant.1 (sym c.bit_passes.ensures ∙ c.if-not-bit_passes.false))

pub returns : goal.returns
unfolding mask_ok
returns c = sym (every_end _ _ 32 c.loop-i.invariant.1 c.loop-i.invariant.0 c.loop-i-test.false)
