use Rattle.basis.proofs.TestLaws.{every-none, every-next, every_fails, every_end}
use mathlib.Core.Path.{sym, ◌∙◌}
use borrow.Author.Rules.{rules}
use Rattle.frame.proofs.windows_pass.Goals as goal

pub loop-k-init : goal.loop-k-init
loop-k-init c = (search rules, every-none _)

pub returns-then-not-window_passes : goal.returns-then-not-window_passes
returns-then-not-window_passes c = sym (every_fails _ _ _ (sym c.window_passes.ensures ∙ c.if-not-window_passes.true) c.loop-k-test.true)

pub loop-k-preserved : goal.loop-k-preserved
loop-k-preserved c = (search rules, every-next _ _ c.loop-k.invariant.1 (sym c.window_passes.ensures ∙ c.if-not-window_passes.false))

pub returns : goal.returns
returns c = sym (every_end _ _ _ c.loop-k.invariant.1 c.loop-k.invariant.0 c.loop-k-test.false)
