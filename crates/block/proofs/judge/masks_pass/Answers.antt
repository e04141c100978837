use mathlib.Core.Path.{sym, ◌∙◌}
use Rattle.basis.proofs.TestLaws.{every-none, every-next, every_end, every_fails}
use Rattle.block.specs.Block.{masks_ok}
use Rattle.block.proofs.EventLaws.{within-passes}
use Rattle.block.proofs.judge.masks_pass.Goals as goal
use Rattle.block.proofs.judge.masks_pass.Goals.{else-mask-all-via-then-mask-all+else-not-mask_passes, else-mask-all-via-else-mask-all}

pub loop-mask-init : goal.loop-mask-init
loop-mask-init c = (every-none _, c.events_of-all.ensures)

pub returns-then-not-mask_passes : goal.returns-then-not-mask_passes
unfolding masks_ok
returns-then-not-mask_passes c = sym (every_fails _ _ _ (sym c.mask_passes.ensures ∙ c.if-not-mask_passes.true) c.loop-mask-test.true)

pub loop-mask-preserved : goal.loop-mask-preserved
loop-mask-preserved c = (
  every-next _ _ c.loop-mask.invariant.0
      (elim c.else-mask-all.branch [
        | else-mask-all-via-then-mask-all+else-not-mask_passes w ↦ sym w.mask_passes.ensures ∙ w.if-not-mask_passes.false
        | else-mask-all-via-else-mask-all w ↦ within-passes _ _ _ c.loop-mask.invariant.1 w.if-mask-all.false
      ]),
  c.loop-mask.invariant.1,
)

pub returns : goal.returns
unfolding masks_ok
returns c = sym (every_end _ _ _ c.loop-mask.invariant.0 c.loop-mask.auto.mask-index-end c.loop-mask-test.false)
