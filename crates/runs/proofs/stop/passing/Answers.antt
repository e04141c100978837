-- The first k masks pass, and so does every mask of the bits that are kept.
use mathlib.Core.Path.{sym, ◌∙◌}
use native.Mathlib.Omega.{arith}
use Rattle.basis.proofs.TestLaws.{every-none, every-next, every_end}
use Rattle.runs.proofs.MaskLaws.{empty-passes, within-known, both_known}
use borrow.Author.Rules.{rules}
use Rattle.runs.proofs.stop.passing.Goals as goal
use Rattle.runs.proofs.stop.passing.Goals.{then-mask-known+else-not-mask_passes, else-mask-known}

pub loop-k-init : goal.loop-k-init
loop-k-init c = (every-none _, empty-passes _)

pub returns-then-not-mask_passes : goal.returns-then-not-mask_passes
returns-then-not-mask_passes c = (search rules, c.loop-k.invariant.0, λ _. sym c.mask_passes.ensures ∙ c.if-not-mask_passes.true)

pub loop-k-preserved : goal.loop-k-preserved
loop-k-preserved c =
    elim c.if-mask-known.branch [
      | then-mask-known+else-not-mask_passes w ↦
          let m = sym w.mask_passes.ensures ∙ w.if-not-mask_passes.false in
          rw w.known-is (every-next _ _ c.loop-k.invariant.0 m, both_known _ _ _ c.loop-k.invariant.1 m)
      | else-mask-known w ↦
          rw w.known-is (every-next _ _ c.loop-k.invariant.0 (within-known _ _ _ c.loop-k.invariant.1 w.if-mask-known.false), c.loop-k.invariant.1)
    ]

pub returns : goal.returns
returns c = (search rules, every_end _ _ _ c.loop-k.invariant.0 c.loop-k.auto.k-end c.loop-k-test.false, λ h. absurd (omega arith))
