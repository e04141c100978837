-- By the two tests.
use mathlib.Core.Path.{sym, ◌∙◌}
use Rattle.runs.proofs.StopLaws.{refuses_18, refuses_none, refuses_14}
use Rattle.runs.proofs.stop.refusal.Goals as goal

pub returns-then-not-mask_passes : goal.returns-then-not-mask_passes
returns-then-not-mask_passes c = sym (refuses_18 _ _ _ (sym c.mask_passes.ensures ∙ c.if-not-mask_passes.true))

pub returns-then-clock-lt1000000000 : goal.returns-then-clock-lt1000000000
returns-then-clock-lt1000000000 c = sym (refuses_none _ _ _ (sym c.mask_passes.ensures ∙ c.if-not-mask_passes.false) c.if-clock-lt1000000000.true)

pub returns : goal.returns
returns c = sym (refuses_14 _ _ _ (sym c.mask_passes.ensures ∙ c.if-not-mask_passes.false) c.if-clock-lt1000000000.false)
