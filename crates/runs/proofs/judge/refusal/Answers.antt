-- The refusals in their order.
use mathlib.Core.Path.{sym, ◌∙◌}
use Rattle.runs.specs.Numbered.{not-legal, bad-frame, not-fitting, no_room, starts}
use Rattle.runs.proofs.NumberLaws.{number_only}
use Rattle.runs.proofs.judge.refusal.Goals as goal

pub returns-then-not-legal : goal.returns-then-not-legal
returns-then-not-legal c = sym (number_only _ _ _ _ _ (not-legal (sym c.legal.ensures ∙ c.if-not-legal.true)))

pub returns-then-not-mode_passes : goal.returns-then-not-mode_passes
returns-then-not-mode_passes c =
    sym (number_only _ _ _ _ _ (bad-frame (sym c.legal.ensures ∙ c.if-not-legal.false) (sym c.mode_passes.ensures ∙ c.if-not-mode_passes.true)))

pub returns-then-not-fits : goal.returns-then-not-fits
returns-then-not-fits c =
    sym (number_only _ _ _ _ _ (not-fitting (sym c.legal.ensures ∙ c.if-not-legal.false) (sym c.mode_passes.ensures ∙ c.if-not-mode_passes.false) (sym c.fits.ensures ∙ c.if-not-fits.true)))

pub returns-then-room-steps : goal.returns-then-room-steps
returns-then-room-steps c =
    sym (number_only _ _ _ _ _ (no_room (sym c.legal.ensures ∙ c.if-not-legal.false) (sym c.mode_passes.ensures ∙ c.if-not-mode_passes.false) (sym c.fits.ensures ∙ c.if-not-fits.false) c.if-room-steps.true))

pub returns : goal.returns
returns c =
    sym (number_only _ _ _ _ _ (starts (sym c.legal.ensures ∙ c.if-not-legal.false) (sym c.mode_passes.ensures ∙ c.if-not-mode_passes.false) (sym c.fits.ensures ∙ c.if-not-fits.false) c.if-room-steps.false))
