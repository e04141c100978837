-- 11 and 19 come before the refusals of the block itself.
use mathlib.Core.Path.{sym, ◌∙◌}
use Rattle.basis.proofs.ListLaws.{long_of}
use Rattle.table.specs.Legal.{Sized, Legal}
use Rattle.table.proofs.LegalLaws.{legal_sound}
use Rattle.block.specs.Block.{mode_of}
use Rattle.block.proofs.RunLaws.{refused_11, refused_19, refused-then}
use borrow.Author.Rules.{rules}
use Rattle.block.proofs.judge.judge.Goals as goal

pub returns-then-not-legal : goal.returns-then-not-legal
returns-then-not-legal c = sym (refused_11 _ (mode_of c.args.frame) _ _ _ _ (sym c.legal.ensures ∙ c.if-not-legal.true))

pub returns-then-not-mode_passes : goal.returns-then-not-mode_passes
returns-then-not-mode_passes c =
    sym (refused_19 _ (mode_of c.args.frame) _ _ _ _ (sym c.legal.ensures ∙ c.if-not-legal.false) (sym c.mode_passes.ensures ∙ c.if-not-mode_passes.true))

-- The table's sizes are its types'.
pub judge_then-requires : goal.judge_then-requires
judge_then-requires c =
    let sized : Sized c.args.t = record { rows = search (rules, long_of); threads = search (rules, long_of) } in
    let sound : Legal c.args.t = legal_sound _ sized (sym c.legal.ensures ∙ c.if-not-legal.false) in
    (sound.count_high, sound.count_low)

pub returns : goal.returns
returns c =
    c.judge_then.ensures
    ∙ sym (refused-then _ (mode_of c.args.frame) _ _ _ _ (sym c.legal.ensures ∙ c.if-not-legal.false) (sym c.mode_passes.ensures ∙ c.if-not-mode_passes.false))
