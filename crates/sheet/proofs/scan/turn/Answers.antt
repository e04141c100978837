use mathlib.Core.Path.{◌≡◌, sym, ◌∙◌}
use mathlib.Core.Bool.{true}
use Rattle.sheet.specs.Scan.{cut_of, goes_on}
use Rattle.sheet.proofs.CutLaws.{going}
use Rattle.sheet.proofs.CodeCuts.{turn_rests, turn_cuts, turn-stops}
use Rattle.sheet.proofs.scan.turn.Goals as goal
use Rattle.sheet.proofs.scan.turn.Goals.{Else-not-goes_on}

goes : (c : Else-not-goes_on) → goes_on (cut_of c.args.c) ≡ true
goes c = sym c.goes_on.ensures ∙ c.if-not-goes_on.false

pub returns-then-not-goes_on : goal.returns-then-not-goes_on
returns-then-not-goes_on c = turn_rests _ _ (sym c.goes_on.ensures ∙ c.if-not-goes_on.true)

pub cut_number-requires : goal.cut_number-requires
cut_number-requires c = ((going _ (goes (goal.at.cut_number-requires c).Else-not-goes_on)).room, c.in-Ok.ensures.1)

pub returns-in-Ok : goal.returns-in-Ok
returns-in-Ok c = turn_cuts _ _ (goes (goal.at.returns-in-Ok c).Else-not-goes_on) c.in-Ok.ensures.0 c.cut_number.ensures

pub returns-in-Err : goal.returns-in-Err
returns-in-Err c = turn-stops _ _ (goes (goal.at.returns-in-Err c).Else-not-goes_on) _ c.in-Err.ensures.0
