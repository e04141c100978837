use mathlib.Core.Path.{◌≡◌, ap, ◌∙◌}
use mathlib.Core.Bool.{false}
use borrow.Author.Rules.{rules}
use Rattle.std.specs.Prelude.{Some}
use Rattle.sheet.specs.Scan.{cut_of, ends_wrong}
use Rattle.sheet.proofs.CodeJoins.{not-last, no-stop, no_number, ends-so}
use Rattle.sheet.proofs.judge.wrong_end.Goals as goal

pub returns-then-cut-k : goal.returns-then-cut-k
returns-then-cut-k c = not-last _ _ c.if-cut-k.true

pub returns-in_err-cut : goal.returns-in_err-cut
returns-in_err-cut c = let z : ends_wrong (cut_of c.args.cut) c.args.k ≡ false = no-stop c.args.cut c.args.k c.in_err-cut.was in search rules

pub returns-in-NoNumber : goal.returns-in-NoNumber
returns-in-NoNumber c = no_number _ _ _ (c.in_ok-cut.was ∙ ap Some c.in-NoNumber.is)

pub returns-in-WrongEnd : goal.returns-in-WrongEnd
returns-in-WrongEnd c = ends-so _ _ _ (c.in_ok-cut.was ∙ ap Some c.in-WrongEnd.is) c.if-cut-k.false
