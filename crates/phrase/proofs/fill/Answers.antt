-- Where there is room the filled template is put, and else nothing is.
use mathlib.Core.Path.{sym, ◌∙◌}
use native.Mathlib.Omega.{arith}
use borrow.Author.Tests.{leb-true, leb-false}
use Rattle.report.proofs.TextLaws.{print_short, print_done}
use Rattle.phrase.proofs.fill.Goals as goal

pub put_filled-requires : goal.put_filled-requires
put_filled-requires c = record { fits = omega (arith, leb-true _ _ (sym c.is_roomy.ensures ∙ c.if-is_roomy.true)) }

pub returns-in-Some : goal.returns-in-Some
returns-in-Some c = print_done _ _ _ (omega (arith, leb-true _ _ (sym c.is_roomy.ensures ∙ c.if-is_roomy.true))) c.put_filled.ensures

pub returns-in_default : goal.returns-in_default
returns-in_default c = print_short _ _ _ (omega (arith, leb-false _ _ (sym c.is_roomy.ensures ∙ c.if-is_roomy.false)))

pub returns-in_default-2 : goal.returns-in_default-2
returns-in_default-2 c = print_short _ _ _ (omega arith)
