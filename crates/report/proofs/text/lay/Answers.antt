-- Where there is room the text is put, and else nothing is.
use native.Mathlib.Omega.{arith}
use Rattle.report.proofs.TextLaws.{print_short, print_done}
use Rattle.report.proofs.text.lay.Goals as goal

pub returns-in-Some : goal.returns-in-Some
returns-in-Some c = print_done _ _ _ (omega arith) c.put.ensures

pub returns-in_default : goal.returns-in_default
returns-in_default c = print_short _ _ _ (omega arith)

pub returns-in_default-2 : goal.returns-in_default-2
returns-in_default-2 c = print_short _ _ _ (omega arith)
