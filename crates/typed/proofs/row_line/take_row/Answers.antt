-- A field that is a row has no fault, and the number of a fault is not 0.
use native.Mathlib.Omega.{arith}
use borrow.Author.Tests.{eq-eqb, ne_eqb}
use Rattle.basis.specs.Tests.{pick}
use Rattle.basis.specs.Refusals.{number}
use Rattle.basis.proofs.RefusalLaws.{number-positive}
use Rattle.typed.specs.Fields.{field_of}
use Rattle.typed.specs.RowLine.{fault, row_taken}
use Rattle.typed.proofs.row_line.take_row.Goals as goal

pub returns-in-Ok : goal.returns-in-Ok
unfolding row_taken pick
returns-in-Ok c = rw (eq-eqb (fault (field_of c.args.f)) 0 c.in-Ok.ensures.0) c.add_row.ensures

pub returns-in-Err : goal.returns-in-Err
unfolding row_taken pick
returns-in-Err c = rw (c.in-Err.ensures, ne_eqb (number c.in-Err.why) 0 (λ z. omega (arith, z, number-positive c.in-Err.why))) c.refuse.ensures
