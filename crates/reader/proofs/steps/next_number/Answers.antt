use mathlib.Core.Path.{sym, ap}
use Rattle.basis.specs.Tests.{pick}
use Rattle.numeral.proofs.RuleLaws.{refused-plain}
use Rattle.reader.specs.Reader.{number_from, took}
use Rattle.reader.proofs.steps.next_number.Goals as goal

pub returns-in-Ok : goal.returns-in-Ok
unfolding number_from pick
returns-in-Ok c = ap (took c.args.c.next) c.in-Ok.ensures.0

pub returns-in-Err : goal.returns-in-Err
unfolding number_from pick
returns-in-Err c = record {
  met = ap (took c.args.c.next) (sym c.in-Err.ensures.0);
  plain = refused-plain _ _ _ c.in-Err.ensures.0;
}
