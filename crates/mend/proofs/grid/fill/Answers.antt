-- Cell by cell.
use Rattle.std.proofs.Common.{false, rules, ◌/◌, ◌%◌}
use Rattle.flow.specs.Flow.{flows}
use Rattle.mend.specs.Grid.{filled}
use Rattle.mend.proofs.FromFnLaws.{made-listed}
use Rattle.mend.proofs.grid.fill.Goals as goal

pub returns : goal.returns
unfolding filled
returns c = made-listed _ (λ x. flows c.args.rows (x / 16) (x % 16)) _ (λ x y q k. search rules) c.from_fn.result 256 false c.from_fn.ensures.items
