-- Row by row.
use Rattle.std.proofs.Common.{rules}
use Rattle.mend.specs.Rows.{row_from, rows_of}
use Rattle.mend.proofs.FromFnLaws.{made-listed}
use Rattle.mend.proofs.grid.rows_of.Goals as goal

pub returns : goal.returns
unfolding rows_of
returns c = made-listed _ (λ a. row_from c.args.grid.now a 16) _ (λ x y q k. search rules) c.from_fn.result 16 0 c.from_fn.ensures.items
