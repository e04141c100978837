use Rattle.reader.proofs.ReaderLaws.{number_ends, judged_stuck}
use Rattle.reader.specs.Reader.{row_from}
use Rattle.reader.proofs.parts.read_row.Goals as goal

pub returns-in_err-n : goal.returns-in_err-n
unfolding row_from
returns-in_err-n c = number_ends _ _ _ c.from_residual.ensures.1 (judged_stuck _ _ c.in_err-n.ensures)

pub returns : goal.returns
unfolding row_from
returns c = rw (← c.in_ok-n.ensures, ← c.row_passes-ok.ensures) c.judge.ensures
