use Rattle.reader.proofs.ReaderLaws.{number_ends, judged_stuck}
use Rattle.reader.specs.Reader.{ranged}
use Rattle.reader.proofs.steps.read_ranged.Goals as goal

pub returns-in_err-n : goal.returns-in_err-n
unfolding ranged
returns-in_err-n c = number_ends _ _ _ c.from_residual.ensures.1 (judged_stuck _ _ c.in_err-n.ensures)

pub returns : goal.returns
unfolding ranged
returns c = rw (← c.in_ok-n.ensures, ← c.in_range-ok.ensures) c.judge.ensures
