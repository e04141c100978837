use Rattle.reader.proofs.ReaderLaws.{number_ends, judged_stuck}
use Rattle.reader.specs.Reader.{field_from}
use Rattle.reader.proofs.parts.read_field.Goals as goal

pub returns-in_err-f : goal.returns-in_err-f
unfolding field_from
returns-in_err-f c = number_ends _ _ _ c.from_residual.ensures.1 (judged_stuck _ _ (rw c.field_range-range.ensures at c.in_err-f.ensures))

pub returns : goal.returns
unfolding field_from
returns c = rw (← c.field_range-range.ensures, ← c.in_ok-f.ensures, ← c.is_free-ok.ensures) c.judge.ensures
