use Rattle.sheet.proofs.CodeCuts.{number-so}
use Rattle.sheet.proofs.scan.cut_number.Goals as goal

pub returns : goal.returns
returns c = number-so _ _ _ _ c.is_line_over-last.ensures _ c.end_stop.ensures.why c.end_stop.ensures.place c.end_stop.ensures.ended _ c.behind.ensures
