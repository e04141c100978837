-- To open it is to open all that a printed line computes with.
use Rattle.decimal.specs.Decimal.{decimal_in, decimal}
use Rattle.report.specs.Lines.{threads_line, step_line, answer, trace_lines, end_line, refused_line}

unfoldable pub opened : {A : Type 0} → A → A
unfolding decimal_in decimal threads_line step_line answer trace_lines end_line refused_line
opened x = x
