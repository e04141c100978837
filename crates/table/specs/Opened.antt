-- To open it is to open all that the test of a table and its marks compute with.
use Rattle.basis.specs.Tests.{pick, every, some}
use Rattle.basis.specs.Search.{first, listed}
use Rattle.flow.specs.Flow.{flows, row_ok}
use Rattle.flow.specs.Gap.{broken, gap_at, gap_by_c, gap_by_b, first_gap}
use Rattle.table.specs.Threads.{fields_in}
use Rattle.table.specs.Ranges.{within, field_ranges, field_range}
use Rattle.table.specs.Legal.{row_legal, field_ok, thread_ok, field_zero, thread_zero, taken, place_legal, legal}
use Rattle.table.specs.Mark.{seen_by, hidden_below, protects, marked, marks_of, marking, marks_given}

unfoldable pub opened : {A : Type 0} → A → A
unfolding pick every some first listed flows row_ok broken gap_at gap_by_c gap_by_b first_gap fields_in within field_ranges field_range row_legal field_ok thread_ok field_zero thread_zero taken place_legal legal seen_by hidden_below protects marked marks_of marking marks_given
opened x = x
