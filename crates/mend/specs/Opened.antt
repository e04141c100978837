-- To open it is to open all that mending computes with.
use Rattle.std.specs.Int.Count.{ones_in}
use Rattle.basis.specs.Tests.{pick}
use Rattle.basis.specs.Search.{first, listed}
use Rattle.flow.specs.Flow.{flows, row_ok}
use Rattle.mend.specs.Grid.{filled, by_way, joined, widened, passed, closed}
use Rattle.mend.specs.Rows.{row_from, rows_of, mended, is_added, added, count}
use Rattle.mend.specs.Mend.{count_ok, bad_at, bad_row, answering, judging, mending}

unfoldable pub opened : {A : Type 0} → A → A
unfolding ones_in pick first listed flows row_ok filled by_way joined widened passed closed row_from rows_of mended is_added added count count_ok bad_at bad_row answering judging mending
opened x = x
