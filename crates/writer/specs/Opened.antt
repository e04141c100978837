-- To open it is to open all that writing a table computes with.
use Rattle.table.specs.Opened.{opened as table-opened}
use Rattle.numeral.specs.Number.{encode, encode_all}
use Rattle.writer.specs.Format.{row_numbers, thread_numbers, numbers, bytes}
use Rattle.writer.specs.Writer.{overlaid, writing, written}

unfoldable pub opened : {A : Type 0} → A → A
unfolding table-opened encode encode_all row_numbers thread_numbers numbers bytes overlaid writing written
opened x = x
