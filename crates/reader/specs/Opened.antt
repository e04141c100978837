-- To open it is to open all that reading a table computes with.
use Rattle.table.specs.Opened.{opened as table-opened}
use Rattle.numeral.specs.Number.{third, second, number, number_at}
use Rattle.reader.specs.Reader.{number_from, judged, ranged, row_from, rows_from, free, field_from, fields_from, threads_from, ended, after_rows, version_from, domains_from, count_from, reading}

unfoldable pub opened : {A : Type 0} → A → A
unfolding table-opened third second number number_at number_from judged ranged row_from rows_from free field_from fields_from threads_from ended after_rows version_from domains_from count_from reading
opened x = x
