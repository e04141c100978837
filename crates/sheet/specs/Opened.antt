-- To open it is to open all that the comma form computes with.
use Rattle.reader.specs.Opened.{opened as reader-opened}
use Rattle.writer.specs.Opened.{opened as writer-opened}
use Rattle.codec.specs.Judging.{field_fault, fault, row_gap, wanted}
use Rattle.decimal.specs.Decimal.{decimal_in, decimal}
use Rattle.sheet.specs.Field.{field_ends, field, all_digits, value_from, judged_digits, field_number, field_at}
use Rattle.sheet.specs.Text.{ending, line_part, thread_lines, text, line_over, text_part}
use Rattle.sheet.specs.Sheet.{end_fault, finished, judged_field, judged_from, table_by, judged_text, sheet_reading}
use Rattle.sheet.specs.SheetWriter.{sheet_writing, sheet_written}

unfoldable pub opened : {A : Type 0} → A → A
unfolding reader-opened writer-opened field_fault fault row_gap wanted decimal_in decimal field_ends field all_digits value_from judged_digits field_number field_at ending line_part thread_lines text line_over text_part end_fault finished judged_field judged_from table_by judged_text sheet_reading sheet_writing sheet_written
opened x = x
