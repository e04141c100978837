-- To open it is to open all that typed text computes with.
use Rattle.basis.specs.Tests.{pick}
use Rattle.typed.specs.Fields.{onward, is_digit, grown, is_strange, begun, moved, taken, settled, held, ended_by, character, fed, closed, read_on}
use Rattle.typed.specs.Numbers.{is_plain, is_signed, signed_value, signed, command, spelt, plain, argument, signed_word}
use Rattle.typed.specs.RowLine.{padded, fault, refused_at, counted, row_added, row_taken, with_field, row_character, rows_fed, rows_read, unended, rows_closed, row_line}
use Rattle.typed.specs.FrameLines.{due, as_due, counted_windows, added, with_domain, window_of, with_window, spoilt, window_taken, with_field as with_part, window_character, windows_fed, windows_read, windows_closed, frame_lines}

unfoldable pub opened : {A : Type 0} → A → A
unfolding pick onward is_digit grown is_strange begun moved taken settled held ended_by character fed closed read_on is_plain is_signed signed_value signed command spelt plain argument signed_word padded fault refused_at counted row_added row_taken with_field row_character rows_fed rows_read unended rows_closed row_line due as_due counted_windows added with_domain window_of with_window spoilt window_taken with_part window_character windows_fed windows_read windows_closed frame_lines
opened x = x
