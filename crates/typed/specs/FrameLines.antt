-- The lines of a frame, each a domain, a comma and a length, with an LF or a CRLF behind it; the last may lack its end. Numbers that are
-- too large are told as the largest that fit, which no frame may have.
use Rattle.std.specs.Prelude.{ℕ, ◌+◌, min, List, [], ◌∷◌, Bool, true, false, set, replicate, eqb, ltb, Option, None, Some}
use Rattle.basis.specs.Tests.{pick, and}
use Rattle.frame.specs.Frame.{no_window}
use Rattle.frame.specs.declared.Frame.{Frame}
use Rattle.frame.specs.declared.Window.{Window}
use Rattle.typed.specs.Fields.{Field, field_of, text_start, fed, closed}
use Rattle.typed.specs.Numbers.{is_plain}
use Rattle.typed.specs.declared.Windows.{Windows as TheWindows}

-- The lines of a frame so far: the domain of a line that is half read, whether some line is not two numbers, and the windows (65 counts
-- for more than 64).
pub record Windows : Type 0 where
  pub field : Field
  pub domain : ℕ
  pub second : Bool
  pub bad : Bool
  pub frame : Frame

-- The domain of a line that is half read, 0 where there is none.
abbrev pub domain_of : Option ℕ → ℕ
domain_of None = 0
domain_of (Some d) = d

-- Whether a line is half read.
abbrev pub second_of : Option ℕ → Bool
second_of None = false
second_of (Some d) = true

-- What the lines of the code are.
abbrev pub windows_of : TheWindows → Windows
windows_of w = record { field = field_of w.field; domain = domain_of w.domain; second = second_of w.domain; bad = w.bad; frame = w.frame }

abbrev pub no_windows : Windows
no_windows = record { field = text_start; domain = 0; second = false; bad = false; frame = record { count = 0; windows = replicate 64 no_window } }

-- What must end the next field: a comma behind a domain, the line's end behind a length.
unfoldable pub due : Bool → ℕ
due second = pick second 2 1

-- A field that ended is digits only, and ended as is due.
unfoldable pub as_due : Windows → Field → Bool
as_due w f = and (is_plain f) (eqb f.ended (due w.second))

-- The windows are counted up to 65.
unfoldable pub counted_windows : ℕ → ℕ
counted_windows n = pick (ltb n 65) (n + 1) n

-- One window more; past the last place none is stored.
unfoldable pub added : Frame → Window → Frame
added f w = record { count = counted_windows f.count; windows = set f.windows f.count w }

-- The first number of a line.
unfoldable pub with_domain : Windows → Field → Windows
with_domain w f = record { field = f; domain = min f.value 255; second = true; bad = w.bad; frame = w.frame }

-- The window of a line that is read.
unfoldable pub window_of : Windows → Field → Window
window_of w f = record { domain = w.domain; length = min f.value 65535 }

-- The second number of a line.
unfoldable pub with_window : Windows → Field → Windows
with_window w f = record { field = f; domain = 0; second = false; bad = w.bad; frame = added w.frame (window_of w f) }

-- A line that is not two numbers.
unfoldable pub spoilt : Windows → Windows
spoilt w = record { field = w.field; domain = w.domain; second = w.second; bad = true; frame = w.frame }

-- A field that ended.
unfoldable pub window_taken : Windows → Field → Windows
window_taken w f = pick (as_due w f) (pick w.second (with_window w f) (with_domain w f)) (spoilt w)

unfoldable pub with_field : Field → Windows → Windows
with_field f w = record { field = f; domain = w.domain; second = w.second; bad = w.bad; frame = w.frame }

-- The line's field, one character further.
unfoldable pub window_character : Windows → Field → Windows
window_character w f = pick (eqb f.ended 0) (with_field f w) (window_taken w f)

-- One character more of the text: behind a bad line nothing counts.
unfoldable pub windows_fed : Windows → ℕ → Windows
windows_fed w b = pick w.bad w (window_character w (fed w.field b))

unfoldable pub windows_read : Windows → List ℕ → Windows
windows_read w [] = w
windows_read w (b ∷ s) = windows_read (windows_fed w b) s

-- The end of the text.
unfoldable pub windows_closed : Windows → Windows
windows_closed w = pick w.bad w (pick (eqb w.field.ended 2) w (window_taken w (closed w.field)))

-- What a whole text is read to.
unfoldable pub frame_lines : List ℕ → Windows
frame_lines s = windows_closed (windows_read no_windows s)
