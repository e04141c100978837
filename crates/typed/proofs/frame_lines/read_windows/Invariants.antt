-- What is still to be read ends as the whole does.
use mathlib.Core.Path.{◌≡◌}
use lib.ListN.{drop}
use Rattle.typed.specs.FrameLines.{windows_of, windows_read}
use Rattle.typed.proofs.frame_lines.read_windows.Given as goal

abbrev pub invariant-loop-b : goal.invariant-loop-b
invariant-loop-b l = windows_read (windows_of l.w) (drop l.b-index l.part) ≡ windows_read (windows_of l.initial.w) l.part
