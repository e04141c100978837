-- What the reach of a buffer's reading says.
use Rattle.std.specs.Prelude.{Bool, true, false, Option, None, Some}
use Rattle.std.specs.declared.io.Error.{Error}
use Rattle.input.specs.declared.Reach.{Reach}
use Rattle.input.specs.declared.Reach.TheVariants.{Whole, Part, Interrupted, Failed, Absent}

-- All that there is or that there is room for has been read.
abbrev pub is_whole : Reach → Bool
is_whole Whole = true
is_whole Part = false
is_whole (Interrupted e) = false
is_whole (Failed e) = false
is_whole (Absent e) = true

-- There may be more, and the next read may take it.
abbrev pub is_open : Reach → Bool
is_open Whole = false
is_open Part = true
is_open (Interrupted e) = true
is_open (Failed e) = false
is_open (Absent e) = false

-- The error that tells why the last read took nothing, or why no file was opened.
abbrev pub error_of : Reach → Option Error
error_of Whole = None
error_of Part = None
error_of (Interrupted e) = Some e
error_of (Failed e) = Some e
error_of (Absent e) = Some e
