-- To open it is to open all that the test of a frame and the window of a clock compute with.
use Rattle.basis.specs.Tests.{pick, every}
use Rattle.basis.specs.Search.{first}
use Rattle.table.specs.Ranges.{within}
use Rattle.frame.specs.Frame.{window_ok, frame_ok, before, frame_length, ends_behind, window_within, window_at, domain_at}

unfoldable pub opened : {A : Type 0} → A → A
unfolding pick every first within window_ok frame_ok before frame_length ends_behind window_within window_at domain_at
opened x = x
