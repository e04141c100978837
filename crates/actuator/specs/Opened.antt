-- To open it is to open all that a drive and a run of drives compute with, by what their steps gave.
use Rattle.basis.specs.Tests.{pick}
use Rattle.basis.specs.Turns.{in_turn}
use Rattle.scheduler.specs.Taken.{answer_of}
use Rattle.actuator.specs.Motion.{in_range, ranged, drawn, distance, towards, way, moved, start}
use Rattle.actuator.specs.Drive.{ran, commanded, moved_to, follows}

unfoldable pub opened : {A : Type 0} → A → A
unfolding pick in_turn answer_of in_range ranged drawn distance towards way moved start ran commanded moved_to follows
opened x = x
