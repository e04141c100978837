-- The status that the program ends with where a call is stopped.
use Rattle.std.specs.Prelude.{ℕ}
use Rattle.mikuzerao.specs.declared.say.Stop.{Stop}
use Rattle.mikuzerao.specs.declared.say.Stop.TheVariants.{Unwritten, Refused, Wrong}

abbrev pub status : Stop → ℕ
status Unwritten = 0
status Refused = 1
status Wrong = 2
