-- What the move after a step stands on.
use mathlib.Core.Path.{◌≡◌}
use mathlib.Core.Bool.{true}
use lib.IntN.{ℤ}
use Rattle.basis.proofs.RefusalLaws.{number-positive}
use Rattle.basis.proofs.TestLaws.{both_ways}
use Rattle.walk.specs.declared.Answer.{Answer}
use Rattle.scheduler.proofs.UniqueLaws.{answer_back}
use Rattle.actuator.specs.Motion.{in_range, ranged, drawn}
use Rattle.actuator.specs.Drive.{ran, commanded}
use Rattle.actuator.specs.declared.Actuator.{Actuator}
use Rattle.actuator.proofs.RangeLaws.{drawn_in, ranged-command}

-- The command that stands is in the range.
pub commanded_in : (a : Actuator) → ranged a ≡ true → (n : Answer) (x : ℤ) → in_range (commanded a n x) ≡ true
unfolding commanded
commanded_in a r n x = both_ways (λ z. in_range z ≡ true) (ran a.thread n) (drawn x) a.command (drawn_in x) (ranged-command a r)

-- That, what an answer reads back as, and that no refusal has the number 0: what `follow` is proved with.
pub ruleset moving = (commanded_in, answer_back, number-positive)
