-- What a step that is not made is refused with: 13 where it is short of bytes or of its mask.
use Rattle.basis.specs.declared.refusal.Refusal.{Refusal}
use Rattle.basis.specs.declared.refusal.Refusal.TheVariants.{StepBytes}
use Rattle.mikuzerao.specs.declared.stop.Stuck.{Stuck}
use Rattle.mikuzerao.specs.declared.stop.Stuck.TheVariants.{Short, Refused}

abbrev pub refusal_of : Stuck → Refusal
refusal_of (Short bytes mask) = StepBytes
refusal_of (Refused why mask) = why
