use Rattle.admission.specs.IdleMost.{idle_most}
use Rattle.admission.proofs.QuotientLaws.{ceil_le}
use Rattle.admission.proofs.IdleLaws.{idle-fits}
use native.Mathlib.Omega.{arith}
use Rattle.admission.proofs.idle.idle_within.Goals as goal

pub overflow_add-result : goal.overflow_add-result
overflow_add-result c =
    record { fits = omega (arith, c.rounded_up.ensures, ceil_le c.args.length _ (c.requires.0.threads _ c.requires.1).period_low) }

pub overflow_mul-result : goal.overflow_mul-result
overflow_mul-result c =
    record { fits = rw c.rounded_up.ensures (idle-fits _ _ _ (c.requires.0.threads _ c.requires.1).period_low (omega arith) (omega arith)) }

pub returns : goal.returns
unfolding idle_most
returns c = rw c.rounded_up.ensures
