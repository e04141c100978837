use Rattle.std.proofs.Common.{◌≡◌}
use Rattle.admission.specs.Demand.{sum}
use Rattle.admission.specs.Tried.{most_tried}
use Rattle.admission.proofs.worst.worst_of.Given as goal

abbrev pub invariant-loop-own : goal.invariant-loop-own
invariant-loop-own l = l.sum ≡ sum l.own-index (most_tried l.fn.t)
