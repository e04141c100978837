-- The first k masks pass, and so does every mask of the bits that are kept.
use mathlib.Core.Path.{◌≡◌}
use mathlib.Core.Bool.{true}
use lib.ListN.{get_or}
use Rattle.basis.specs.Tests.{every}
use Rattle.scheduler.specs.Taken.{mask_ok}
use Rattle.runs.proofs.stop.passing.Given as goal

abbrev pub invariant-loop-k : goal.invariant-loop-k
invariant-loop-k l = (every l.k (λ i. mask_ok l.t (get_or l.masks i 0)) ≡ true) × (mask_ok l.t l.known ≡ true)
