-- The masks so far pass.
use mathlib.Core.Path.{◌≡◌}
use mathlib.Core.Bool.{true}
use lib.ListN.{get_or}
use Rattle.basis.specs.Tests.{every}
use Rattle.scheduler.specs.Taken.{mask_ok}
use Rattle.block.specs.Play.{events}
use Rattle.block.proofs.judge.masks_pass.Given as goal

abbrev pub invariant-loop-mask : goal.invariant-loop-mask
invariant-loop-mask l = (every l.mask-index (λ i. mask_ok l.t (get_or l.masks i 0)) ≡ true) × (l.all ≡ events l.t 0 l.t.count)
