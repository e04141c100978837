use Rattle.frame.specs.Frame.{domain_at}
use Rattle.frame.proofs.FrameLaws.{falls}
use native.Mathlib.Omega.{arith}
use Rattle.frame.proofs.domain_at.Goals as goal

pub bounds-f-k : goal.bounds-f-k
bounds-f-k c = omega (arith, c.window_at-k.ensures, (falls c.args.f c.requires c.args.clock).in_use)

pub returns : goal.returns
unfolding domain_at
returns c = rw c.window_at-k.ensures
