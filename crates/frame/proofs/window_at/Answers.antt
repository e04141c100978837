use Rattle.frame.specs.Frame.{window_at}
use Rattle.frame.proofs.FrameLaws.{frame_takes}
use native.Mathlib.Omega.{arith}
use Rattle.frame.proofs.window_at.Goals as goal

pub nonzero_rem-clock : goal.nonzero_rem-clock
nonzero_rem-clock c = omega (arith, c.frame_length-length.ensures, frame_takes _ c.requires)

pub returns : goal.returns
unfolding window_at
returns c = rw (← c.frame_length-length.ensures) c.window_within.ensures
