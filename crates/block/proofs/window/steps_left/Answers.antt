use native.Mathlib.Omega.{arith}
use Rattle.frame.proofs.FrameLaws.{frame_takes}
use Rattle.block.proofs.WindowLaws.{window_few, left_is}
use Rattle.block.proofs.window.steps_left.Goals as goal

pub nonzero_rem-place : goal.nonzero_rem-place
nonzero_rem-place c = omega (arith, c.frame_length-length.ensures, frame_takes _ c.requires)

pub end_of_window-requires : goal.end_of_window-requires
end_of_window-requires c = window_few _ c.requires _ _ _ c.frame_length-length.ensures c.window_within-k.ensures

pub overflow_sub-result : goal.overflow_sub-result
overflow_sub-result c = (left_is _ c.requires _ _ _ c.frame_length-length.ensures c.window_within-k.ensures _ c.end_of_window.ensures).0

pub returns : goal.returns
returns c = (left_is _ c.requires _ _ _ c.frame_length-length.ensures c.window_within-k.ensures _ c.end_of_window.ensures).1
