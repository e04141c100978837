-- To open it is to open all that a call of a block computes with.
use Rattle.scheduler.specs.Opened.{opened as steps-opened}
use Rattle.block.specs.Block.{input_at, inputs, end_of, trace_of, whole, masks_ok, refusal_then, refusal, made, block, or_no_room, stop, recorded}

unfoldable pub opened : {A : Type 0} → A → A
unfolding steps-opened input_at inputs end_of trace_of whole masks_ok refusal_then refusal made block or_no_room stop recorded
opened x = x
