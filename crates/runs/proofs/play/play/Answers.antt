-- The block before the first refused step is not refused, and gives the state that refuses it.
use mathlib.Core.Path.{sym}
use lib.Seq.{length-take-le}
use Rattle.block.specs.Block.{mode_of}
use Rattle.runs.specs.Stopping.{halt_of}
use Rattle.runs.proofs.PlayLaws.{masks_inside, bytes_inside, plays}
use borrow.Author.Rules.{rules}
use Rattle.runs.proofs.play.play.Goals as goal

-- The front that is lent stands within the masks and the bytes.
pub overflow_mul-end : goal.overflow_mul-end
overflow_mul-end c = search (rules, bytes_inside c.args.t c.args.masks.now c.args.bytes.now _ c.stop-b.ensures.within)

pub slice_bounds-run_in_mode-end : goal.slice_bounds-run_in_mode-end
slice_bounds-run_in_mode-end c = sym (length-take-le _ _ (masks_inside c.args.t c.args.masks.now c.args.bytes.now _ c.stop-b.ensures.within))

pub slice_bounds-run_in_mode-end-2 : goal.slice_bounds-run_in_mode-end-2
slice_bounds-run_in_mode-end-2 c = sym (length-take-le _ _ (bytes_inside c.args.t c.args.masks.now c.args.bytes.now _ c.stop-b.ensures.within))

pub returns : goal.returns
returns c =
    plays c.args.t (mode_of c.args.frame) c.requires.0 c.requires.1 c.args.s c.requires.2 c.args.masks.now c.args.bytes.now c.args.part.now _ (halt_of c.stop-b.result) c.run_in_mode-r.result c.stop-b.ensures c.requires.3 c.run_in_mode-r.ensures
