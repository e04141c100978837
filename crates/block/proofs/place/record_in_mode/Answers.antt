-- A place past the end is refused, and what the part's call gives is said of the whole record.
use native.Mathlib.Omega.{arith}
use Rattle.block.specs.Block.{mode_of}
use Rattle.block.proofs.PlaceLaws.{recorded_past, recorded_part, part-inside}
use Rattle.block.proofs.UniqueLaws.{record_plain}
use Rattle.block.proofs.place.record_in_mode.Goals as goal

pub returns-then-out-at : goal.returns-then-out-at
returns-then-out-at c =
    let e = rw c.judge.ensures at c.or_no_room.ensures in
    let plain = record_plain c.args.t (mode_of c.args.frame) c.args.masks.now c.args.bytes.now c.args.s c.args.out.now c.args.at _ c.if-out-at.true e in
    rw c.refuse.ensures
    (rw plain (recorded_past c.args.t (mode_of c.args.frame) c.args.masks.now c.args.bytes.now c.args.s c.args.out.now c.args.at _ c.if-out-at.true e))

pub behind-requires : goal.behind-requires
behind-requires c =
    let inside = part-inside c.args.t (mode_of c.args.frame) c.args.masks.now c.args.bytes.now c.args.s c.args.out.now c.args.at c.run_in_mode.result c.run_in_mode.new.part c.if-out-at.false c.run_in_mode.ensures in
    omega (arith, inside)

pub returns : goal.returns
returns c =
    recorded_part c.args.t (mode_of c.args.frame) c.args.masks.now c.args.bytes.now c.args.s c.args.out.now c.args.at c.run_in_mode.result c.behind.result c.run_in_mode.new.part
    c.if-out-at.false c.behind.ensures.0 c.behind.ensures.1 c.behind.ensures.2 c.behind.ensures.3 c.run_in_mode.ensures
