-- The first i fields are put: each turn joins the next to them.
use mathlib.Core.Path.{◌≡◌}
use native.Mathlib.Omega.{arith}
use lib.ListN.{length}
use Rattle.writer.proofs.WriterLaws.{put-none, put_join, put_room, put-length}
use Rattle.sheet.specs.Text.{line_part}
use Rattle.sheet.proofs.LineLaws.{line-next, line_room}
use Rattle.sheet.proofs.put.put_line.Goals as goal

pub loop-i-init : goal.loop-i-init
unfolding line_part
loop-i-init c = put-none _ _

pub put_field-k-requires : goal.put_field-k-requires
put_field-k-requires c = put_room c.loop-i.invariant c.requires (line_room _ _ c.loop-i-test.true)

pub loop-i-preserved : goal.loop-i-preserved
loop-i-preserved c = rw (line-next _ _) (put_join c.loop-i.invariant c.put_field-k.ensures)

pub shape_of-buf : goal.shape_of-buf
shape_of-buf c = put-length c.loop-i.invariant

pub returns : goal.returns
returns c =
    let e : c.loop-i.i ≡ length c.args.vs.now = omega arith in
    rw e at c.loop-i.invariant
