-- The word, the number and LF are put one after the other into a text, which is then laid whole.
use mathlib.Core.Path.{sym}
use native.Mathlib.Omega.{arith}
use lib.Seq.{length-take-le}
use Rattle.writer.proofs.WriterLaws.{put_join, put-length}
use Rattle.decimal.specs.Decimal.{decimal}
use Rattle.decimal.proofs.DecimalLaws.{decimal_long}
use Rattle.report.proofs.LineLaws.{join_long, counted_long}
use Rattle.report.proofs.TextLaws.{room_behind, text-put}
use Rattle.report.proofs.text.print_counted.Goals as goal

pub put_number-b-requires : goal.put_number-b-requires
put_number-b-requires c = room_behind _ c.put-a.ensures (omega (arith, c.requires, decimal_long c.args.n))

pub put-c-requires : goal.put-c-requires
put-c-requires c =
    room_behind _ (put_join c.put-a.ensures c.put_number-b.ensures)
    (omega (arith, join_long c.args.word.now (decimal c.args.n) 8 20 c.requires (decimal_long c.args.n)))

pub slice_bounds-text-end : goal.slice_bounds-text-end
slice_bounds-text-end c =
    let w = put_join (put_join c.put-a.ensures c.put_number-b.ensures) c.put-c.ensures in
    omega (arith, w.end, put-length w, counted_long c.args.word.now c.args.n c.requires)

pub slice_bounds-lay-end : goal.slice_bounds-lay-end
slice_bounds-lay-end c =
    let w = put_join (put_join c.put-a.ensures c.put_number-b.ensures) c.put-c.ensures in
    sym (length-take-le _ _ (omega (arith, w.end, put-length w, counted_long c.args.word.now c.args.n c.requires)))

pub returns : goal.returns
returns c =
    let w = put_join (put_join c.put-a.ensures c.put_number-b.ensures) c.put-c.ensures in
    let e = text-put w (omega (arith, counted_long c.args.word.now c.args.n c.requires)) in
    rw e at c.lay.ensures
