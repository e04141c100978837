-- The word, the number, a space, the place and LF are put one after the other into a text, which is then laid whole.
use mathlib.Core.Path.{sym}
use mathlib.Core.List.{◌++◌}
use native.Mathlib.Omega.{arith}
use lib.Seq.{length-take-le}
use Rattle.writer.proofs.WriterLaws.{put_join, put-length}
use Rattle.decimal.specs.Decimal.{decimal}
use Rattle.report.specs.Lines.{space, refused_word, refused_line}
use Rattle.decimal.proofs.DecimalLaws.{decimal_long}
use Rattle.report.proofs.LineLaws.{join_long, refused_start_long, refused_long}
use Rattle.report.proofs.TextLaws.{room_behind, text-put}
use Rattle.report.proofs.print_refused.Goals as goal

pub put_number-b-requires : goal.put_number-b-requires
put_number-b-requires c = room_behind _ c.put-a.ensures (omega (arith, decimal_long c.args.number))

pub put-c-requires : goal.put-c-requires
put-c-requires c =
    room_behind _ (put_join c.put-a.ensures c.put_number-b.ensures)
    (omega (arith, join_long refused_word (decimal c.args.number) 8 20 (omega arith) (decimal_long c.args.number)))

pub put_number-d-requires : goal.put_number-d-requires
put_number-d-requires c =
    room_behind _ (put_join (put_join c.put-a.ensures c.put_number-b.ensures) c.put-c.ensures)
    (omega (arith, refused_start_long c.args.number, decimal_long c.args.place))

pub put-e-requires : goal.put-e-requires
put-e-requires c =
    room_behind _ (put_join (put_join (put_join c.put-a.ensures c.put_number-b.ensures) c.put-c.ensures) c.put_number-d.ensures)
    (omega (arith, join_long (refused_word ++ decimal c.args.number ++ space) (decimal c.args.place) 29 20 (refused_start_long c.args.number) (decimal_long c.args.place)))

pub slice_bounds-text-end : goal.slice_bounds-text-end
unfolding refused_line
slice_bounds-text-end c =
    let w = put_join (put_join (put_join (put_join c.put-a.ensures c.put_number-b.ensures) c.put-c.ensures) c.put_number-d.ensures) c.put-e.ensures in
    omega (arith, w.end, put-length w, refused_long c.args.number c.args.place)

pub slice_bounds-lay-end : goal.slice_bounds-lay-end
unfolding refused_line
slice_bounds-lay-end c =
    let w = put_join (put_join (put_join (put_join c.put-a.ensures c.put_number-b.ensures) c.put-c.ensures) c.put_number-d.ensures) c.put-e.ensures in
    sym (length-take-le _ _ (omega (arith, w.end, put-length w, refused_long c.args.number c.args.place)))

pub returns : goal.returns
unfolding refused_line
returns c =
    let w = put_join (put_join (put_join (put_join c.put-a.ensures c.put_number-b.ensures) c.put-c.ensures) c.put_number-d.ensures) c.put-e.ensures in
    let e = text-put w (omega (arith, refused_long c.args.number c.args.place)) in
    rw e at c.lay.ensures
