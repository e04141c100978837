use native.Mathlib.Omega.{arith}
-- The three parts of a table are put one after the other.
use Rattle.writer.proofs.WriterLaws.{put_join, put_room, room_part, rows-take, bytes_parts, parts_room}
use Rattle.writer.proofs.put.put_table.Goals as goal

pub write_numbers-a-requires : goal.write_numbers-a-requires
write_numbers-a-requires c =
    room_part c.requires.2 (parts_room c.args.t).0

pub write_numbers-b-requires : goal.write_numbers-b-requires
write_numbers-b-requires c = put_room c.write_numbers-a.ensures c.requires.2 (rw (rows-take c.args.t.rows c.args.t.domains (omega arith)) at (parts_room c.args.t).1)

pub write_threads-requires : goal.write_threads-requires
write_threads-requires c =
    let e = put_join c.write_numbers-a.ensures (rw (← rows-take c.args.t.rows c.args.t.domains (omega arith)) at c.write_numbers-b.ensures) in
    (c.requires.1, put_room e c.requires.2 (parts_room c.args.t).2)

pub returns : goal.returns
returns c =
    let e = put_join c.write_numbers-a.ensures (rw (← rows-take c.args.t.rows c.args.t.domains (omega arith)) at c.write_numbers-b.ensures) in
    rw (bytes_parts c.args.t) (put_join e c.write_threads.ensures)
