-- The three parts of a text are put one after the other.
use Rattle.writer.proofs.WriterLaws.{put_join, put_room, room_part}
use Rattle.sheet.proofs.LineLaws.{text_parts, parts_room}
use Rattle.sheet.proofs.put.put_text.Goals as goal

pub put_line-a-requires : goal.put_line-a-requires
put_line-a-requires c =
    room_part c.requires.2 (parts_room c.args.t).0

pub put_rows-b-requires : goal.put_rows-b-requires
put_rows-b-requires c =
    (c.requires.0, put_room c.put_line-a.ensures c.requires.2 (parts_room c.args.t).1)

pub put_threads-requires : goal.put_threads-requires
put_threads-requires c =
    let e = put_join c.put_line-a.ensures
    c.put_rows-b.ensures in
    (c.requires.1, put_room e c.requires.2 (parts_room c.args.t).2)

pub returns : goal.returns
returns c =
    let e = put_join c.put_line-a.ensures
    c.put_rows-b.ensures in
    rw (text_parts c.args.t) (put_join e c.put_threads.ensures)
