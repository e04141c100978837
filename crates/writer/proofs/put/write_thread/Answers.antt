-- A thread is put as the first of its fields, which `fields` gives and `fields_in` counts.
use mathlib.Core.Path.{sym}
use lib.Seq.{length-take-le}
use Rattle.writer.proofs.WriterLaws.{enough}
use Rattle.writer.proofs.put.write_thread.Goals as goal

pub slice_bounds-vs-end : goal.slice_bounds-vs-end
slice_bounds-vs-end c = enough _ _ _ _ c.fields-vs.ensures c.fields_in-n.ensures

pub slice_bounds-write_numbers-end : goal.slice_bounds-write_numbers-end
slice_bounds-write_numbers-end c = sym (length-take-le _ _ (enough _ _ _ _ c.fields-vs.ensures c.fields_in-n.ensures))

pub write_numbers-requires : goal.write_numbers-requires
write_numbers-requires c =
    rw (c.fields_in-n.ensures, c.fields-vs.ensures) c.requires

pub returns : goal.returns
returns c =
    rw (c.fields_in-n.ensures, c.fields-vs.ensures) at c.write_numbers.ensures
