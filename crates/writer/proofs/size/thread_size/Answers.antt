-- A thread's size is that of the first of its fields, which `fields` gives and `fields_in` counts.
use lib.Seq.{length-take-le}
use Rattle.table.proofs.RangeLaws.{fields_in-most}
use Rattle.writer.proofs.WriterLaws.{enough}
use mathlib.Core.Path.{sym}
use native.Mathlib.Omega.{arith}
use Rattle.writer.proofs.size.thread_size.Goals as goal

pub slice_bounds-vs-end : goal.slice_bounds-vs-end
slice_bounds-vs-end c = enough _ _ _ _ c.fields-vs.ensures c.fields_in-n.ensures

pub slice_bounds-numbers_size-end : goal.slice_bounds-numbers_size-end
slice_bounds-numbers_size-end c = sym (length-take-le _ _ (enough _ _ _ _ c.fields-vs.ensures c.fields_in-n.ensures))

pub returns : goal.returns
returns c = (
  rw (c.fields_in-n.ensures, c.fields-vs.ensures) at c.numbers_size.ensures.0,
  omega (arith, length-take-le c.fields_in-n.result c.fields-vs.result (enough _ _ _ _ c.fields-vs.ensures c.fields_in-n.ensures), fields_in-most c.args.version),
)
