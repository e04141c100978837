-- A thread is put as a line of the first of its fields, which `fields` gives and `fields_in` counts.
use Prim.Native.Nat.{◌≤◌}
use mathlib.Core.Path.{ap, sym}
use native.Mathlib.Omega.{arith}
use lib.ListN.{length}
use lib.Seq.{length-take-le}
use Rattle.table.proofs.RangeLaws.{fields_in-most}
use Rattle.sheet.proofs.put.put_thread.Goals as goal
use Rattle.sheet.proofs.put.put_thread.Goals.{After-fields_in-n}

-- The thread has as many fields.
enough : (c : After-fields_in-n) → c.fields_in-n.result ≤ length c.fields-vs.result
enough c = omega (arith, c.fields_in-n.ensures, fields_in-most c.args.version, ap length c.fields-vs.ensures)

pub slice_bounds-vs-end : goal.slice_bounds-vs-end
slice_bounds-vs-end c = enough (goal.at.slice_bounds-vs-end c).After-fields_in-n

pub slice_bounds-put_line-end : goal.slice_bounds-put_line-end
slice_bounds-put_line-end c = sym (length-take-le _ _ (enough (goal.at.slice_bounds-put_line-end c).After-fields_in-n))

pub put_line-requires : goal.put_line-requires
put_line-requires c =
    rw (c.fields_in-n.ensures, c.fields-vs.ensures) c.requires

pub returns : goal.returns
returns c =
    rw (c.fields_in-n.ensures, c.fields-vs.ensures) at c.put_line.ensures
