-- The size of the line of the first of a thread's fields, which `fields` gives and `fields_in` counts.
use Prim.Native.Nat.{◌≤◌}
use mathlib.Core.Path.{ap, sym}
use native.Mathlib.Omega.{arith}
use lib.ListN.{length}
use lib.Seq.{length-take-le}
use Rattle.table.proofs.RangeLaws.{fields_in-most}
use Rattle.sheet.proofs.size.thread_size.Goals as goal
use Rattle.sheet.proofs.size.thread_size.Goals.{After-fields_in-n}

-- The thread has as many fields, and eight at most.
enough : (c : After-fields_in-n) → (c.fields_in-n.result ≤ length c.fields-vs.result) × (c.fields_in-n.result ≤ 8)
enough c = omega (arith, c.fields_in-n.ensures, fields_in-most c.args.version, ap length c.fields-vs.ensures)

pub slice_bounds-vs-end : goal.slice_bounds-vs-end
slice_bounds-vs-end c = (enough c).0

pub slice_bounds-line_size-end : goal.slice_bounds-line_size-end
slice_bounds-line_size-end c = sym (length-take-le _ _ (enough (goal.at.slice_bounds-line_size-end c).After-fields_in-n).0)

pub line_size-requires : goal.line_size-requires
line_size-requires c = let e = enough (goal.at.line_size-requires c).After-fields_in-n in rw (length-take-le _ _ e.0) (omega (arith, e.1))

pub returns : goal.returns
returns c =
    let e = enough (goal.at.returns c).After-fields_in-n in (
      rw (c.fields_in-n.ensures, c.fields-vs.ensures) at c.line_size.ensures.0,
      omega (arith, c.line_size.ensures.1, length-take-le c.fields_in-n.result c.fields-vs.result e.0, e.1),
    )
