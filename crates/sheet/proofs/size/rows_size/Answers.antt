-- The size of the line of the first n rows.
use Prim.Native.Nat.{◌≤◌}
use mathlib.Core.Path.{◌≡◌, sym}
use native.Mathlib.Omega.{arith}
use lib.ListN.{length}
use lib.Seq.{length-take-le}
use Rattle.sheet.proofs.LineLaws.{rows_taken}
use borrow.Author.Rules.{rules}
use Rattle.sheet.proofs.size.rows_size.Goals as goal
use Rattle.sheet.proofs.size.rows_size.Goals.{Start}

-- There are as many rows.
enough : (c : Start) → c.args.n ≤ length c.args.rows
enough c =
    let e : length c.args.rows ≡ 16 = search rules in
    omega (arith, c.requires)

pub slice_bounds-line_size-end : goal.slice_bounds-line_size-end
slice_bounds-line_size-end c = sym (length-take-le _ _ (enough (goal.at.slice_bounds-line_size-end c).Start))

pub line_size-requires : goal.line_size-requires
line_size-requires c = rw (length-take-le _ _ (enough (goal.at.line_size-requires c).Start)) c.requires

pub returns : goal.returns
returns c =
    (rw (rows_taken _ _ (enough (goal.at.returns c).Start)) c.line_size.ensures.0, omega (arith, c.requires, c.line_size.ensures.1, length-take-le c.args.n c.args.rows (enough (goal.at.returns c).Start)))
