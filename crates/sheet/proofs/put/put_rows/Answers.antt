-- The rows are put as a line of the first n.
use Prim.Native.Nat.{ℕ, ◌≤◌}
use mathlib.Core.Path.{◌≡◌, sym}
use native.Mathlib.Omega.{arith}
use mathlib.Core.List.{List}
use lib.ListN.{length}
use lib.Seq.{length-take-le}
use Rattle.sheet.proofs.LineLaws.{rows_taken}
use borrow.Author.Rules.{rules}
use Rattle.sheet.proofs.put.put_rows.Goals as goal

-- There are as many rows.
enough : (rows : List ℕ) (n : ℕ) → length rows ≡ 16 → n ≤ 16 → n ≤ length rows
enough rows n e h = omega arith

pub slice_bounds-put_line-end : goal.slice_bounds-put_line-end
slice_bounds-put_line-end c = sym (length-take-le _ _ (enough c.args.rows c.args.n (search rules) c.requires.0))

pub put_line-requires : goal.put_line-requires
put_line-requires c = rw (rows_taken _ _ (enough c.args.rows c.args.n (search rules) c.requires.0)) at c.requires.1

pub returns : goal.returns
returns c = rw (rows_taken _ _ (enough c.args.rows c.args.n (search rules) c.requires.0)) c.put_line.ensures
