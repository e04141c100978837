-- The rows so far are counted; each adds 16 at most.
use Rattle.mend.specs.Rows.{count}
use Rattle.std.proofs.Common.{◌*◌, ◌≤◌, ◌≡◌, length}
use Rattle.mend.proofs.pairs.count_added.Given as goal

abbrev pub invariant-loop-row : goal.invariant-loop-row
invariant-loop-row l =
    (goal.iterator-loop-row).can_next l.row-iterator
    × (goal.iterator-loop-row).is_finite l.row-iterator
    × (l.n ≡ count l.fn.rows l.fn.mended (length l.yielded))
    × (l.n ≤ 16 * length l.yielded)
