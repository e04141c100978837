-- Q-14: the worst count of a table, known before any search.
use Rattle.std.specs.Prelude.{ℕ, [], ◌∷◌}
use Rattle.basis.specs.Tests.{pick}
use Rattle.basis.specs.Told.{Told, answered, refused}
use Rattle.table.specs.Legal.{legal}
use Rattle.table.specs.declared.Table.{Table}
use Rattle.admission.specs.Demand.{sum}
use Rattle.admission.specs.Tried.{most_tried}

-- The sum of D - W + 1 over all threads.
unfoldable pub worst : Table → ℕ
worst t = sum t.count (most_tried t)

-- 11, or the worst count.
unfoldable pub worst_given : Table → Told
worst_given t = pick (legal t) (answered (worst t ∷ [])) (refused 11)
