-- Of the first c pairs those added stand in the first n places, and the further places stay.
use Rattle.std.proofs.Common.{◌≡◌, ◌++◌, length, drop}
use Rattle.mend.specs.Rows.{added}
use Rattle.mend.proofs.pairs.list_added.Given as goal

abbrev pub invariant-loop-c : goal.invariant-loop-c
invariant-loop-c l = (l.n ≡ length (added l.rows l.mended l.c)) × (l.pairs ≡ added l.rows l.mended l.c ++ drop l.n l.initial.pairs)
