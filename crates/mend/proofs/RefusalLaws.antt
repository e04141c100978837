-- The first row that does not pass, while it is searched for.
use Prim.Native.Nat.{ℕ}
use mathlib.Core.Path.{◌≡◌}
use mathlib.Core.List.{List}
use mathlib.Core.Bool.{true, false}
use lib.ListN.{get_or}
use Rattle.basis.specs.Tests.{pick}
use Rattle.basis.specs.Search.{nothing, found}
use Rattle.flow.specs.Flow.{row_ok}
use Rattle.mend.specs.Mend.{bad_at, bad_row, sought}
use Rattle.basis.proofs.SearchLaws.{first-all, first_hit}
use Rattle.std.specs.Prelude.{Option, Some, None, MatchOption, ◌≤◌, ◌<◌}
use mathlib.Core.Path.{sym}
use native.Mathlib.Omega.{arith}

pub bad-none : (d : ℕ) (rows : List ℕ) (i : ℕ) → row_ok d i (get_or rows i 0) ≡ true → bad_at d rows i ≡ nothing
unfolding bad_at pick
bad-none d rows i e = rw e

pub bad_hit : (d : ℕ) (rows : List ℕ) (i : ℕ) → row_ok d i (get_or rows i 0) ≡ false → bad_at d rows i ≡ found i
unfolding bad_at pick
bad_hit d rows i e = rw e

-- What a search of the first d rows for one that does not pass answers.
pub row_found : (d : ℕ) (rows : List ℕ) (r : Option ℕ)
    → MatchOption r ((k : ℕ) → 0 ≤ k → k < d → row_ok d k (get_or rows k 0) ≡ true)
    (λ i. (0 ≤ i) × (i < d) × (row_ok d i (get_or rows i 0) ≡ false) × ((k : ℕ) → 0 ≤ k → k < i → row_ok d k (get_or rows k 0) ≡ true))
    → sought r ≡ bad_row d rows
unfolding bad_row
row_found d rows None h = sym (first-all (bad_at d rows) d (λ k l. bad-none d rows k (h k (omega arith) l)))
row_found d rows (Some i) h = sym (first_hit (bad_at d rows) i d i (first-all (bad_at d rows) i (λ k l. bad-none d rows k (h.3 k (omega arith) l))) (bad_hit d rows i h.2) h.1)
