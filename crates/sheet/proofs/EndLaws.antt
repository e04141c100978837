-- A wrong end: the number that is given is that of its rule.
use Prim.Native.Nat.{ℕ, ◌<◌}
use mathlib.Core.Path.{◌≡◌}
use mathlib.Core.List.{List}
use mathlib.Core.Bool.{Bool, true, false}
use native.Mathlib.Omega.{arith}
use lib.ListN.{get_or}
use lib.Dec.{eqb}
use borrow.Author.Tests.{eqb-true, eqb-false, eq-eqb, ne_eqb}
use Rattle.basis.specs.Tests.{pick}
use Rattle.basis.proofs.TestLaws.{by_test}
use Rattle.sheet.specs.Sheet.{end_fault}
use Rattle.sheet.specs.SheetJudging.{WrongEnd, line-cut, line_long}

-- What the definition refuses is refused by a rule.
pub wrong_end_by : (s : List ℕ) (e : ℕ) (last : Bool) → 0 < end_fault s e last → WrongEnd s e last (end_fault s e last)
unfolding end_fault pick
wrong_end_by s e false h =
    by_test (eqb (get_or s e 0) 44)
    (λ t. let o : 0 < 0 = rw t at h in absurd (omega arith))
    (λ t. rw t (line-cut (eqb-false _ _ t)))
wrong_end_by s e true h =
    by_test (eqb (get_or s e 0) 44)
    (λ t. rw t (line_long (eqb-true _ _ t)))
    (λ t. let o : 0 < 0 = rw t at h in absurd (omega arith))

-- What a rule refuses the definition refuses with its number.
pub wrong_end_number : (s : List ℕ) (e : ℕ) (last : Bool) (why : ℕ) → WrongEnd s e last why → (end_fault s e last ≡ why) × (0 < why)
unfolding end_fault pick
wrong_end_number s e last why (line-cut n) = (rw (ne_eqb (get_or s e 0) 44 n), omega arith)
wrong_end_number s e last why (line_long q) = (rw (eq-eqb (get_or s e 0) 44 q), omega arith)
