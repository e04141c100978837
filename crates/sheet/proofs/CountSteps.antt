-- The numbers that end in bytes, as the library counts them.
use Prim.Native.Nat.{ℕ, ◌+◌}
use mathlib.Core.Path.{◌≡◌, refl}
use mathlib.Core.List.{List, ◌∷◌}
use native.Mathlib.Omega.{arith}
use lib.Dec.{ltb}
use Rattle.std.proofs.Common.{cond}
use Rattle.std.specs.List.{count_by}
use Rattle.std.proofs.lemmas.List.Recursion.{is_count_by}
use Rattle.basis.specs.Tests.{pick}
use Rattle.basis.proofs.TestLaws.{by_test}
use Rattle.sheet.specs.Scan.{numbers_in}

counted-next : (b : ℕ) (bs : List ℕ) → numbers_in (b ∷ bs) ≡ cond (ltb b 128) (1 + numbers_in bs) (numbers_in bs)
unfolding numbers_in pick
counted-next b bs = by_test (ltb b 128) (λ e. rw e) (λ e. rw e (omega arith))

pub numbers-counted : (bs : List ℕ) → numbers_in bs ≡ count_by (λ b. ltb b 128) bs
unfolding numbers_in
numbers-counted = is_count_by numbers_in (λ b. ltb b 128) refl counted-next
