-- The two laws of the quotient rounded up: it is the least number of divisors that cover the dividend. Only they and `rounded_up` open it.
use Prim.Native.Nat.{ℕ, suc, ◌+◌, ◌*◌, ◌/◌, ◌%◌, ◌≤◌, ◌<◌}
use mathlib.Core.Path.{◌≡◌}
use native.Mathlib.Nat.{div-lt_iff_lt-mul, div-add-mod', mod-lt, lt_of_mul-lt-mul_right, suc-mul}
use native.Mathlib.Numerals.{add-one}
use native.Mathlib.Omega.{arith}
use borrow.Author.Tests.{eqb-true, eqb-false, ne_eqb}
use lib.Dec.{eqb}
use mathlib.Core.Logic.{◌≢◌}
use Rattle.basis.specs.Tests.{pick}
use Rattle.basis.specs.Ceil.{ceil}
use Rattle.basis.proofs.TestLaws.{either}

-- What holds of the quotient where nothing is left, and of one more where something is, holds of the quotient rounded up.
ceil_by : (P : ℕ → Type 0) (a b : ℕ) → 1 ≤ b → (a % b ≡ 0 → P (a / b)) → (a % b ≢ 0 → P (a / b + 1)) → P (ceil a b)
unfolding ceil pick
ceil_by P a b h exact more =
    rw (ne_eqb b 0 (omega arith))
    (either P (eqb (a % b) 0) (λ e. exact (eqb-true _ _ e)) (λ e. more (eqb-false _ _ e)))

pub ceil_least : (a b n : ℕ) → 1 ≤ b → a ≤ n * b → ceil a b ≤ n
ceil_least a b n h l =
    ceil_by (λ q. q ≤ n) a b h
    (λ e. omega (arith, (div-lt_iff_lt-mul {k = b} {x = a} {y = suc n} h).1 (omega (arith, suc-mul n b))))
    (λ d. let p : a / b * b < n * b = omega (arith, div-add-mod' a b) in omega (arith, lt_of_mul-lt-mul_right b p))

pub ceil_covers : (a b : ℕ) → 1 ≤ b → a ≤ ceil a b * b
ceil_covers a b h =
    ceil_by (λ q. a ≤ q * b) a b h (λ e. omega (arith, div-add-mod' a b))
    (λ d. omega (arith, div-add-mod' a b, mod-lt a h, suc-mul (a / b) b, add-one (a / b)))
