-- A quotient rounded up: the quotient, and one more when a remainder is left. A divisor of 0 gives 0.
use Rattle.std.specs.Prelude.{ℕ, ◌+◌, ◌/◌, ◌%◌, eqb}
use Rattle.basis.specs.Tests.{pick}

unfoldable pub ceil : ℕ → ℕ → ℕ
ceil a b = pick (eqb b 0) 0 (pick (eqb (a % b) 0) (a / b) (a / b + 1))
