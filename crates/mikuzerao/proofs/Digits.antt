-- A number's digits are what `{}` writes of it.
use Rattle.std.proofs.Common.{◌≡◌, ℕ, suc, ◌<◌, ◌≤◌, ◌/◌, ◌%◌, ◌^◌, ◌+◌, List, [], ◌∷◌, ◌++◌, length, arith}
use Rattle.std.specs.Fmt.{decimal as written}
use Rattle.std.proofs.lemmas.Fmt.{AppendsLastDigit, decimal_from_appends, length-decimal-le}
use Rattle.std.proofs.lemmas.Bool.Decides.{nat_tests}
use Rattle.basis.specs.Tests.{pick}
use Rattle.decimal.specs.Decimal.{decimal_in, decimal}

appends : AppendsLastDigit decimal_in
unfolding pick decimal_in
appends = record { one = λ k n small. grind (arith, nat_tests); more = λ k n large. grind (arith, nat_tests) }

pub same_digits : (n : ℕ) → n < 2 ^ 64 → decimal n ≡ written n
unfolding decimal
same_digits n fits = decimal_from_appends decimal_in appends 20 n fits (length-decimal-le 20 n (omega arith) (omega arith) fits)
