-- A number as text: its decimal digits in ASCII.
use Rattle.std.specs.Prelude.{ℕ, zero, suc, ◌+◌, ◌/◌, ◌%◌, List, [], ◌∷◌, ◌++◌, ltb}
use Rattle.basis.specs.Tests.{pick}

-- A digit.
abbrev pub digit : ℕ → ℕ
digit d = 48 + d

-- The digits of a number that has at most k.
unfoldable pub decimal_in : ℕ → ℕ → List ℕ
decimal_in zero n = []
decimal_in (suc k) n = pick (ltb n 10) (digit n ∷ []) (decimal_in k (n / 10) ++ (digit (n % 10) ∷ []))

-- Twenty digits hold every number of 64 bits.
unfoldable pub decimal : ℕ → List ℕ
decimal n = decimal_in 20 n
