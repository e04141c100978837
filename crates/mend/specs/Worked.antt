-- Worked by hand, and computed.
use Rattle.std.specs.Prelude.{ℕ, ◌+◌, ◌*◌, ◌≡◌, refl, List, [], ◌∷◌, map, replicate}
use Rattle.basis.specs.Told.{answered, refused}
use Rattle.mend.specs.Mend.{refusing, mending}
use Rattle.mend.specs.Opened.{opened}

-- A lent list with 7 in each of its places.
abbrev sevens : ℕ → List ℕ
sevens n = replicate n 7

-- The pair from a to b, as it stands in the list.
abbrev pair : ℕ → ℕ → ℕ
pair a b = 16 * a + b

-- Rows 3, 6, 4 of K-8 gain the pair 0 to 2; the second place of the list stays.
pub three : mending (3 ∷ 6 ∷ 4 ∷ []) (sevens 2) ≡ record { told = answered (1 ∷ []); rows = 7 ∷ 6 ∷ 4 ∷ replicate 13 0; pairs = pair 0 2 ∷ 7 ∷ [] }
unfolding opened
three = refl

-- Rows 7, 6, 4 are transitive, and come back with nothing added, into a list of no place.
pub three-whole : mending (7 ∷ 6 ∷ 4 ∷ []) [] ≡ record { told = answered (0 ∷ []); rows = 7 ∷ 6 ∷ 4 ∷ replicate 13 0; pairs = [] }
unfolding opened
three-whole = refl

-- 0 to 3, 3 to 2, 2 to 1: a way down, which one pass that tries the domains between last does not find to its end.
pub down : mending (9 ∷ 2 ∷ 6 ∷ 12 ∷ []) (sevens 4)
    ≡ record { told = answered (3 ∷ []); rows = 15 ∷ 2 ∷ 6 ∷ 14 ∷ replicate 12 0; pairs = pair 0 1 ∷ pair 0 2 ∷ pair 3 1 ∷ 7 ∷ [] }
unfolding opened
down = refl

-- 0 to 3, 1 to 0, 2 to 1: the pairs in the order of the source and then the target.
pub back : mending (9 ∷ 3 ∷ 6 ∷ 8 ∷ []) (sevens 3)
    ≡ record { told = answered (3 ∷ []); rows = 9 ∷ 11 ∷ 15 ∷ 8 ∷ replicate 12 0; pairs = pair 1 3 ∷ pair 2 0 ∷ pair 2 3 ∷ [] }
unfolding opened
back = refl

-- The same with two places: 16, and the list stays.
pub short : mending (9 ∷ 3 ∷ 6 ∷ 8 ∷ []) (sevens 2) ≡ refusing (refused 16) (sevens 2)
unfolding opened
short = refl

-- No row, and 17 of them: 5, whatever the rows are.
pub bad_counts : map (λ given. mending given (sevens 1)) ([] ∷ replicate 17 0 ∷ []) ≡ refusing (refused 5) (sevens 1) ∷ refusing (refused 5) (sevens 1) ∷ []
unfolding opened
bad_counts = refl

-- A bit for domain 2 of two; a row that lacks its own; of two rows at fault the first; and 6 before 16.
pub bad-rows : map (λ given. mending given []) ((1 ∷ 6 ∷ []) ∷ (3 ∷ 1 ∷ []) ∷ (1 ∷ 0 ∷ 0 ∷ []) ∷ (3 ∷ 6 ∷ 8 ∷ []) ∷ [])
    ≡ map (λ i. refusing (record { number = 6; values = i ∷ [] }) []) (1 ∷ 1 ∷ 1 ∷ 2 ∷ [])
unfolding opened
bad-rows = refl

-- One domain, and 16 that flow everywhere: nothing is added.
pub whole-ones : map (λ given. (mending given []).told) ((1 ∷ []) ∷ replicate 16 65535 ∷ []) ≡ answered (0 ∷ []) ∷ answered (0 ∷ []) ∷ []
unfolding opened
whole-ones = refl
