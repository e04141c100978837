-- What happens at some steps of a run and never twice in too short a time: each step's Bool says whether it happens there.
use Rattle.std.specs.Prelude.{ℕ, suc, ◌-◌, ◌≡◌, List, [], ◌∷◌, Bool, true, false}

-- It happens at place w at the earliest, and any two times are at least p apart.
abbrev pub Spaced : ℕ → ℕ → List Bool → Type 0
Spaced p w [] = Unit {0}
Spaced p w (true ∷ bs) = (w ≡ 0) × Spaced p (p - 1) bs
Spaced p w (false ∷ bs) = Spaced p (w - 1) bs

-- How often it happens.
unfoldable pub happened : List Bool → ℕ
happened [] = 0
happened (true ∷ bs) = suc (happened bs)
happened (false ∷ bs) = happened bs
