-- A search in order: the answers to the numbers from 0 up, and the first that was found.
use Rattle.std.specs.Prelude.{ℕ, zero, suc, List, [], ◌∷◌, ◌++◌}

pub data Sought (A : Type 0) : Type 0 where
  nothing : Sought A
  found : A → Sought A

abbrev pub or_else : {A : Type 0} → Sought A → Sought A → Sought A
or_else nothing s = s
or_else (found a) s = found a

-- The first answer that was found among f 0 up to f (n - 1).
unfoldable pub first : {A : Type 0} → ℕ → (ℕ → Sought A) → Sought A
first zero f = nothing
first (suc n) f = or_else (first n f) (f n)

-- The list of f 0 up to f (n - 1).
unfoldable pub listed : {A : Type 0} → ℕ → (ℕ → A) → List A
listed zero f = []
listed (suc n) f = listed n f ++ (f n ∷ [])
