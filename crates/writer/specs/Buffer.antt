-- A run of bytes in a lent buffer, while it is being written.
use Rattle.std.specs.Prelude.{ℕ, ◌+◌, ◌≤◌, ◌≡◌, List, length}
use Rattle.std.proofs.lemmas.List.Edits.{sets}

-- There is room for the bytes xs from a place on.
pub record Room (b : List ℕ) (at : ℕ) (xs : List ℕ) : Type 0 where
  pub fits : at + length xs ≤ length b

-- The bytes xs were put into b from a place on, which gave b', and next is the place after them; all other bytes stay.
pub record Put (b : List ℕ) (at : ℕ) (b' : List ℕ) (next : ℕ) (xs : List ℕ) : Type 0 where
  pub end : next ≡ at + length xs
  pub holds : b' ≡ sets b at xs
