-- Writing a table into a lent buffer from a place on.
use Rattle.std.specs.Prelude.{ℕ, ◌+◌, ◌≤◌, ◌<◌, ◌≡◌, List, [], ◌∷◌, ◌++◌, length, get_or, take, drop, leb, Result}
use Rattle.basis.specs.Tests.{pick}
use Rattle.basis.specs.Told.{Told, answered, refused}
use Rattle.table.specs.Legal.{legal}
use Rattle.table.specs.declared.Table.{Table}
use Rattle.basis.specs.Refusals.{told_number}
use Rattle.basis.specs.declared.refusal.Refusal.{Refusal}
use Rattle.writer.specs.Format.{bytes}

-- The buffer b with xs in place of what stood there from a place on; all other bytes stay.
unfoldable pub overlaid : List ℕ → ℕ → List ℕ → List ℕ
overlaid b at xs = take at b ++ xs ++ drop (at + length xs) b

-- 11, then 16; else the place after the last byte written.
unfoldable pub writing : List ℕ → ℕ → Table → Told
writing b at t =
    pick (legal t) (pick (leb (at + length (bytes t)) (length b)) (answered ((at + length (bytes t)) ∷ [])) (refused 16)) (refused 11)

-- What the buffer then holds: on a refusal what it held.
unfoldable pub written : List ℕ → ℕ → Table → List ℕ
written b at t = pick (legal t) (pick (leb (at + length (bytes t)) (length b)) (overlaid b at (bytes t)) b) b

-- Document 01's number and values of an answer.
abbrev pub told : Result ℕ Refusal → Told
told r = told_number r

-- The plain reading of a buffer b that then holds c: xs stand from a place up to next, and every byte outside them stays.
pub record Laid (b : List ℕ) (at next : ℕ) (xs c : List ℕ) : Type 0 where
  pub part : drop at (take next c) ≡ xs
  pub before : (i : ℕ) → i < at → get_or c i 0 ≡ get_or b i 0
  pub behind : (i : ℕ) → next ≤ i → get_or c i 0 ≡ get_or b i 0
  pub long : length c ≡ length b
