-- What an answer tells: document 01's number (0: not refused), and the values that go with it.
use Rattle.std.specs.Prelude.{ℕ, List, []}

pub record Told : Type 0 where
  pub number : ℕ
  pub values : List ℕ

-- Not refused, with these values.
abbrev pub answered : List ℕ → Told
answered vs = record { number = 0; values = vs }

-- Refused with a number that has no values.
abbrev pub refused : ℕ → Told
refused n = record { number = n; values = [] }
