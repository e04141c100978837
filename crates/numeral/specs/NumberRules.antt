-- What stands first in a run of bytes, in document 01's words: no number, with 1, 2 or 3, or a number with its value.
use Rattle.std.specs.Prelude.{ℕ, ◌+◌, ◌-◌, ◌*◌, ◌≤◌, ◌<◌, ◌≡◌, List, [], ◌∷◌, ◌++◌, length, get_or, drop}
use Rattle.numeral.specs.Number.{Number, Value, Refused, encode}

-- What the type `&[u8]` says of a list: each element is a byte.
pub record Bytes (s : List ℕ) : Type 0 where
  pub each : (i : ℕ) → get_or s i 0 < 256

-- The value of three bytes: seven bits of each, lowest first.
abbrev pub of_three : ℕ → ℕ → ℕ → ℕ
of_three a b c = a - 128 + 128 * (b - 128) + 16384 * c

-- The bytes start with no number, and this is given; a byte of 128 or more has its top bit set, so that another is wanted.
pub data NoNumber : List ℕ → ℕ → Type 0 where
  -- a byte wanted but missing gives 1
  first-missing : NoNumber [] 1
  second-missing : (a : ℕ) → 128 ≤ a → NoNumber (a ∷ []) 1
  third-missing : (a b : ℕ) → 128 ≤ a → 128 ≤ b → NoNumber (a ∷ b ∷ []) 1
  -- a third byte with its top bit set gives 3
  third-goes_on : (a b c : ℕ) (s : List ℕ) → 128 ≤ a → 128 ≤ b → 128 ≤ c → NoNumber (a ∷ b ∷ c ∷ s) 3
  -- a last byte of 0 after another byte gives 2
  second-zero : (a : ℕ) (s : List ℕ) → 128 ≤ a → NoNumber (a ∷ 0 ∷ s) 2
  third-zero : (a b : ℕ) (s : List ℕ) → 128 ≤ a → 128 ≤ b → NoNumber (a ∷ b ∷ 0 ∷ s) 2
  -- a value above 65,535 gives 3
  too_large : (a b c : ℕ) (s : List ℕ) → 128 ≤ a → 128 ≤ b → 1 ≤ c → c < 128 → 65535 < of_three a b c → NoNumber (a ∷ b ∷ c ∷ s) 3

-- The bytes, of which the first stands at a place, start with a number: its value, and the place after it.
pub data NumberValue (at : ℕ) : List ℕ → ℕ → ℕ → Type 0 where
  one_byte : (a : ℕ) (s : List ℕ) → a < 128 → NumberValue at (a ∷ s) a (at + 1)
  two_bytes : (a b : ℕ) (s : List ℕ) → 128 ≤ a → 1 ≤ b → b < 128 → NumberValue at (a ∷ b ∷ s) (a - 128 + 128 * b) (at + 2)
  three-bytes : (a b c : ℕ) (s : List ℕ) → 128 ≤ a → 128 ≤ b → 1 ≤ c → c < 128 → of_three a b c ≤ 65535
      → NumberValue at (a ∷ b ∷ c ∷ s) (of_three a b c) (at + 3)

-- What an answer says of the bytes, of which the first stands at a place.
abbrev pub Rule : ℕ → List ℕ → Number → Type 0
Rule at s (Value v next) = NumberValue at s v next
Rule at s (Refused why) = NoNumber s why

-- The bytes s, of which the first stands at a place, start with the shortest bytes of v, and next is the place after these.
pub record Stands (at v next : ℕ) (s : List ℕ) : Type 0 where
  pub small : v < 65536
  pub next_place : next ≡ at + length (encode v)
  pub bytes : s ≡ encode v ++ drop (length (encode v)) s
