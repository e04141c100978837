-- A number in the bytes of a table: groups of seven bits, lowest first; a byte of 128 or more says that another follows.
use Rattle.std.specs.Prelude.{ℕ, ◌+◌, ◌-◌, ◌*◌, ◌/◌, ◌%◌, List, [], ◌∷◌, ◌++◌, drop, eqb, ltb, leb, Result, Ok, Err}
use Rattle.basis.specs.Tests.{pick}
use Rattle.basis.specs.Told.{Told, answered, refused}
use Rattle.basis.specs.Refusals.{number as number_of}
use Rattle.basis.specs.declared.refusal.Refusal.{Refusal}
use Rattle.numeral.specs.declared.Numeral.{Numeral}

-- A number and the place after it, or document 01's number for what refuses it.
pub data Number : Type 0 where
  Value : ℕ → ℕ → Number
  Refused : ℕ → Number

-- The third byte, at a place, where the first two give v: missing 1, its top bit set 3, a last byte of 0 2, above 65,535 3.
unfoldable pub third : ℕ → ℕ → List ℕ → Number
third at v [] = Refused 1
third at v (b ∷ s) =
    pick (leb 128 b) (Refused 3)
    (pick (eqb b 0) (Refused 2)
    (pick (ltb 65535 (v + 16384 * b)) (Refused 3)
    (Value (v + 16384 * b) (at + 1))))

-- The second byte, at a place, where the first gives v.
unfoldable pub second : ℕ → ℕ → List ℕ → Number
second at v [] = Refused 1
second at v (b ∷ s) =
    pick (eqb b 0) (Refused 2)
    (pick (ltb b 128) (Value (v + 128 * b) (at + 1))
    (third (at + 1) (v + 128 * (b - 128)) s))

-- The number that starts at a place, from the bytes that stand there: its value and the place after it, or the refusal.
unfoldable pub number : ℕ → List ℕ → Number
number at [] = Refused 1
number at (b ∷ s) = pick (ltb b 128) (Value b (at + 1)) (second (at + 1) (b - 128) s)

unfoldable pub number_at : List ℕ → ℕ → Number
number_at s at = number at (drop at s)

-- What an answer of the code gives.
abbrev pub given : Result Numeral Refusal → Number
given (Ok n) = Value n.value n.next
given (Err why) = Refused (number_of why)

-- Document 01's number and values of an answer.
abbrev pub told : Number → Told
told (Value v next) = answered (v ∷ next ∷ [])
told (Refused why) = refused why

-- The bytes of a number, in its shortest form.
unfoldable pub encode : ℕ → List ℕ
encode v =
    pick (ltb v 128) (v ∷ [])
    (pick (ltb v 16384) ((128 + v % 128) ∷ (v / 128) ∷ [])
    ((128 + v % 128) ∷ (128 + v / 128 % 128) ∷ (v / 16384) ∷ []))

-- The bytes of several numbers, one after the other.
unfoldable pub encode_all : List ℕ → List ℕ
encode_all [] = []
encode_all (v ∷ vs) = encode v ++ encode_all vs
