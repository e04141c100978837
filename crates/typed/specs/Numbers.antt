-- The number that a field or a word is. Zeros in front are allowed here; a line of rows has none.
use Rattle.std.specs.Prelude.{ℕ, ◌+◌, ◌-◌, ◌*◌, min, List, [], ◌∷◌, Bool, true, false, not, eqb, ltb, ℤ, pos, neg_ℤ, Option, None, Some}
use Rattle.basis.specs.Tests.{pick, and}
use Rattle.typed.specs.Fields.{Field, most, is_digit, blank, taken}

-- A word as a number.
pub data Argument : Type 0 where
  Number : ℕ → Argument
  NoNumber : Argument

-- A number with a sign, from -1,000,000 to 1,000,000; 0 where it is none.
pub record Signed : Type 0 where
  pub number : Bool
  pub value : ℤ

-- What the code gives for a word.
abbrev pub argument_of : Option ℕ → Argument
argument_of None = NoNumber
argument_of (Some n) = Number n

-- A minus sign stands first.
abbrev pub minus : Field → Bool
minus f = eqb f.first 0x2D

-- Digits only, and one at least.
unfoldable pub is_plain : Field → Bool
is_plain f = and (not f.strange) (and (ltb 0 f.size) (not (minus f)))

-- Digits, one at least, with or without a minus sign in front.
unfoldable pub is_signed : Field → Bool
is_signed f = and (not f.strange) (ltb (pick (minus f) 1 0) f.size)

-- The value with its sign, drawn to -1,000,000 and 1,000,000.
unfoldable pub signed_value : Field → ℤ
signed_value f = pick (minus f) (neg_ℤ (pos (min f.value 1000000))) (pos (min f.value 1000000))

abbrev pub not_signed : Signed
not_signed = record { number = false; value = pos 0 }

-- What the code gives for a number with a sign.
abbrev pub signed_of : Option ℤ → Signed
signed_of None = not_signed
signed_of (Some z) = record { number = true; value = z }

unfoldable pub signed : Field → Signed
signed f = pick (is_signed f) (record { number = true; value = signed_value f }) not_signed

-- A command is a line that is one such number.
unfoldable pub command : Field → Signed
command f = pick (eqb f.ended 2) (signed f) not_signed

-- All characters of a word as one field.
unfoldable pub spelt : Field → List ℕ → Field
spelt f [] = f
spelt f (b ∷ s) = spelt (taken f b) s

-- A word as a number.
unfoldable pub plain : Field → Argument
plain f = pick (is_plain f) (Number f.value) NoNumber

unfoldable pub argument : List ℕ → Argument
argument word = plain (spelt (blank 0) word)

-- A word as a number with or without a sign.
unfoldable pub signed_word : List ℕ → Signed
signed_word word = signed (spelt (blank 0) word)

-- Each character is a digit.
unfoldable pub all_digits : List ℕ → Bool
all_digits [] = true
all_digits (b ∷ s) = and (is_digit b) (all_digits s)

-- The value of the digits s behind digits of the value v.
unfoldable pub value_from : ℕ → List ℕ → ℕ
value_from v [] = v
value_from v (b ∷ s) = value_from (v * 10 + (b - 0x30)) s

-- The plain reading of a word: a number where it has a character and each one is a digit. That it is `argument` is the law `argument_reads`.
unfoldable pub argument_read : List ℕ → Argument
argument_read [] = NoNumber
argument_read (b ∷ s) = pick (all_digits (b ∷ s)) (Number (min (value_from 0 (b ∷ s)) most)) NoNumber
