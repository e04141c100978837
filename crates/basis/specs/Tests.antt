-- Tests that compute, and the choice between two values by a test.
use Rattle.std.specs.Prelude.{ℕ, zero, suc, Bool, true, false}

-- The first value where the test holds, the second where it does not.
unfoldable pub pick : {A : Type 0} → Bool → A → A → A
pick true a b = a
pick false a b = b

abbrev pub and : Bool → Bool → Bool
and true b = b
and false b = false

abbrev pub or : Bool → Bool → Bool
or true b = true
or false b = b

-- Every number below n passes the test.
unfoldable pub every : ℕ → (ℕ → Bool) → Bool
every zero f = true
every (suc n) f = and (every n f) (f n)

-- Some number below n passes the test.
unfoldable pub some : ℕ → (ℕ → Bool) → Bool
some zero f = false
some (suc n) f = or (some n f) (f n)
