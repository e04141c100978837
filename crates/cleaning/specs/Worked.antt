-- Worked by hand, and computed: example E, in which domain 1 of thread 0 may not flow to domain 0 of thread 1.
use Rattle.std.specs.Prelude.{ℕ, ◌≡◌, refl, [], ◌∷◌, map}
use Rattle.basis.specs.Told.{answered}
use Rattle.example.specs.Example.{table_of, in_version, upper, lower, example}
use Rattle.cleaning.specs.declared.Cleaning.{Cleaning}
use Rattle.cleaning.specs.Cleanings.{refusing, listing}
use Rattle.cleaning.specs.Opened.{opened}

-- From thread a to thread b at step k.
abbrev at : ℕ → ℕ → ℕ → Cleaning
at k a b = record { step = k; before = a; after = b }

-- What stood in a place of the list before.
abbrev old : Cleaning
old = at 9 9 9

-- The trace of K-2: thread 0, idle for it three times, thread 1 three times, idle. One cleaning, where thread 1 starts; the second place stays.
pub waits : listing example (0 ∷ 32 ∷ 32 ∷ 32 ∷ 1 ∷ 1 ∷ 1 ∷ 255 ∷ 255 ∷ 255 ∷ []) (old ∷ old ∷ []) ≡ record { told = answered (1 ∷ []); list = at 4 0 1 ∷ old ∷ [] }
unfolding opened
waits = refl

-- Thread 0 runs again between: from 1 back to 0 nothing is cleaned, and from 0 to 1 once more.
pub twice : listing example (0 ∷ 33 ∷ 255 ∷ 1 ∷ 1 ∷ 0 ∷ 1 ∷ []) (old ∷ old ∷ old ∷ []) ≡ record { told = answered (2 ∷ []); list = at 3 0 1 ∷ at 6 0 1 ∷ old ∷ [] }
unfolding opened
twice = refl

-- The same into one place: 16, and the place stays.
pub short : listing example (0 ∷ 33 ∷ 255 ∷ 1 ∷ 1 ∷ 0 ∷ 1 ∷ []) (old ∷ []) ≡ refusing 16 (old ∷ [])
unfolding opened
short = refl

-- A trace of idle steps, and none at all: no cleaning, into a list of no place.
pub idle : map (λ trace. listing example trace []) ((32 ∷ 33 ∷ 255 ∷ []) ∷ [] ∷ []) ≡ record { told = answered (0 ∷ []); list = [] } ∷ record { told = answered (0 ∷ []); list = [] } ∷ []
unfolding opened
idle = refl

-- Bytes that name no thread of two: 2, 31, 34 and 254; 21 comes before 16.
pub unnamed : map (λ b. listing example (0 ∷ 1 ∷ b ∷ []) []) (2 ∷ 31 ∷ 34 ∷ 254 ∷ [])
    ≡ refusing 21 [] ∷ refusing 21 [] ∷ refusing 21 [] ∷ refusing 21 [] ∷ []
unfolding opened
unnamed = refl

-- A table of version 3 is not legal: 11 comes before 21.
pub bad_table : listing (in_version 3 example) (2 ∷ []) (old ∷ []) ≡ refusing 11 (old ∷ [])
unfolding opened
bad_table = refl

-- E with row 1 as 3, as in K-4: both domains flow both ways, and nothing is cleaned.
pub open_both : listing (table_of (3 ∷ 3 ∷ []) (upper ∷ lower ∷ [])) (0 ∷ 1 ∷ 0 ∷ 1 ∷ []) [] ≡ record { told = answered (0 ∷ []); list = [] }
unfolding opened
open_both = refl
