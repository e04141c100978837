-- What the functions below the call give: the list is filled by a scan from each cleaning to the one that follows it.
use Rattle.std.specs.Prelude.{ℕ, ◌+◌, ◌/◌, ◌%◌, ◌^◌, ◌<◌, ◌≡◌, List, [], ◌∷◌, ◌++◌, Bool, not, length, get_or, take, drop, eqb, ltb, Option, Some, None, Result, Ok, Err}
use Rattle.basis.specs.Tests.{pick, and}
use Rattle.table.specs.Legal.{legal}
use Rattle.table.specs.Threads.{thread}
use Rattle.table.specs.declared.Table.{Table}
use Rattle.cleaning.specs.declared.Cleaning.{Cleaning}
use Rattle.basis.specs.declared.refusal.Refusal.{Refusal}
use Rattle.basis.specs.declared.refusal.Refusal.TheVariants.{NotLegal, NoRoom, TraceByte}
use Rattle.cleaning.specs.Cleanings.{nobody, cleaned, cleanings, all_known}

-- What stands where there is no cleaning.
abbrev pub none : Cleaning
none = record { step = 0; before = 0; after = 0 }

-- The first of a list of cleanings, if there is one.
abbrev pub first : List Cleaning → Option Cleaning
first [] = None
first (c ∷ cs) = Some c

-- What the scan is handed of a table, two numbers a thread: its domain at place i, and at place 32 + i the row of its domain.
pub record Ways (t : Table) (w : List ℕ) : Type 0 where
  pub domain : (i : ℕ) → i < 32 → get_or w i 0 ≡ (thread t i).domain
  pub row : (i : ℕ) → i < 32 → get_or w (32 + i) 0 ≡ get_or t.rows (thread t i).domain 0

-- Thread a's domain may flow to thread b's, by these numbers.
unfoldable pub passes : List ℕ → ℕ → ℕ → Bool
passes w a b = eqb (get_or w (32 + a % 32) 0 / 2 ^ (get_or w (b % 32) 0 % 16) % 2) 1

-- The test of a byte, of n threads.
unfoldable pub barred : ℕ → List ℕ → ℕ → ℕ → Bool
barred n w a b = and (ltb b n) (and (ltb a n) (and (not (eqb a b)) (not (passes w a b))))

-- The cleanings of a trace by them.
unfoldable pub scanned : ℕ → List ℕ → List ℕ → List Cleaning
scanned n w trace = cleaned (barred n w) n 0 nobody trace

-- The cleaning that follows c in a trace.
unfoldable pub following : ℕ → List ℕ → List ℕ → Cleaning → Option Cleaning
following n w trace c = first (cleaned (barred n w) n (c.step + 1) c.after (drop (c.step + 1) trace))

-- The first n of cs in the first places of a list, whose further places stay.
unfoldable pub pasted : ℕ → List Cleaning → List Cleaning → List Cleaning
pasted n cs ys = take n cs ++ drop n ys

-- What one pass tells: how many cleanings there are, if each byte passes.
unfoldable pub tallied : ℕ → List ℕ → List ℕ → Result ℕ Refusal
tallied n w trace = pick (all_known n trace) (Ok (length (scanned n w trace))) (Err TraceByte)

-- The answer, for a list of so many places.
unfoldable pub reported : Table → List ℕ → ℕ → Result ℕ Refusal
reported t trace places =
    pick (legal t)
    (pick (all_known t.count trace)
    (pick (ltb places (length (cleanings t trace))) (Err NoRoom) (Ok (length (cleanings t trace))))
    (Err TraceByte))
    (Err NotLegal)
