-- The cleanings of a recorded trace, in the bytes of the block run: i is thread i, 32 + i is idle for i, 255 is idle.
use Rattle.std.specs.Prelude.{Result, ℕ, ◌+◌, List, [], ◌∷◌, ◌++◌, Bool, true, not, length, drop, eqb, ltb, leb}
use Rattle.basis.specs.Tests.{pick, and, or}
use Rattle.basis.specs.Told.{Told, answered, refused}
use Rattle.flow.specs.Flow.{flows}
use Rattle.table.specs.Legal.{legal}
use Rattle.table.specs.Threads.{thread}
use Rattle.table.specs.declared.Table.{Table}
use Rattle.cleaning.specs.declared.Cleaning.{Cleaning}
use Rattle.basis.specs.Refusals.{told_number}
use Rattle.basis.specs.declared.refusal.Refusal.{Refusal}

-- Where no thread has run yet.
abbrev pub nobody : ℕ
nobody = 255

-- Thread a's domain may flow to thread b's.
unfoldable pub may_pass : Table → ℕ → ℕ → Bool
may_pass t a b = flows t.rows (thread t a).domain (thread t b).domain

-- At byte b, where a is who last ran before it: b is a thread, which then runs; a is a thread and another; and its domain may not flow to b's.
unfoldable pub must_clean : Table → ℕ → ℕ → Bool
must_clean t a b = and (ltb b t.count) (and (ltb a t.count) (and (not (eqb a b)) (not (may_pass t a b))))

-- Who last ran after byte b, where a did before it, of n threads: idle steps, on whosever account, do not change it.
unfoldable pub latest : ℕ → ℕ → ℕ → ℕ
latest n a b = pick (ltb b n) b a

unfoldable pub last_run : Table → ℕ → List ℕ → ℕ
last_run t a [] = a
last_run t a (b ∷ bs) = last_run t (latest t.count a b) bs

-- The cleanings of these bytes from step k on, of n threads, where a last ran before them: one pass, with one where the test says so.
unfoldable pub cleaned : (ℕ → ℕ → Bool) → ℕ → ℕ → ℕ → List ℕ → List Cleaning
cleaned must n k a [] = []
cleaned must n k a (b ∷ bs) = pick (must a b) (record { step = k; before = a; after = b } ∷ []) [] ++ cleaned must n (k + 1) (latest n a b) bs

-- Those of a trace: its first byte is step 0, and nobody ran before it.
unfoldable pub cleanings : Table → List ℕ → List Cleaning
cleanings t trace = cleaned (must_clean t) t.count 0 nobody trace

-- The byte names a thread of a table that has so many, as the one that ran or as the one idled for, or is 255.
unfoldable pub known : ℕ → ℕ → Bool
known count b = or (ltb b count) (or (and (leb 32 b) (ltb b (32 + count))) (eqb b 255))

abbrev pub all_known : ℕ → List ℕ → Bool
all_known count [] = true
all_known count (b ∷ bs) = and (known count b) (all_known count bs)

-- What a call tells, and what the lent list then holds.
pub record Outcome : Type 0 where
  pub told : Told
  pub list : List Cleaning

-- Refused: the list as it was.
abbrev pub refusing : ℕ → List Cleaning → Outcome
refusing n list = record { told = refused n; list = list }

-- 11, 21, 16; else how many cleanings there are, and these in the first places of the list.
unfoldable pub listing : Table → List ℕ → List Cleaning → Outcome
listing t trace list =
    pick (legal t)
    (pick (all_known t.count trace)
    (pick (leb (length (cleanings t trace)) (length list))
    (record { told = answered (length (cleanings t trace) ∷ []); list = cleanings t trace ++ drop (length (cleanings t trace)) list })
    (refusing 16 list))
    (refusing 21 list))
    (refusing 11 list)

-- The document's number and values of an answer.
abbrev pub told : Result ℕ Refusal → Told
told r = told_number r

-- An answer of the code, and what it left in the list.
abbrev pub outcome : Result ℕ Refusal → List Cleaning → Outcome
outcome r list = record { told = told r; list = list }
