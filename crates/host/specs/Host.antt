-- What the host in C is told: numbers, with 100,000 and the number for a refusal.
use Rattle.std.specs.Prelude.{ℕ, ◌+◌, ◌≤◌, ◌<◌, ◌≡◌, ◌≢◌, List, [], ◌∷◌, get_or, eqb, ltb, Some, None}
use Rattle.basis.specs.Tests.{pick}
use Rattle.basis.specs.Told.{Told}
use Rattle.basis.specs.Search.{nothing}
use Rattle.table.specs.Mark.{Mark, mark, marks_given}
use Rattle.table.specs.declared.Table.{Table}
use Rattle.reader.specs.Reader.{reading}
use Rattle.admission.specs.Bounded.{bounding, NoBound}

-- The reader's verdict on the bytes: 0, or the refusal.
unfoldable pub verdict : List ℕ → ℕ
verdict s = (reading s).told.number

-- A refusal, apart from every mark and bound.
abbrev pub refusal : ℕ → ℕ
refusal n = 100000 + n

-- An answer about thread i of the table in the bytes, or the refusal: the reader's, then 15.
unfoldable pub of_thread : (Table → ℕ → ℕ) → List ℕ → ℕ → ℕ
of_thread f s i =
    pick (eqb (verdict s) 0) (pick (ltb i (reading s).table.count) (f (reading s).table i) (refusal 15)) (refusal (verdict s))

-- A mark as a number: the thread that it protects, 255 for none.
abbrev pub mark_told : Mark → ℕ
mark_told (Some j) = j
mark_told None = 255

unfoldable pub mark_number : Table → ℕ → ℕ
mark_number t i = mark_told (get_or (marks_given t) i (mark nothing))

-- The one value of an answer, 0 for none, or the refusal.
abbrev pub value_or_0 : List ℕ → ℕ
value_or_0 [] = 0
value_or_0 (x ∷ xs) = x

unfoldable pub told_number : Told → ℕ
told_number r = pick (eqb r.number 0) (value_or_0 r.values) (refusal r.number)

-- The bound of a thread, 0 for none.
unfoldable pub bound_number : Table → ℕ → ℕ
bound_number t i = told_number (bounding t i)

unfoldable pub thread_mark : List ℕ → ℕ → ℕ
thread_mark s i = of_thread mark_number s i

unfoldable pub thread_bound : List ℕ → ℕ → ℕ
thread_bound s i = of_thread bound_number s i

-- What a question about thread i is refused with, in plain words: the reader's number, or 15 where the table lacks the thread.
pub data Refuses (s : List ℕ) (i : ℕ) : ℕ → Type 0 where
  not_read : verdict s ≢ 0 → Refuses s i (verdict s)
  no_thread : verdict s ≡ 0 → (reading s).table.count ≤ i → Refuses s i 15

-- It is refused with some number.
pub record Refused (s : List ℕ) (i : ℕ) : Type 0 where
  pub number : ℕ
  pub refuses : Refuses s i number

-- The bytes hold a table with a thread i, and the thread has no bound.
pub record WithoutBound (s : List ℕ) (i : ℕ) : Type 0 where
  pub read : verdict s ≡ 0
  pub in_table : i < (reading s).table.count
  pub none : NoBound (reading s).table i
