-- Admission: all bounds, or the first thread in table order that has none.
use Rattle.std.specs.Prelude.{ℕ, suc, ◌-◌, ◌≤◌, ◌<◌, ◌≡◌, true, false, List, [], ◌∷◌, ◌++◌, length, get_or, replicate, Result, Ok, Err, option_to_list}
use Rattle.basis.specs.Tests.{pick}
use Rattle.basis.specs.Search.{Sought, nothing, found, first, listed}
use Rattle.basis.specs.Told.{Told, answered, refused}
use Rattle.table.specs.Legal.{legal}
use Rattle.table.specs.declared.Table.{Table}
use Rattle.admission.specs.Bounded.{bound, sought_told, IsBound, NoBound}
use Rattle.admission.specs.Tried.{tried, IsCount}
use Rattle.basis.specs.Refusals.{told_by}
use Rattle.basis.specs.declared.refusal.Refusal.{Refusal}
use Rattle.admission.specs.declared.Admission.{Admission}

-- Thread i, if it has no bound.
abbrev pub lacking : ℕ → Sought ℕ → Sought ℕ
lacking i nothing = found i
lacking i (found x) = nothing

unfoldable pub without_bound : Table → ℕ → Sought ℕ
without_bound t i = lacking i (bound t i)

-- The first thread in table order that has no bound.
unfoldable pub first_without : Table → Sought ℕ
first_without t = first t.count (without_bound t)

-- A bound as a number: 0 where there is none.
abbrev pub or_zero : Sought ℕ → ℕ
or_zero nothing = 0
or_zero (found x) = x

unfoldable pub bound_number : Table → ℕ → ℕ
bound_number t i = or_zero (bound t i)

-- The bound of each thread; a place past the last thread has 0.
unfoldable pub bounds_of : Table → List ℕ
bounds_of t = listed t.count (bound_number t) ++ replicate (32 - t.count) 0

-- 11, then the first thread that has no bound, or no value where every thread has one.
unfoldable pub admitting : Table → Told
admitting t = pick (legal t) (sought_told (first_without t)) (refused 11)

-- What stands where nothing was found, and zeros where something was.
abbrev pub unless : Sought ℕ → List ℕ → List ℕ
unless nothing bs = bs
unless (found i) bs = replicate 32 0

-- What is given beside: all bounds of a table that is admitted, zeros otherwise.
unfoldable pub bounds_given : Table → List ℕ
bounds_given t = pick (legal t) (unless (first_without t) (bounds_of t)) (replicate 32 0)

-- How many threads are searched: all, or up to and with the first that has no bound.
abbrev pub up_to : ℕ → Sought ℕ → ℕ
up_to n nothing = n
up_to n (found i) = suc i

unfoldable pub searched : Table → ℕ
searched t = up_to t.count (first_without t)

-- The count of each of the first n threads; a place behind them has 0.
unfoldable pub counts_of : Table → ℕ → List ℕ
counts_of t n = listed n (tried t) ++ replicate (32 - n) 0

-- The counts that are given beside: of each thread searched, and zeros on a refusal.
unfoldable pub counts_given : Table → List ℕ
counts_given t = pick (legal t) (counts_of t (searched t)) (replicate 32 0)

-- Document 01's number and values of an answer.
abbrev pub told : Result Admission Refusal → Told
told r = told_by (λ (a : Admission). option_to_list a.without) r

-- The bounds and the counts beside it: zeros on a refusal.
abbrev pub bounds_in : Result Admission Refusal → List ℕ
bounds_in (Ok a) = a.bounds
bounds_in (Err why) = replicate 32 0

abbrev pub counts_in : Result Admission Refusal → List ℕ
counts_in (Ok a) = a.tried
counts_in (Err why) = replicate 32 0

-- Thread i has a bound.
pub record HasBound (t : Table) (i : ℕ) : Type 0 where
  pub steps : ℕ
  pub is : IsBound t i steps

-- 32 numbers: the count of each of the first n threads, and zeros behind them.
pub record Counted (t : Table) (n : ℕ) (ns : List ℕ) : Type 0 where
  pub places : length ns ≡ 32
  pub counts : (i : ℕ) → i < n → IsCount t i (get_or ns i 0)
  pub zeros : (i : ℕ) → n ≤ i → get_or ns i 0 ≡ 0

-- What `admit` tells and gives beside, in plain words: one row for each case, and an answer is given in its row only.
pub data AdmitAnswer (t : Table) : Told → List ℕ → List ℕ → Type 0 where
  -- 11 and zeros: the table is not legal
  not-legal : legal t ≡ false → AdmitAnswer t (refused 11) (replicate 32 0) (replicate 32 0)
  -- thread i and no bounds: it has no bound, and every thread before it has one; the counts up to and with thread i
  without : legal t ≡ true → (i : ℕ) → i < t.count → NoBound t i → ((j : ℕ) → j < i → HasBound t j)
      → (ns : List ℕ) → Counted t (suc i) ns → AdmitAnswer t (answered (i ∷ [])) (replicate 32 0) ns
  -- admitted: 32 numbers, the bound of each thread and zeros past the last; the counts of all threads
  admitted : legal t ≡ true → (bs : List ℕ) → length bs ≡ 32 → ((i : ℕ) → i < t.count → IsBound t i (get_or bs i 0))
      → ((i : ℕ) → t.count ≤ i → get_or bs i 0 ≡ 0) → (ns : List ℕ) → Counted t t.count ns → AdmitAnswer t (answered []) bs ns
