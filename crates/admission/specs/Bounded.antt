-- The bound of a thread: the smallest x from W to D whose demand is at most x.
use Rattle.std.specs.Prelude.{ℕ, suc, ◌≤◌, ◌<◌, ◌≡◌, [], ◌∷◌, Bool, true, false, ltb, leb, Option, Some, None, Result, Ok, Err, option_to_list}
use Rattle.basis.specs.Tests.{pick, and}
use Rattle.basis.specs.Search.{Sought, nothing, found, first}
use Rattle.basis.specs.Told.{Told, answered, refused}
use Rattle.table.specs.Threads.{thread}
use Rattle.table.specs.Legal.{legal}
use Rattle.table.specs.declared.Table.{Table}
use Rattle.admission.specs.Demand.{demand}
use Rattle.admission.specs.Tried.{IsCount}
use Rattle.basis.specs.Refusals.{told_by}
use Rattle.basis.specs.declared.refusal.Refusal.{Refusal}
use Rattle.admission.specs.declared.Search.{Search}

-- x is at least W of i, and its demand is at most x.
unfoldable pub enough : Table → ℕ → ℕ → Bool
enough t i x = and (leb (thread t i).budget x) (leb (demand t i x) x)

unfoldable pub length_at : Table → ℕ → ℕ → Sought ℕ
length_at t i x = pick (enough t i x) (found x) nothing

-- The first x up to D of i that is enough.
unfoldable pub bound : Table → ℕ → Sought ℕ
bound t i = first (suc (thread t i).deadline) (length_at t i)

-- What the code has in hand: the length where its search ended.
abbrev pub sought : Option ℕ → Sought ℕ
sought (Some x) = found x
sought None = nothing

-- What was found is the one value, and there is no value where nothing was.
abbrev pub sought_told : Sought ℕ → Told
sought_told nothing = answered []
sought_told (found x) = answered (x ∷ [])

-- 11, then 15 for a thread that the table lacks, then the bound or none.
unfoldable pub bounding : Table → ℕ → Told
bounding t i = pick (legal t) (pick (ltb i t.count) (sought_told (bound t i)) (refused 15)) (refused 11)

-- Document 01's number and values of an answer.
abbrev pub told : Result Search Refusal → Told
told r = told_by (λ (s : Search). option_to_list s.bound) r

-- The count beside it: 0 on a refusal.
abbrev pub count_in : Result Search Refusal → ℕ
count_in (Ok s) = s.tried
count_in (Err why) = 0

-- The plain reading of thread i's bound: from W to D, its demand at most its length, and no smaller length is such.
pub record IsBound (t : Table) (i x : ℕ) : Type 0 where
  pub from_budget : (thread t i).budget ≤ x
  pub to_deadline : x ≤ (thread t i).deadline
  pub holds : demand t i x ≤ x
  pub smallest : (y : ℕ) → (thread t i).budget ≤ y → y < x → y < demand t i y

-- The plain reading of no bound: every length from W to D is less than its demand.
pub record NoBound (t : Table) (i : ℕ) : Type 0 where
  pub short : (y : ℕ) → (thread t i).budget ≤ y → y ≤ (thread t i).deadline → y < demand t i y

-- What `bound_of` tells, and the count beside it, in plain words: one row for each case, and an answer is given in its row only.
pub data BoundAnswer (t : Table) (i : ℕ) : Told → ℕ → Type 0 where
  -- 11 and 0: the table is not legal
  not-legal : legal t ≡ false → BoundAnswer t i (refused 11) 0
  -- 15 and 0: it has no such thread
  no_thread : legal t ≡ true → t.count ≤ i → BoundAnswer t i (refused 15) 0
  -- the thread has no bound, and its search tried n lengths
  no_bound : legal t ≡ true → i < t.count → NoBound t i → (n : ℕ) → IsCount t i n → BoundAnswer t i (answered []) n
  -- its bound is x, and its search tried n lengths
  within : legal t ≡ true → i < t.count → (x : ℕ) → IsBound t i x → (n : ℕ) → IsCount t i n → BoundAnswer t i (answered (x ∷ [])) n

-- Two tables agree on thread i and, place by place, on every thread that stands above it in one of them.
pub record SameAbove (t u : Table) (i : ℕ) : Type 0 where
  pub own : thread t i ≡ thread u i
  pub one : (h : ℕ) → (thread t i).priority < (thread t h).priority → thread t h ≡ thread u h
  pub other : (h : ℕ) → (thread u i).priority < (thread u h).priority → thread t h ≡ thread u h
