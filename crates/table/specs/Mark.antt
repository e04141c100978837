-- The leak mark of a thread names whom it protects: the first thread in table order that has a lower priority and a domain that its own
-- may not flow to. A thread is marked exactly when there is one.
use Rattle.std.specs.Prelude.{ℕ, ◌-◌, ◌<◌, ◌≡◌, List, [], ◌++◌, Bool, true, false, not, replicate, get_or, ltb, Option, Some, None, Result, is_some}
use Rattle.basis.specs.Tests.{pick, and}
use Rattle.basis.specs.Search.{Sought, nothing, found, first, listed}
use Rattle.basis.specs.Told.{Told, answered, refused}
use Rattle.basis.specs.Refusals.{told_done, given_or}
use Rattle.flow.specs.Flow.{flows}
use Rattle.table.specs.Threads.{thread}
use Rattle.table.specs.Legal.{legal}
use Rattle.table.specs.declared.Table.{Table}
use Rattle.basis.specs.declared.refusal.Refusal.{Refusal}

-- Thread i's domain may flow to domain d.
unfoldable pub seen_by : Table → ℕ → ℕ → Bool
seen_by t i d = flows t.rows (thread t i).domain d

-- Thread j has a lower priority than i and a domain that i's may not flow to.
unfoldable pub hidden_below : Table → ℕ → ℕ → Bool
hidden_below t i j =
    and (ltb (thread t j).priority (thread t i).priority) (not (seen_by t i (thread t j).domain))

-- Whom thread i's mark protects: the first such thread in table order, or nobody.
unfoldable pub protects : Table → ℕ → Sought ℕ
protects t i = first t.count (λ j. pick (hidden_below t i j) (found j) nothing)

-- A leak mark: the thread that it protects, where there is one.
abbrev pub Mark : Type 0
Mark = Option ℕ

-- A mark answers with a thread, or that there is none.
abbrev pub mark : Sought ℕ → Mark
mark nothing = None
mark (found j) = Some j

-- A thread is marked if its mark answers with a thread.
unfoldable pub marked : Table → ℕ → Bool
marked t i = is_some (mark (protects t i))

-- The mark of each thread; a place past the last thread has none.
unfoldable pub marks_of : Table → List Mark
marks_of t = listed t.count (λ i. mark (protects t i)) ++ replicate (32 - t.count) (mark nothing)

-- Of a list of marks, whether the one at place i is set.
abbrev pub is_set : List Mark → ℕ → Bool
is_set m i = is_some (get_or m i (mark nothing))

-- Document 01's number: 11 where the table is not legal.
abbrev pub told : Result (List Mark) Refusal → Told
told r = told_done r

unfoldable pub marking : Table → Told
marking t = pick (legal t) (answered []) (refused 11)

-- What `marks` gives beside its answer: all unmarked on a refusal.
unfoldable pub marks_given : Table → List Mark
marks_given t = pick (legal t) (marks_of t) (replicate 32 (mark nothing))

-- What an answer of the code gives beside.
abbrev pub given : Result (List Mark) Refusal → List Mark
given r = given_or (replicate 32 (mark nothing)) r

-- The plain reading of whom a mark is for: thread j is below thread i in priority, and i's domain may not flow to j's.
pub record Barred (t : Table) (i j : ℕ) : Type 0 where
  pub lower : (thread t j).priority < (thread t i).priority
  pub unseen : flows t.rows (thread t i).domain (thread t j).domain ≡ false

-- Thread i leaks, without a mark: the table has such a thread.
pub record Leaks (t : Table) (i : ℕ) : Type 0 where
  pub thread_below : ℕ
  pub in_table : thread_below < t.count
  pub barred : Barred t i thread_below

-- Thread j is the first such thread in table order.
pub record Protects (t : Table) (i j : ℕ) : Type 0 where
  pub in_table : j < t.count
  pub barred : Barred t i j
  pub before : (k : ℕ) → k < j → Barred t i k → ⊥
