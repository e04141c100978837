-- Which tables are legal: the test that computes, and what it means.
use Rattle.std.specs.Prelude.{ℕ, ◌≤◌, ◌<◌, ◌≡◌, List, Bool, true, false, not, length, get_or, eqb, ltb}
use Rattle.basis.specs.Tests.{pick, and, every, some}
use Rattle.basis.specs.Search.{Sought, nothing, found}
use Rattle.flow.specs.Flow.{flows, row_ok}
use Rattle.flow.specs.Gap.{Triple, first_gap}
use Rattle.table.specs.Threads.{field_count, none, thread, fields}
use Rattle.table.specs.Ranges.{versions, domain_counts, thread_counts, within, field_range}
use Rattle.table.specs.declared.Table.{Table}
use Rattle.table.specs.declared.Thread.{Thread}

-- A row in use passes, and one not in use is zero.
unfoldable pub row_legal : List ℕ → ℕ → ℕ → Bool
row_legal rows d i = pick (ltb i d) (row_ok d i (get_or rows i 0)) (eqb (get_or rows i 0) 0)

abbrev pub is_nothing : Sought Triple → Bool
is_nothing nothing = true
is_nothing (found g) = false

-- Field k of the fields vs is in its range, in version v with d domains.
unfoldable pub field_ok : ℕ → ℕ → List ℕ → ℕ → Bool
field_ok v d vs k = within (field_range v d vs k) (get_or vs k 0)

-- Each field of a thread is in its range.
unfoldable pub thread_ok : ℕ → ℕ → Thread → Bool
thread_ok v d th = every field_count (field_ok v d (fields th))

unfoldable pub field_zero : List ℕ → ℕ → Bool
field_zero vs k = eqb (get_or vs k 0) 0

-- Each field of a thread is zero.
unfoldable pub thread_zero : Thread → Bool
thread_zero th = every field_count (field_zero (fields th))

-- One of the first n threads has the priority p.
unfoldable pub taken : List Thread → ℕ → ℕ → Bool
taken ths n p = some n (λ j. eqb (get_or ths j none).priority p)

-- A thread place in use is in range with a priority not taken before it, and one not in use is zero.
unfoldable pub place_legal : Table → ℕ → Bool
place_legal t i =
    pick (ltb i t.count) (and (thread_ok t.version t.domains (thread t i)) (not (taken t.threads i (thread t i).priority)))
    (thread_zero (thread t i))

unfoldable pub legal : Table → Bool
legal t =
    and (within versions t.version) (and (within domain_counts t.domains) (and (within thread_counts t.count)
    (and (every 16 (row_legal t.rows t.domains)) (and (is_nothing (first_gap t.rows t.domains)) (every 32 (place_legal t))))))

-- What a Table's type says of it: 16 rows and 32 thread places.
pub record Sized (t : Table) : Type 0 where
  pub rows : length t.rows ≡ 16
  pub threads : length t.threads ≡ 32

-- The plain reading of a thread's ranges in a table of version v and d domains.
pub record LegalThread (v d : ℕ) (th : Thread) : Type 0 where
  pub domain_high : th.domain < d
  pub priority_high : th.priority ≤ 255
  pub period_low : 1 ≤ th.period
  pub period_high : th.period ≤ 60000
  pub offset_high : th.offset < th.period
  pub budget_low : 1 ≤ th.budget
  pub budget_high : th.budget ≤ th.period
  pub deadline_low : th.budget ≤ th.deadline
  pub deadline_high : th.deadline ≤ th.period
  pub blocking_high : th.blocking ≤ th.budget
  pub kind_high : th.kind ≤ 1
  pub kind_version : th.kind ≡ 1 → v ≡ 2
  pub kind_offset : th.kind ≡ 1 → th.offset ≡ 0

-- The plain reading of a legal table.
pub record Legal (t : Table) : Type 0 where
  pub sized : Sized t
  pub version_low : 1 ≤ t.version
  pub version_high : t.version ≤ 2
  pub domains_low : 1 ≤ t.domains
  pub domains_high : t.domains ≤ 16
  pub count_low : 1 ≤ t.count
  pub count_high : t.count ≤ 32
  pub known : (i j : ℕ) → i < t.domains → flows t.rows i j ≡ true → j < t.domains
  pub reflexive : (i : ℕ) → i < t.domains → flows t.rows i i ≡ true
  pub transitive : (a b c : ℕ) → a < t.domains → b < t.domains → c < t.domains
      → flows t.rows a b ≡ true → flows t.rows b c ≡ true → flows t.rows a c ≡ true
  pub rows_unused : (i : ℕ) → t.domains ≤ i → get_or t.rows i 0 ≡ 0
  pub threads : (i : ℕ) → i < t.count → LegalThread t.version t.domains (thread t i)
  pub distinct : (i j : ℕ) → i < t.count → j < t.count → (thread t i).priority ≡ (thread t j).priority → i ≡ j
  pub threads_unused : (i : ℕ) → t.count ≤ i → thread t i ≡ none
