-- Example E of document 01, and tables like it.
use Rattle.std.specs.Prelude.{ℕ, ◌-◌, List, [], ◌∷◌, ◌++◌, map, length, replicate}
use Rattle.table.specs.Threads.{thread_of, none}
use Rattle.table.specs.declared.Table.{Table}
use Rattle.table.specs.declared.Thread.{Thread}

-- A table of version 1 with these rows and threads, and zeros in the places that are not in use.
abbrev pub table_of : List ℕ → List Thread → Table
table_of rows ths = record {
  version = 1;
  domains = length rows;
  count = length ths;
  rows = rows ++ replicate (16 - length rows) 0;
  threads = ths ++ replicate (32 - length ths) none;
}

-- A periodic thread by its fields, in document 01's order.
abbrev pub task : ℕ → ℕ → ℕ → ℕ → ℕ → ℕ → ℕ → Thread
task d p period o w deadline b = thread_of (d ∷ p ∷ period ∷ o ∷ w ∷ deadline ∷ b ∷ [])

-- An event thread by its fields; its offset is 0.
abbrev pub event : ℕ → ℕ → ℕ → ℕ → ℕ → ℕ → Thread
event d p period w deadline b = thread_of (d ∷ p ∷ period ∷ 0 ∷ w ∷ deadline ∷ b ∷ 1 ∷ [])

-- A table in this version.
abbrev pub in_version : ℕ → Table → Table
in_version v t = record { version = v; domains = t.domains; count = t.count; rows = t.rows; threads = t.threads }

-- Thread 0 of domain 1 stands above thread 1 of domain 0.
abbrev pub upper : Thread
upper = task 1 30 10 0 4 10 2

abbrev pub lower : Thread
lower = task 0 20 10 0 3 10 0

-- Domain 0 may flow to both, domain 1 to itself only.
abbrev pub example : Table
example = table_of (3 ∷ 2 ∷ []) (upper ∷ lower ∷ [])

-- Its bytes, as document 01 prints them.
abbrev pub example_bytes : List ℕ
example_bytes =
    0x01 ∷ 0x02 ∷ 0x02 ∷ 0x03 ∷ 0x02
    ∷ 0x01 ∷ 0x1E ∷ 0x0A ∷ 0x00 ∷ 0x04 ∷ 0x0A ∷ 0x02
    ∷ 0x00 ∷ 0x14 ∷ 0x0A ∷ 0x00 ∷ 0x03 ∷ 0x0A ∷ 0x00 ∷ []

-- Thread 0 sends these bytes, and thread 1 sends 1 each time.
abbrev pub sent : List ℕ → List (List ℕ)
sent = map (λ (b : ℕ). b ∷ 1 ∷ [])

-- In document 01's run thread 0 sends 1, 0, 0, 2, then 1 six times.
abbrev pub waiting : List ℕ
waiting = 1 ∷ 0 ∷ 0 ∷ 2 ∷ replicate 6 1
