-- Tables like example E, each with one thing changed, frames, and how a table is written out as numbers.
use Rattle.std.specs.Prelude.{ℕ, ◌-◌, List, [], ◌∷◌, ◌++◌, length, replicate}
use Rattle.table.specs.Threads.{none, fields}
use Rattle.table.specs.declared.Table.{Table}
use Rattle.table.specs.declared.Thread.{Thread}
use Rattle.example.specs.Example.{table_of, task, event, in_version, upper, lower}
use Rattle.frame.specs.Frame.{no_window}
use Rattle.frame.specs.Mode.{Mode, framed}
use Rattle.frame.specs.declared.Window.{Window}

-- E's thread 0 with an offset of 3, and so with a deadline of 5 behind it.
abbrev pub later : Thread
later = task 1 30 10 3 4 10 2

abbrev pub later_short : Thread
later_short = task 1 30 10 3 4 5 2

-- E's thread 1 with another budget.
abbrev pub lower_with : ℕ → Thread
lower_with w = task 0 20 10 0 w 10 0

-- A thread of domain 0 above both threads of E, with a budget of 2.
abbrev pub top : Thread
top = task 0 40 10 0 2 10 0

-- Two domains with these rows and two threads.
abbrev pub two : ℕ → ℕ → Thread → Thread → Table
two a b x y = table_of (a ∷ b ∷ []) (x ∷ y ∷ [])

-- E's domains with these threads.
abbrev pub with_threads : List Thread → Table
with_threads ths = table_of (3 ∷ 2 ∷ []) ths

-- E with its threads exchanged: thread 1 stands above, and is marked.
abbrev pub exchanged : Table
exchanged = two 3 2 lower upper

-- K-4's table: E with row 1 as 3.
abbrev pub both_ways : Table
both_ways = two 3 3 upper lower

-- K-9's table: one domain, P 10, O 0, B 0; thread 0 above with W 1, D 1, thread 1 with W 3, D 3.
abbrev pub short_deadlines : Table
short_deadlines = table_of (1 ∷ []) (task 0 2 10 0 1 1 0 ∷ task 0 1 10 0 3 3 0 ∷ [])

-- E with row 2 set, though it has two domains: not legal.
abbrev pub row_too_many : Table
row_too_many = record { version = 1; domains = 2; count = 2; rows = 3 ∷ 2 ∷ 4 ∷ replicate 13 0; threads = upper ∷ lower ∷ replicate 30 none }

-- E with this in the last thread place, though it has two threads.
abbrev pub place_too_many : Thread → Table
place_too_many th = record { version = 1; domains = 2; count = 2; rows = 3 ∷ 2 ∷ replicate 14 0; threads = upper ∷ lower ∷ (replicate 29 none ++ (th ∷ [])) }

-- E in version 2, with thread 1 released by events.
abbrev pub eventful : Table
eventful = in_version 2 (two 3 2 upper (event 0 20 10 3 10 0))

-- A window of domain d, n steps long.
abbrev pub window : ℕ → ℕ → Window
window d n = record { domain = d; length = n }

-- In a frame of n windows, which has these and zeros behind them; and of just these.
abbrev pub in_counted : ℕ → List Window → Mode
in_counted n ws = framed (record { count = n; windows = ws ++ replicate (64 - length ws) no_window })

abbrev pub in_frame : List Window → Mode
in_frame ws = in_counted (length ws) ws

-- Every number that a table has room for: version, domains, threads, 16 rows, 32 times eight fields.
abbrev pub all_fields : List Thread → List ℕ
all_fields [] = []
all_fields (th ∷ ths) = fields th ++ all_fields ths

abbrev pub written_out : Table → List ℕ
written_out t = t.version ∷ t.domains ∷ t.count ∷ (t.rows ++ all_fields t.threads)
