-- Reading a table: a number is read and then judged, and after a refusal nothing more is read, so that the leftmost fault wins.
use Rattle.std.specs.Prelude.{ℕ, zero, suc, ◌≡◌, List, [], ◌∷◌, Bool, not, length, set, replicate, eqb, ltb, Result, Ok, Err}
use Rattle.basis.specs.Tests.{pick, or}
use Rattle.basis.specs.Search.{Sought, nothing, found}
use Rattle.basis.specs.Told.{Told, answered}
use Rattle.basis.specs.Refusals.{number, values}
use Rattle.flow.specs.Flow.{row_ok}
use Rattle.flow.specs.Gap.{Triple, first_gap}
use Rattle.table.specs.Threads.{field_count, fields_in, thread_of, none}
use Rattle.table.specs.Ranges.{within, versions, domain_counts, thread_counts, field_range}
use Rattle.table.specs.Legal.{taken}
use Rattle.table.specs.declared.Range.{Range}
use Rattle.table.specs.declared.Table.{Table}
use Rattle.table.specs.declared.Thread.{Thread}
use Rattle.numeral.specs.Number.{Number, Value, Refused, number_at}
use Rattle.reader.specs.declared.Cursor.{Cursor as CursorInHand}
use Rattle.reader.specs.declared.Fault.{Fault}

-- Where a reader stands: the refusal met (0: none), the start of the last number, the start of the next, the last number.
pub record Cursor : Type 0 where
  pub refusal : ℕ
  pub start : ℕ
  pub next : ℕ
  pub value : ℕ

-- The rows read so far, and where the reader then stands.
pub record RowsRead : Type 0 where
  pub cursor : Cursor
  pub rows : List ℕ

-- The fields of a thread read so far, and where the reader then stands.
pub record FieldsRead : Type 0 where
  pub cursor : Cursor
  pub fields : List ℕ

-- The threads read so far, and where the reader then stands.
pub record ThreadsRead : Type 0 where
  pub cursor : Cursor
  pub threads : List Thread

-- A number v was read from start up to next.
abbrev pub good : ℕ → ℕ → ℕ → Cursor
good start next v = record { refusal = 0; start = start; next = next; value = v }

-- The number at start was refused.
abbrev pub bad : ℕ → ℕ → Cursor
bad why start = record { refusal = why; start = start; next = start; value = 0 }

abbrev pub took : ℕ → Number → Cursor
took at (Value v next) = good at next v
took at (Refused why) = bad why at

-- The next number; after a refusal nothing more is read.
unfoldable pub number_from : List ℕ → Cursor → Cursor
number_from s c = pick (eqb c.refusal 0) (took c.next (number_at s c.next)) (bad c.refusal c.start)

-- The number just read is refused with why unless it passes.
unfoldable pub judged : Cursor → Bool → ℕ → Cursor
judged c ok why = pick (eqb c.refusal 0) (pick ok c (bad why c.start)) (bad c.refusal c.start)

-- The next number, judged for its range.
unfoldable pub ranged : List ℕ → Cursor → Range → ℕ → Cursor
ranged s c r why = judged (number_from s c) (within r (number_from s c).value) why

-- Row i of d.
unfoldable pub row_from : List ℕ → ℕ → ℕ → Cursor → Cursor
row_from s d i c = judged (number_from s c) (row_ok d i (number_from s c).value) 6

abbrev pub put_row : ℕ → List ℕ → Cursor → RowsRead
put_row i rows c = record { cursor = c; rows = set rows i c.value }

-- The first n rows of d.
unfoldable pub rows_from : List ℕ → ℕ → Cursor → ℕ → RowsRead
rows_from s d c zero = record { cursor = c; rows = replicate 16 0 }
rows_from s d c (suc i) = put_row i (rows_from s d c i).rows (row_from s d i (rows_from s d c i).cursor)

-- Field 1 is the priority, which no thread before i may have.
unfoldable pub free : List Thread → ℕ → ℕ → ℕ → Bool
free ths i k v = or (not (eqb k 1)) (not (taken ths i v))

-- Field k of thread i, in version v, after the threads and the fields vs before it: its range (8), then whether it is taken (9).
unfoldable pub field_from : List ℕ → ℕ → ℕ → List Thread → ℕ → List ℕ → ℕ → Cursor → Cursor
field_from s v d ths i vs k c =
    judged (ranged s c (field_range v d vs k) 8) (free ths i k (ranged s c (field_range v d vs k) 8).value) 9

abbrev pub put_field : ℕ → List ℕ → Cursor → FieldsRead
put_field k vs c = record { cursor = c; fields = set vs k c.value }

-- The first n fields of thread i; a field that was not read is 0.
unfoldable pub fields_from : List ℕ → ℕ → ℕ → List Thread → ℕ → Cursor → ℕ → FieldsRead
fields_from s v d ths i c zero = record { cursor = c; fields = replicate field_count 0 }
fields_from s v d ths i c (suc k) =
    put_field k (fields_from s v d ths i c k).fields
    (field_from s v d ths i (fields_from s v d ths i c k).fields k (fields_from s v d ths i c k).cursor)

abbrev pub put_thread : ℕ → List Thread → FieldsRead → ThreadsRead
put_thread i ths f = record { cursor = f.cursor; threads = set ths i (thread_of f.fields) }

-- The first n threads, each by the fields that stand in the bytes of version v.
unfoldable pub threads_from : List ℕ → ℕ → ℕ → Cursor → ℕ → ThreadsRead
threads_from s v d c zero = record { cursor = c; threads = replicate 32 none }
threads_from s v d c (suc i) =
    put_thread i (threads_from s v d c i).threads
    (fields_from s v d (threads_from s v d c i).threads i (threads_from s v d c i).cursor (fields_in v))

-- What reading gives: the number with its values, and the table, which is all zero on a refusal.
pub record Read : Type 0 where
  pub told : Told
  pub table : Table

abbrev pub no_table : Table
no_table = record { version = 0; domains = 0; count = 0; rows = replicate 16 0; threads = replicate 32 none }

abbrev pub accepted : Table → Read
accepted t = record { told = answered []; table = t }

-- Refused with a number at a place.
abbrev pub refused_at : ℕ → ℕ → Read
refused_at why place = record { told = record { number = why; values = place ∷ [] }; table = no_table }

-- Refused with 7: the place and the three domains.
abbrev pub gapped_at : ℕ → Triple → Read
gapped_at place g = record { told = record { number = 7; values = place ∷ g.a ∷ g.b ∷ g.c ∷ [] }; table = no_table }

-- After the last thread: 10 at the first extra byte.
unfoldable pub ended : List ℕ → ℕ → ℕ → ℕ → List ℕ → ThreadsRead → Read
ended s v d n rows t =
    pick (eqb t.cursor.refusal 0)
    (pick (ltb t.cursor.next (length s)) (refused_at 10 t.cursor.next)
    (accepted (record { version = v; domains = d; count = n; rows = rows; threads = t.threads })))
    (refused_at t.cursor.refusal t.cursor.start)

-- After the last row: 7 with the start of the last row, or what follows.
abbrev pub whole_or_gap : ℕ → Sought Triple → Read → Read
whole_or_gap place nothing r = r
whole_or_gap place (found g) r = gapped_at place g

unfoldable pub after_rows : List ℕ → ℕ → ℕ → ℕ → RowsRead → Read
after_rows s v d n r =
    pick (eqb r.cursor.refusal 0)
    (whole_or_gap r.cursor.start (first_gap r.rows d) (ended s v d n r.rows (threads_from s v d r.cursor n)))
    (refused_at r.cursor.refusal r.cursor.start)

-- Version is 1 or 2.
unfoldable pub version_from : List ℕ → Cursor
version_from s = ranged s (good 0 0 0) versions 4

unfoldable pub domains_from : List ℕ → Cursor
domains_from s = ranged s (version_from s) domain_counts 5

unfoldable pub count_from : List ℕ → Cursor
count_from s = ranged s (domains_from s) thread_counts 5

unfoldable pub reading : List ℕ → Read
reading s =
    after_rows s (version_from s).value (domains_from s).value (count_from s).value
    (rows_from s (domains_from s).value (count_from s) (domains_from s).value)

-- Where the code stands: it goes on only where nothing was refused.
abbrev pub standing : CursorInHand → Cursor
standing c = good c.start c.next c.value

-- The code gives up with a fault where the reader stands refused: the same number at the same place, and no value.
pub record GivesUp (f : Fault) (c : Cursor) : Type 0 where
  pub met : c ≡ bad (number f.why) f.place
  pub plain : values f.why ≡ []

-- What the code has in hand after a number is where the reader stands.
abbrev pub Stands : Result CursorInHand Fault → Cursor → Type 0
Stands (Ok c) k = standing c ≡ k
Stands (Err f) k = GivesUp f k

-- What it has in hand after the rows is what was read of them.
abbrev pub HasRows : Result (CursorInHand × List ℕ) Fault → RowsRead → Type 0
HasRows (Ok r) x = record { cursor = standing r.0; rows = r.1 } ≡ x
HasRows (Err f) x = GivesUp f x.cursor

-- So it is after the fields of a thread.
abbrev pub HasFields : Result (CursorInHand × List ℕ) Fault → FieldsRead → Type 0
HasFields (Ok r) x = record { cursor = standing r.0; fields = r.1 } ≡ x
HasFields (Err f) x = GivesUp f x.cursor

-- So it is after the threads.
abbrev pub HasThreads : Result (CursorInHand × List Thread) Fault → ThreadsRead → Type 0
HasThreads (Ok r) x = record { cursor = standing r.0; threads = r.1 } ≡ x
HasThreads (Err f) x = GivesUp f x.cursor

-- Document 01's number and values of an answer: of a refusal its place, then its own.
abbrev pub told : Result Table Fault → Told
told (Ok t) = answered []
told (Err f) = record { number = number f.why; values = f.place ∷ values f.why }

-- The table of an answer, which is all zero on a refusal.
abbrev pub table_of : Result Table Fault → Table
table_of (Ok t) = t
table_of (Err f) = no_table

-- What an answer of the code gives.
abbrev pub read_of : Result Table Fault → Read
read_of r = record { told = told r; table = table_of r }
