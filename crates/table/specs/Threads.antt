-- What the table says of a thread by its number.
use Rattle.std.specs.Prelude.{ℕ, ◌<◌, List, [], ◌∷◌, get_or, eqb}
use Rattle.basis.specs.Tests.{pick}
use Rattle.table.specs.declared.Table.{Table}
use Rattle.table.specs.declared.Thread.{Thread}

-- How many fields a thread has.
abbrev pub field_count : ℕ
field_count = 8

-- How many of them stand in the bytes of a version: version 1 has no kind.
unfoldable pub fields_in : ℕ → ℕ
fields_in v = pick (eqb v 1) 7 8

-- A thread's fields, in document 01's order, and the kind behind them: 0 periodic, 1 event.
abbrev pub fields : Thread → List ℕ
fields th =
    th.domain ∷ th.priority ∷ th.period ∷ th.offset ∷ th.budget ∷ th.deadline ∷ th.blocking ∷ th.kind ∷ []

-- The thread that has these fields.
abbrev pub thread_of : List ℕ → Thread
thread_of vs = record {
  domain = get_or vs 0 0;
  priority = get_or vs 1 0;
  period = get_or vs 2 0;
  offset = get_or vs 3 0;
  budget = get_or vs 4 0;
  deadline = get_or vs 5 0;
  blocking = get_or vs 6 0;
  kind = get_or vs 7 0;
}

-- The fields that a thread keeps in one byte fit there.
pub record Narrow (vs : List ℕ) : Type 0 where
  pub domain : get_or vs 0 0 < 256
  pub priority : get_or vs 1 0 < 256
  pub kind : get_or vs 7 0 < 256

-- What stands in a thread place that is not in use: each field is 0.
abbrev pub none : Thread
none = thread_of []

abbrev pub thread : Table → ℕ → Thread
thread t i = get_or t.threads i none
