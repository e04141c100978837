-- When each number of what a domain is shown is given, in plain words: one row for each number, and a number is given in its row only.
use Rattle.std.specs.Prelude.{ℕ, ◌≤◌, ◌<◌, ◌≡◌, true, false}
use Rattle.table.specs.Legal.{legal}
use Rattle.table.specs.declared.Table.{Table}
use Rattle.state.specs.State.{fits}
use Rattle.state.specs.declared.State.{State}

-- Of an answer.
pub data ViewNumbered (t : Table) (d : ℕ) : ℕ → Type 0 where
  -- 11: the table is not legal
  not-legal : legal t ≡ false → ViewNumbered t d 11
  -- 15: it has no such domain
  no_domain : legal t ≡ true → t.domains ≤ d → ViewNumbered t d 15
  -- 0: a thread or a gap
  shows : legal t ≡ true → d < t.domains → ViewNumbered t d 0

-- Of a state.
pub data StateNumbered (t : Table) (s : State) (d : ℕ) : ℕ → Type 0 where
  -- 11: the table is not legal
  illegal : legal t ≡ false → StateNumbered t s d 11
  -- 12: the state does not fit it
  misfit : legal t ≡ true → fits t s ≡ false → StateNumbered t s d 12
  -- 15: it has no such domain
  lacks_domain : legal t ≡ true → fits t s ≡ true → t.domains ≤ d → StateNumbered t s d 15
  -- 0: each thread that the domain may see
  shows_state : legal t ≡ true → fits t s ≡ true → d < t.domains → StateNumbered t s d 0
