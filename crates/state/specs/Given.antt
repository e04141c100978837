-- What the inner functions are handed: what a legal table gives them, and what holds of each thread's progress.
use Rattle.std.specs.Prelude.{ℕ, ◌≤◌, ◌<◌}
use Rattle.table.specs.Threads.{thread}
use Rattle.table.specs.declared.Table.{Table}
use Rattle.state.specs.State.{progress}
use Rattle.state.specs.declared.Progress.{Progress}
use Rattle.state.specs.declared.State.{State}

-- What the code needs of a legal table: few threads, and periods to divide by.
pub record Usable (t : Table) : Type 0 where
  pub few : t.count ≤ 32
  pub period : (i : ℕ) → i < t.count → 0 < (thread t i).period

-- P holds of each thread's number and progress; of every number, since what is read past the end is zero.
pub record Each (P : ℕ → Progress → Type 0) (s : State) : Type 0 where
  pub at : (i : ℕ) → P i (progress s i)

-- No thread's count is above c.
abbrev pub Counted : ℕ → State → Type 0
Counted c s = Each (λ i p. p.ran ≤ c) s
