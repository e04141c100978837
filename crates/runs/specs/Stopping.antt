-- What the inner functions give: where a run stops, and the block before that.
use Rattle.std.specs.Prelude.{ℕ, ◌+◌, ◌*◌, ◌≤◌, ◌<◌, ◌≡◌, List, [], get_or, take, ltb}
use Rattle.basis.specs.Tests.{pick}
use Rattle.table.specs.declared.Table.{Table}
use Rattle.state.specs.State.{last_clock}
use Rattle.state.specs.declared.State.{State}
use Rattle.frame.specs.Mode.{Mode}
use Rattle.scheduler.specs.Taken.{mask_ok, taken}
use Rattle.block.specs.Block.{input_at, Blocked, block, number_of}
use Rattle.runs.specs.Playing.{Played, whole_steps}
use Rattle.runs.specs.declared.stop.Halt.{Halt as Answer}

-- How many steps come before the first that is refused, and its number (0: none is).
pub record Halt : Type 0 where
  pub n : ℕ
  pub why : ℕ

-- What an answer of the code says.
abbrev pub halt_of : Answer → Halt
halt_of r = record { n = r.n; why = number_of r.why }

-- The number that refuses a whole step of this mask at a clock: 18, then 14, 0 where none does.
unfoldable pub step_refusal : Table → ℕ → ℕ → ℕ
step_refusal t clock mask = pick (mask_ok t mask) (pick (ltb clock last_clock) 0 14) 18

-- Of so many whole steps from a clock on, n are not refused; the next is refused with the number, which is 0 where there is none.
pub record Stops (t : Table) (clock : ℕ) (masks : List ℕ) (whole : ℕ) (r : Halt) : Type 0 where
  pub within : r.n ≤ whole
  pub passed : (k : ℕ) → k < r.n → step_refusal t (clock + k) (get_or masks k 0) ≡ 0
  pub stopped : r.n < whole → (0 < r.why) × (step_refusal t (clock + r.n) (get_or masks r.n 0) ≡ r.why)
  pub ended : r.n ≡ whole → r.why ≡ 0

-- From the state s and the part to r and the part behind it.
pub record Plays (t : Table) (mode : Mode) (s : State) (masks bytes part : List ℕ) (r : Played) (part' : List ℕ) : Type 0 where
  -- n of the whole steps are made ..
  pub within : r.n ≤ whole_steps t masks bytes
  -- .. as one block, which is not refused and gives the state and the part ..
  pub made : ◌≡◌ {A = Blocked} (record { number = 0; values = []; state = r.state; part = part'; next = r.n }) (block t mode (take r.n masks) (take (r.n * t.count) bytes) s part)
  -- .. up to a whole step that is refused with the number ..
  pub stopped : r.n < whole_steps t masks bytes → (0 < r.why) × ((taken t mode (input_at t masks bytes r.n) r.state).told.number ≡ r.why)
  -- .. or up to the last, and then the number is 0.
  pub ended : r.n ≡ whole_steps t masks bytes → r.why ≡ 0
