-- Demand 3, whole: a legal table, a fresh start, any finite list of steps, one domain d; change at will the bytes of all threads whose
-- domain may not flow to d, with the same public masks, and at every step d is shown the same.
use Rattle.std.specs.Prelude.{ℕ, ◌+◌, ◌<◌, ◌≡◌, List, [], ◌++◌, map, true, false, ◌≢◌, ◌↔◌, length, get_or, take, drop, Ok, Err}
use Rattle.basis.specs.Told.{answered, refused}
use Rattle.basis.specs.Refusals.{refused_by}
use Rattle.basis.specs.declared.refusal.Refusal.{Refusal}
use Rattle.flow.specs.Flow.{flows}
use Rattle.table.specs.Threads.{thread}
use Rattle.table.specs.Legal.{Legal}
use Rattle.table.specs.declared.Table.{Table}
use Rattle.state.specs.State.{no_progress, with_since, progress, fresh, Fits}
use Rattle.state.specs.declared.State.{State}
use Rattle.frame.specs.Mode.{Mode}
use Rattle.walk.specs.Step.{Input}
use Rattle.walk.specs.declared.Answer.{Answer}
use Rattle.scheduler.specs.Taken.{Taken, answer_of, told}
use Rattle.scheduler.specs.Calls.{calls}
use Rattle.block.specs.Block.{trace, inputs, Blocked, recorded}
use Rattle.sight.specs.Shown.{visible, view, showing, seen_threads, showing_state}
use Rattle.isolation.specs.Isolated.{telling, Isolated}
use Rattle.block_isolation.specs.Shown.{byte_shown, record_shown, block_shown}
use Rattle.block_isolation.specs.Isolated.{IsolatedBlocks}

pub record Demand3 : Type 0 where
  -- At every step d is shown the same thread or the same gap, and each thread that it may see has the same rests, finish mark and count.
  pub isolated : (t : Table) (mode : Mode) → Legal t → Isolated t mode
  -- At no step is it refused what it is shown of the state, so what it is shown is never blank for that.
  pub shown_throughout : (t : Table) (mode : Mode) → Legal t → (d : ℕ) → d < t.domains → (a : List Input)
      → map (λ (r : Taken). showing_state t r.state d) (calls t mode a (fresh t)) ≡ map (λ (x : Input). answered []) a
  -- What it is told of a call is what the operation `shown` tells of its answer, or the number of the refusal.
  pub told-answers : (t : Table) (d : ℕ) (a : Answer) → telling t d (told (Ok a)) ≡ showing t d a
  pub told_refusals : (t : Table) (d why : ℕ) → why ≢ 0 → telling t d (refused why) ≡ refused why
  pub told_errors : (t : Table) (d : ℕ) (why : Refusal) → telling t d (told (Err why)) ≡ refused_by why
  -- It may see a thread exactly if that thread's domain may flow to it, and is then shown all of its progress but its steps since release; of any other, zeros.
  pub visible_exactly : (t : Table) (d i : ℕ) → (visible t d i ≡ true) ↔ ((i < t.count) × (flows t.rows (thread t i).domain d ≡ true))
  pub seen_at : (t : Table) (d : ℕ) (s : State) (i : ℕ) → i < 32 → visible t d i ≡ true → get_or (seen_threads t d s) i no_progress ≡ with_since 0 (progress s i)
  pub hidden_at : (t : Table) (d : ℕ) (s : State) (i : ℕ) → i < 32 → visible t d i ≡ false → get_or (seen_threads t d s) i no_progress ≡ no_progress
  -- Of any list of blocks too d is shown the same: the number of each, each byte of its record, and the threads that it may see.
  pub blocks_isolated : (t : Table) (mode : Mode) → Legal t → IsolatedBlocks t mode
  -- Of a byte it is shown what it is shown of the answer.
  pub bytes-answer : (t : Table) → Legal t → (d : ℕ) (a : Answer) → byte_shown t d (trace a) ≡ view t d a
  -- Of a block it is shown the number and the next place; each byte of its trace as its answer is shown, and the record's other bytes; of a
  -- refused one the record as it was; and the threads of the state handed back, where that fits.
  pub block-numbers : (t : Table) → Legal t → (d : ℕ) (b : Blocked) → ((block_shown t d b).number ≡ b.number) × ((block_shown t d b).next ≡ b.next)
  pub block_traces : (t : Table) → Legal t → (d : ℕ) (mode : Mode) (masks bs : List ℕ) (s : State) (out : List ℕ) (at : ℕ) → length s.threads ≡ 32
      → (recorded t mode masks bs s out at).number ≡ 0
      → (block_shown t d (recorded t mode masks bs s out at)).bytes
      ≡ take at (record_shown t d out)
      ++ (map (λ (r : Taken). view t d (answer_of r.told.values)) (calls t mode (inputs t masks bs 0 (length masks)) s)
      ++ drop (at + length masks) (record_shown t d out))
  pub block_records : (t : Table) → Legal t → (d : ℕ) (mode : Mode) (masks bs : List ℕ) (s : State) (out : List ℕ) (at : ℕ)
      → 0 < (recorded t mode masks bs s out at).number → (block_shown t d (recorded t mode masks bs s out at)).bytes ≡ record_shown t d out
  pub block_threads : (t : Table) → Legal t → (d : ℕ) → Mode → d < t.domains → (b : Blocked) → Fits t b.state
      → ((block_shown t d b).state-told ≡ answered []) × ((block_shown t d b).threads ≡ seen_threads t d b.state)
