-- What a domain is shown of a block: of each byte of the record, and of the state handed back.
use Rattle.std.specs.Prelude.{ℕ, List, map}
use Rattle.basis.specs.Told.{Told}
use Rattle.table.specs.declared.Table.{Table}
use Rattle.state.specs.declared.Progress.{Progress}
use Rattle.walk.specs.declared.Answer.TheVariants.{Ran}
use Rattle.sight.specs.Shown.{view, showing_state, threads_shown}
use Rattle.block.specs.Block.{Blocked}

-- Of a byte d is shown what it is shown of its answer: the thread that ran if d may see it, and a gap otherwise. A byte that is no
-- thread of the table, as idle for a thread and idle are, is a gap.
unfoldable pub byte_shown : Table → ℕ → ℕ → Told
byte_shown t d b = view t d (Ran b)

unfoldable pub record_shown : Table → ℕ → List ℕ → List Told
record_shown t d out = map (byte_shown t d) out

-- All that d is shown of a call: its number, the bytes of the record then, the next place, what it is told of the state handed back, and that
-- state's threads.
pub record ShownBlock : Type 0 where
  pub number : ℕ
  pub bytes : List Told
  pub next : ℕ
  pub state-told : Told
  pub threads : List Progress

unfoldable pub block_shown : Table → ℕ → Blocked → ShownBlock
block_shown t d b = record {
  number = b.number;
  bytes = record_shown t d b.part;
  next = b.next;
  state-told = showing_state t b.state d;
  threads = threads_shown t b.state d;
}
