-- What the code that plays steps is handed and gives.
use Rattle.std.specs.Prelude.{ℕ, ◌+◌, ◌-◌, ◌*◌, ◌%◌, ◌≤◌, ◌≡◌, List, ◌++◌, length, take, drop, eqb, ltb}
use Rattle.basis.specs.Tests.{pick}
use Rattle.table.specs.declared.Table.{Table}
use Rattle.writer.specs.Buffer.{Put}
use Rattle.bench.specs.Text.{Run, played_all, from}
use Rattle.state.specs.declared.State.{State}
use Rattle.block.specs.Block.{number_of}
use Rattle.bench.specs.declared.play.Played.{Played as Answer}
use Rattle.bench.specs.declared.turn.Turn.{Turn}

-- After some steps: the state, the number of the refusal that ended the run (0: none did) and the place after the lines.
pub record Played : Type 0 where
  pub state : State
  pub why : ℕ
  pub next : ℕ

-- What an answer of the code says.
abbrev pub played_of : Answer → Played
played_of r = record { state = r.state; why = number_of r.why; next = r.next }

-- From p in the buffer b to q in the buffer b' the run r was played: its lines were put behind those of p.
pub record Plays (b : List ℕ) (p : Played) (b' : List ℕ) (q : Played) (r : Run) : Type 0 where
  pub state : q.state ≡ r.state
  pub why : q.why ≡ r.why
  pub put : Put b p.next b' q.next r.lines

-- A chunk of bytes has 4,000 steps at most, and the buffer 16 bytes for each.
pub record Roomy (t : Table) (bs b : List ℕ) : Type 0 where
  pub few : length bs ≤ 4000 * t.count
  pub fits : 64000 ≤ length b

-- The number that refuses the step behind n steps played, of so many whole ones with a rest behind them: at the last clock 14, for a
-- rest that is one short of bytes 13, and 0 where there is none.
unfoldable pub refusal_behind : ℕ → ℕ → ℕ → ℕ
refusal_behind n whole rest = pick (ltb n whole) 14 (pick (eqb rest 0) 0 13)

-- Of the first n bytes of b, which then is b', the whole steps were played from s, and the rest stands at the front.
pub record Answers (t : Table) (s : State) (n : ℕ) (b : List ℕ) (r : Turn) (b' : List ℕ) : Type 0 where
  pub state : r.state ≡ (played_all t (take (n - r.have) b) (from s)).state
  pub have : r.have ≡ n % t.count
  pub rest : take r.have b' ≡ take r.have (drop (n - r.have) b)

-- Bytes that came stand behind the first of b, as many as the rest of the turn before had; of them all the whole steps were played from
-- s, and the rest stands at the front of b'.
pub record Turned (t : Table) (s : State) (rest : ℕ) (b : List ℕ) (r : Turn) (b' : List ℕ) : Type 0 where
  pub came : List ℕ
  pub state : r.state ≡ (played_all t (take (rest + length came - r.have) (take rest b ++ came)) (from s)).state
  pub have : r.have ≡ (rest + length came) % t.count
  pub left : take r.have b' ≡ drop (rest + length came - r.have) (take rest b ++ came)
