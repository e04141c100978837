-- What program bench prints, from the bytes of table.bin and those of standard input.
use Rattle.std.specs.Prelude.{ℕ, ◌*◌, List, [], ◌++◌, length, get_or, take, drop, eqb}
use Rattle.basis.specs.Tests.{pick}
use Rattle.basis.specs.Search.{listed}
use Rattle.basis.specs.Turns.{after}
use Rattle.basis.specs.Ceil.{ceil}
use Rattle.table.specs.declared.Table.{Table}
use Rattle.reader.specs.Reader.{Read, reading}
use Rattle.state.specs.State.{fresh}
use Rattle.frame.specs.Mode.{unframed}
use Rattle.walk.specs.Step.{quiet, step}
use Rattle.scheduler.specs.Taken.{Taken, taken}
use Rattle.walk.specs.declared.Answer.{Answer}
use Rattle.state.specs.declared.State.{State}
use Rattle.report.specs.Lines.{threads_line, step_line, end_line, refused_line}

-- A run: its lines so far, the state, and the number of the refusal that ended it (0: none did).
pub record Run : Type 0 where
  pub lines : List ℕ
  pub state : State
  pub why : ℕ

-- A step that was taken adds a line, with the clock before it; a refused one ends the run.
unfoldable pub with_step : Run → Answer → Taken → Run
with_step r a k = record {
  lines = r.lines ++ pick (eqb k.told.number 0) (step_line r.state.clock a) [];
  state = k.state;
  why = k.told.number;
}

-- One step more, with these bytes and an empty mask, unless the run has ended.
unfoldable pub play : Table → List ℕ → Run → Run
play t bs r = pick (eqb r.why 0) (with_step r (step t unframed (quiet bs) r.state).answer (taken t unframed (quiet bs) r.state)) r

-- The bytes of step k where each step has n: the last may have fewer.
abbrev pub bytes_of : ℕ → ℕ → List ℕ → List ℕ
bytes_of n k bs = take n (drop (k * n) bs)

-- The run after the first k steps of these bytes.
unfoldable pub played : Table → List ℕ → Run → ℕ → Run
played t bs r k = after (play t) (λ (x : Run). x) (listed k (λ j. bytes_of t.count j bs)) r

-- The run after all steps of these bytes, one short of bytes too.
abbrev pub played_all : Table → List ℕ → Run → Run
played_all t bs r = played t bs r (ceil (length bs) t.count)

abbrev pub from : State → Run
from s = record { lines = []; state = s; why = 0 }

-- `end` and the number of steps, or the refusal's number, if there was one, and the clock.
unfoldable pub last_line : ℕ → ℕ → List ℕ
last_line why clock = pick (eqb why 0) (end_line clock) (refused_line why clock)

abbrev pub closed : Run → List ℕ
closed r = r.lines ++ last_line r.why r.state.clock

-- `threads N`, a line a step, the last line.
unfoldable pub run_text : Table → List ℕ → List ℕ
run_text t bs = threads_line t.count ++ closed (played_all t bs (from (fresh t)))

-- A refused table prints one line only.
unfoldable pub judged_text : Read → List ℕ → List ℕ
judged_text r bs =
    pick (eqb r.told.number 0) (run_text r.table bs) (refused_line r.told.number (get_or r.told.values 0 0))

abbrev pub bench_text : List ℕ → List ℕ → List ℕ
bench_text table steps = judged_text (reading table) steps
