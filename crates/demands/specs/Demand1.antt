-- Demand 1, whole: damaged tables, stale states and short step lists are all taken; every call answers, or refuses with the one number
-- that the rules give; a refusal hands the state back as it came and writes nothing; no thread's byte brings a refusal about. That each
-- call ends and never traps is what the proof of each operation says, none of which has a `requires`.
use Rattle.std.specs.Prelude.{ℕ, ◌*◌, ◌^◌, ◌≤◌, ◌<◌, ◌≡◌, List, [], ◌∷◌, ◌≢◌, ◌↔◌, true, false, length, get_or, replicate}
use Rattle.basis.specs.Told.{Told, answered, refused}
use Rattle.table.specs.Legal.{legal, Sized, Legal}
use Rattle.table.specs.Mark.{marking}
use Rattle.table.specs.declared.Table.{Table}
use Rattle.table.specs.declared.Thread.{Thread}
use Rattle.numeral.specs.NumberRules.{Bytes}
use Rattle.reader.specs.Reader.{no_table, reading}
use Rattle.writer.specs.Writer.{writing, written}
use Rattle.writer.specs.Numbered.{WriteNumbered}
use Rattle.codec.specs.Judging.{Judgment}
use Rattle.state.specs.State.{no_progress, longest_since, fits, Fits, no_state, starting, fresh_given}
use Rattle.state.specs.declared.State.{State}
use Rattle.frame.specs.Frame.{Framed}
use Rattle.frame.specs.Mode.{Mode, unframed, framed, mode_ok}
use Rattle.frame.specs.declared.Frame.{Frame}
use Rattle.walk.specs.declared.Answer.{Answer}
use Rattle.walk.specs.Step.{Input}
use Rattle.scheduler.specs.Taken.{taken, mask_ok}
use Rattle.scheduler.specs.Numbered.{OnlyEvents, Numbered}
use Rattle.block.specs.Block.{whole, masks_ok, block, recorded}
use Rattle.block.specs.Numbered.{BlockNumbered}
use Rattle.sight.specs.Shown.{showing, showing_state, threads_shown}
use Rattle.sight.specs.Numbered.{ViewNumbered, StateNumbered}
use Rattle.host.specs.Host.{refusal, thread_mark, thread_bound, Refuses}
use Rattle.admission.specs.Bounded.{bounding, BoundAnswer}
use Rattle.admission.specs.Tried.{count_given}
use Rattle.admission.specs.Admit.{admitting, bounds_given, counts_given, AdmitAnswer}
use Rattle.admission.specs.Worst.{worst, worst_given}
use Rattle.admission.specs.Prohibition.{prohibiting, ProhibitionAnswer}
use Rattle.admission.specs.IdleMost.{idling, IdleAnswer}

pub record Demand1 : Type 0 where
  -- Damaged tables: whatever the bytes, the reader tells the one judgment that the rules give, with its place; refused, its table is zero.
  pub bytes-judged : (s : List ℕ) → Bytes s → (o : Told) → ((reading s).told ≡ o) ↔ Judgment s o
  pub refused_table : (s : List ℕ) → 0 < (reading s).told.number → (reading s).table ≡ no_table
  -- Damaged tables handed in, stale states, short step lists: a step's number is given exactly when its row says.
  pub step_numbered : (t : Table) (mode : Mode) (x : Input) (s : State) (n : ℕ) → ((taken t mode x s).told.number ≡ n) ↔ Numbered t mode x s n
  -- Without a frame 19 is never given, and with one exactly where it does not pass.
  pub unframed_passes : (t : Table) → mode_ok t unframed ≡ true
  pub frames_exactly : (t : Table) (f : Frame) → (mode_ok t (framed f) ≡ true) ↔ Framed t f
  pub mask_exactly : (t : Table) (mask : ℕ) → mask < 2 ^ 32 → (mask_ok t mask ≡ true) ↔ OnlyEvents t mask
  -- What the rows call legal and fitting is what document 01 calls so.
  pub legal_exactly : (t : Table) → Sized t → (legal t ≡ true) ↔ Legal t
  pub fits_exactly : (t : Table) (s : State) → t.count ≤ 32 → length s.threads ≡ 32 → (fits t s ≡ true) ↔ Fits t s
  pub since_event : (th : Thread) → th.kind ≡ 1 → longest_since th ≡ th.period
  pub since_periodic : (th : Thread) → th.kind ≢ 1 → longest_since th ≡ 0
  -- So is each number of the other operations; `fresh` of a table is refused with 11, and is then zero.
  pub fresh-refused : (t : Table) → (starting t ≡ refused 11) ↔ (legal t ≡ false)
  pub fresh-answered : (t : Table) → (starting t ≡ answered []) ↔ (legal t ≡ true)
  pub fresh-zero : (t : Table) → legal t ≡ false → fresh_given t ≡ no_state
  pub marks_refused : (t : Table) → (marking t ≡ refused 11) ↔ (legal t ≡ false)
  pub marks_answered : (t : Table) → (marking t ≡ answered []) ↔ (legal t ≡ true)
  pub writer_numbered : (b : List ℕ) (at : ℕ) (t : Table) (n : ℕ) → ((writing b at t).number ≡ n) ↔ WriteNumbered b at t n
  pub view_numbered : (t : Table) (d : ℕ) (a : Answer) (n : ℕ) → ((showing t d a).number ≡ n) ↔ ViewNumbered t d n
  pub state_numbered : (t : Table) (s : State) (d n : ℕ) → ((showing_state t s d).number ≡ n) ↔ StateNumbered t s d n
  pub bound-answered : (t : Table) (i : ℕ) (w : Told) (n : ℕ) → ((bounding t i ≡ w) × (count_given t i ≡ n)) ↔ BoundAnswer t i w n
  pub admission_answered : (t : Table) (w : Told) (bs ns : List ℕ)
      → ((admitting t ≡ w) × (bounds_given t ≡ bs) × (counts_given t ≡ ns)) ↔ AdmitAnswer t w bs ns
  pub worst-refused : (t : Table) → (worst_given t ≡ refused 11) ↔ (legal t ≡ false)
  pub worst-answered : (t : Table) → legal t ≡ true → worst_given t ≡ answered (worst t ∷ [])
  pub prohibition-answered : (t : Table) (l : ℕ) (w : Told) → (prohibiting t l ≡ w) ↔ ProhibitionAnswer t l w
  pub idle-answered : (t : Table) (h length : ℕ) (w : Told) → (idling t h length ≡ w) ↔ IdleAnswer t h length w
  pub host_mark_refused : (s : List ℕ) (i n : ℕ) → (thread_mark s i ≡ refusal n) ↔ Refuses s i n
  pub host_bound_refused : (s : List ℕ) → Bytes s → (i n : ℕ) → (thread_bound s i ≡ refusal n) ↔ Refuses s i n
  -- A refused step hands the state back as it came.
  pub state_back : (t : Table) (mode : Mode) (x : Input) (s : State) → 0 < (taken t mode x s).told.number → (taken t mode x s).state ≡ s
  -- A refused writer leaves the lent buffer as it was, and a refused domain is shown zeros.
  pub nothing_written : (b : List ℕ) (at : ℕ) (t : Table) → 0 < (writing b at t).number → written b at t ≡ b
  pub zeros_shown : (t : Table) (s : State) (d : ℕ) → 0 < (showing_state t s d).number → threads_shown t s d ≡ replicate 32 no_progress
  -- No thread's step byte brings a refusal about: with the same mask and as many bytes, whatever they are, the number is the same.
  pub no_byte_refuses : (t : Table) (mode : Mode) (x y : Input) (s : State) → x.mask ≡ y.mask → length x.bytes ≡ length y.bytes
      → (taken t mode x s).told.number ≡ (taken t mode y s).told.number
  -- Blocks: a call into a record has its number exactly when its row says, and one that is lent a part is a call at the part's front.
  pub block_numbered : (t : Table) (mode : Mode) (masks bytes : List ℕ) (s : State) (out : List ℕ) (at n : ℕ)
      → ((recorded t mode masks bytes s out at).number ≡ n) ↔ BlockNumbered t mode masks bytes s out at n
  pub block-front : (t : Table) (mode : Mode) (masks bytes : List ℕ) (s : State) (part : List ℕ)
      → recorded t mode masks bytes s part 0 ≡ block t mode masks bytes s part
  pub lengths_exactly : (t : Table) (masks bytes : List ℕ) → 0 < t.count → (whole t masks bytes ≡ true) ↔ (length bytes ≡ length masks * t.count)
  pub masks_exactly : (t : Table) (masks : List ℕ) → (masks_ok t masks ≡ true) ↔ ((k : ℕ) → k < length masks → mask_ok t (get_or masks k 0) ≡ true)
  -- A refused one hands the state back and leaves every byte of the record; and no thread's byte brings a refusal about.
  pub block_back : (t : Table) (mode : Mode) (masks bytes : List ℕ) (s : State) (out : List ℕ) (at : ℕ) → 0 < (recorded t mode masks bytes s out at).number
      → ((recorded t mode masks bytes s out at).state ≡ s) × ((recorded t mode masks bytes s out at).part ≡ out) × ((recorded t mode masks bytes s out at).next ≡ 0)
  pub no_byte_refuses_block : (t : Table) (mode : Mode) (masks bytes : List ℕ) (s : State) (out : List ℕ) (at : ℕ) (others : List ℕ)
      → length bytes ≡ length others → (recorded t mode masks bytes s out at).number ≡ (recorded t mode masks others s out at).number
