-- Demand 2, whole: both round trips; and marks, the thread or idle chosen at each step, what every thread pays and the admission answers
-- are those of document 01, from every fitting state. `run-steps` and `call-steps` join the calls to the step, whose definition fixes the
-- whole state after it; the fields behind them say its rules in other words.
use Rattle.std.specs.Prelude.{ℕ, ◌+◌, ◌-◌, ◌*◌, ◌%◌, ◌≤◌, ◌<◌, ◌≡◌, List, [], ◌∷◌, ◌++◌, map, ◌≢◌, ◌↔◌, Bool, true, false, length, get_or, take, drop, eqb}
use Rattle.basis.specs.Tests.{or}
use Rattle.basis.specs.Search.{Sought, found, nothing}
use Rattle.basis.specs.Told.{answered}
use Rattle.basis.specs.Ceil.{ceil}
use Rattle.basis.specs.Spaced.{happened}
use Rattle.basis.specs.Turns.{after}
use Rattle.flow.specs.Flow.{flows}
use Rattle.table.specs.Threads.{thread}
use Rattle.table.specs.Legal.{legal, Sized, Legal}
use Rattle.table.specs.Mark.{Leaks, Protects, mark, marked, marks_of, marks_given, is_set}
use Rattle.table.specs.declared.Table.{Table}
use Rattle.table.specs.declared.Thread.{Thread}
use Rattle.table.specs.Mark.{Mark}
use Rattle.numeral.specs.NumberRules.{Bytes}
use Rattle.reader.specs.Reader.{accepted, reading}
use Rattle.writer.specs.Format.{bytes}
use Rattle.writer.specs.Writer.{overlaid, writing, written}
use Rattle.state.specs.State.{no_progress, with_since, progress, fresh, fresh_given, last_clock, Fits}
use Rattle.state.specs.Release.{has_event, cut, by_clock, by_event, released, release, releases, ReleaseDue}
use Rattle.state.specs.Methods.{finish, tick}
use Rattle.state.specs.declared.Progress.{Progress}
use Rattle.state.specs.declared.State.{State}
use Rattle.frame.specs.Frame.{window, frame_ok, frame_length, window_at, domain_at, Falls}
use Rattle.frame.specs.Mode.{Mode, unframed, framed, mode_ok, walks}
use Rattle.frame.specs.declared.Frame.{Frame}
use Rattle.walk.specs.Walk.{heard, runs, visit}
use Rattle.walk.specs.Step.{Input, marks_at, step, Rested, Names, Says, ran_by}
use Rattle.walk.specs.Paid.{pays, payments, runs_of, Unreleased}
use Rattle.walk.specs.Releases.{releases_in}
use Rattle.walk.specs.declared.Answer.TheVariants.{Ran, Idle}
use Rattle.scheduler.specs.Taken.{Taken, took, mask_ok, taken}
use Rattle.scheduler.specs.Calls.{WholeSteps, calls, steps}
use Rattle.block.specs.Block.{byte_of, inputs, recorded}
use Rattle.admission.specs.Bounded.{bound, IsBound, NoBound}
use Rattle.admission.specs.Demand.{demand, sum, SumOf, Demands}
use Rattle.admission.specs.Tried.{tried, Searches, IsCount}
use Rattle.admission.specs.Admit.{counts_given}
use Rattle.admission.specs.Worst.{worst}
use Rattle.admission.specs.Prohibition.{prohibition, Prohibits}

pub record Demand2 : Type 0 where
  -- Bytes are accepted exactly when they are those of a legal table, and then they are read as that table; so a legal table has one form.
  pub accepted_exactly : (s : List ℕ) → Bytes s → (t : Table) → (reading s ≡ accepted t) ↔ (Legal t × (s ≡ bytes t))
  -- Reading accepted bytes and writing them gives the same bytes, wherever there is room; the bytes around them stay.
  pub read_write : (s : List ℕ) → Bytes s → (t : Table) → reading s ≡ accepted t → (b : List ℕ) (at : ℕ) → at + length s ≤ length b
      → (writing b at t ≡ answered ((at + length s) ∷ [])) × (written b at t ≡ overlaid b at s)
  -- Writing a legal table and reading it gives the same table.
  pub write_read : (t : Table) → Sized t → (b : List ℕ) (at next : ℕ) → writing b at t ≡ answered (next ∷ [])
      → reading (drop at (take next (written b at t))) ≡ accepted t
  -- A thread is marked exactly when some thread of lower priority has a domain that its own may not flow to.
  pub marks : (t : Table) (i : ℕ) → legal t ≡ true → i < t.count → (is_set (marks_given t) i ≡ true) ↔ Leaks t i
  -- Its mark names the first such thread in table order.
  pub marks_name : (t : Table) (i j : ℕ) → legal t ≡ true → i < t.count → (get_or (marks_given t) i (mark nothing) ≡ mark (found j)) ↔ Protects t i j
  -- The step goes by the same marks, at every clock of both modes.
  pub marked_exactly : (t : Table) (i : ℕ) → (marked t i ≡ true) ↔ Leaks t i
  pub set_exactly : (t : Table) (i : ℕ) → i < t.count → is_set (marks_of t) i ≡ marked t i
  pub at_marks : (t : Table) (mode : Mode) (c i : ℕ) → i < t.count → is_set (marks_at t mode c) i ≡ marked t i
  -- From every fitting state a call that nothing refuses is the step, and so is each of a whole run of them.
  pub call-steps : (t : Table) (mode : Mode) → legal t ≡ true → mode_ok t mode ≡ true → (x : Input) → length x.bytes ≡ t.count → mask_ok t x.mask ≡ true → (s : State) → Fits t s
      → s.clock < last_clock → taken t mode x s ≡ took (step t mode x s)
  pub run-steps : (t : Table) (mode : Mode) → legal t ≡ true → mode_ok t mode ≡ true → (a : List Input) → WholeSteps t a → (s : State) → Fits t s
      → s.clock + length a ≤ last_clock → calls t mode a s ≡ map took (steps t mode a s)
  -- A block that is not refused is as many single calls, none of which is refused: the same state, and from the place on the bytes of their
  -- answers; the record's other bytes stay.
  pub block-calls : (t : Table) (mode : Mode) (masks bs : List ℕ) (s : State) (out : List ℕ) (at : ℕ) → length s.threads ≡ 32
      → (recorded t mode masks bs s out at).number ≡ 0
      → calls t mode (inputs t masks bs 0 (length masks)) s ≡ map took (steps t mode (inputs t masks bs 0 (length masks)) s)
  pub block-state : (t : Table) (mode : Mode) (masks bs : List ℕ) (s : State) (out : List ℕ) (at : ℕ) → length s.threads ≡ 32
      → (recorded t mode masks bs s out at).number ≡ 0
      → (recorded t mode masks bs s out at).state ≡ after (taken t mode) (λ (r : Taken). r.state) (inputs t masks bs 0 (length masks)) s
  pub block-trace : (t : Table) (mode : Mode) (masks bs : List ℕ) (s : State) (out : List ℕ) (at : ℕ) → length s.threads ≡ 32
      → (recorded t mode masks bs s out at).number ≡ 0
      → (recorded t mode masks bs s out at).part
      ≡ take at out ++ (map byte_of (calls t mode (inputs t masks bs 0 (length masks)) s) ++ drop (at + length masks) out)
  -- It reports the place behind its last byte.
  pub block-next : (t : Table) (mode : Mode) (masks bs : List ℕ) (s : State) (out : List ℕ) (at : ℕ)
      → (recorded t mode masks bs s out at).number ≡ 0 → (recorded t mode masks bs s out at).next ≡ at + length masks
  -- Two blocks one after the other, the second written where the first stopped, are one.
  pub two_blocks : (t : Table) (mode : Mode) → Sized t → (masks masks' bs bs' : List ℕ) (s : State) (out : List ℕ) (at : ℕ)
      → let one = recorded t mode masks bs s out at in
      let two = recorded t mode masks' bs' one.state one.part one.next in
      one.number ≡ 0 → two.number ≡ 0 → recorded t mode (masks ++ masks') (bs ++ bs') s out at ≡ two
  -- A run starts fresh: at clock 0, all zero and unmarked, an event thread with P steps since release.
  pub fresh-legal : (t : Table) → legal t ≡ true → fresh_given t ≡ fresh t
  pub fresh_clock : (t : Table) → (fresh t).clock ≡ 0
  pub fresh_periodic : (t : Table) (i : ℕ) → i < t.count → (thread t i).kind ≢ 1 → progress (fresh t) i ≡ no_progress
  pub fresh-event : (t : Table) (i : ℕ) → i < t.count → (thread t i).kind ≡ 1 → progress (fresh t) i ≡ with_since (thread t i).period no_progress
  -- The release, of every thread, by the clock or by events.
  pub release-each : (t : Table) (mask : ℕ) (s : State) (i : ℕ) → i < t.count → i < length s.threads
      → progress (release t mask s) i ≡ released (thread t i) s.clock (has_event mask i) (progress s i)
  pub clock_released : (th : Thread) (c : ℕ) (e : Bool) (p : Progress) → th.kind ≢ 1 → released th c e p ≡ by_clock th c p
  pub event-released : (th : Thread) (c : ℕ) (e : Bool) (p : Progress) → th.kind ≡ 1 → released th c e p ≡ by_event th e p
  -- By the clock: phase 0 sets the rest to W and the rest of execution to W - B and clears the mark; before O, and in other phases below
  -- D, nothing happens; from D on both rests are 0.
  pub at-release : (th : Thread) (c : ℕ) (p : Progress) → th.offset ≤ c → (c - th.offset) % th.period ≡ 0
      → ((by_clock th c p).rest ≡ th.budget) × ((by_clock th c p).execution ≡ th.budget - th.blocking)
      × ((by_clock th c p).finished ≡ false) × ((by_clock th c p).ran ≡ p.ran)
  pub before_offset : (th : Thread) (c : ℕ) (p : Progress) → c < th.offset → by_clock th c p ≡ p
  pub other_phases : (th : Thread) (c : ℕ) (p : Progress) → th.offset ≤ c → (c - th.offset) % th.period ≢ 0
      → (c - th.offset) % th.period < th.deadline → by_clock th c p ≡ p
  pub past_deadline : (th : Thread) (c : ℕ) (p : Progress) → th.offset ≤ c → (c - th.offset) % th.period ≢ 0
      → th.deadline ≤ (c - th.offset) % th.period → by_clock th c p ≡ cut p
  -- By events: one that comes P or more steps after the last release does the same; an earlier one is lost; without a release nothing
  -- happens before D, and D or more steps after the last release both rests are 0.
  pub at-event : (th : Thread) (p : Progress) → th.period ≤ p.since
      → ((by_event th true p).rest ≡ th.budget) × ((by_event th true p).execution ≡ th.budget - th.blocking)
      × ((by_event th true p).finished ≡ false) × ((by_event th true p).ran ≡ p.ran) × ((by_event th true p).since ≡ 0)
  pub early_event : (th : Thread) (p : Progress) → p.since < th.period → by_event th true p ≡ by_event th false p
  pub before_deadline : (th : Thread) (p : Progress) → p.since < th.deadline → by_event th false p ≡ p
  pub after_deadline : (th : Thread) (p : Progress) → th.deadline ≤ p.since → by_event th false p ≡ cut p
  -- A thread runs by the byte 1, unless its finish mark is set or it has no execution left; 2 sets the mark; every other byte acts as 0.
  pub runs_exactly : (b : ℕ) (p : Progress) → (runs b p ≡ true) ↔ ((b ≡ 1) × (p.finished ≡ false) × (0 < p.execution))
  pub two_finishes : (i : ℕ) (s : State) → heard 2 i s ≡ finish s i
  pub strange_waits : (m : List Mark) (b i : ℕ) (s : State) → b ≢ 1 → b ≢ 2 → visit m b i s ≡ visit m 0 i s
  -- The thread chosen had a rest, and it runs, or is marked and waits; above it no thread with a rest runs or is marked.
  pub chosen_rested : (t : Table) (mode : Mode) (x : Input) (s : State) → Rested (step t mode x s).answer (release t x.mask s)
  pub chosen_says : (t : Table) (mode : Mode) (x : Input) (s : State) → Says (marks_of t) x.bytes (release t x.mask s) (step t mode x s).answer
  pub chosen-first : (t : Table) (mode : Mode) → Legal t → (x : Input) (s : State) (k i : ℕ) → Names k (step t mode x s).answer
      → (thread t k).priority < (thread t i).priority → i < t.count → walks t mode s.clock i ≡ true → 0 < (progress (release t x.mask s) i).rest
      → (marked t i ≡ false) × (runs (get_or x.bytes i 0) (progress (release t x.mask s) i) ≡ false)
  -- The processor idles on nobody's account only where no thread with a rest runs or is marked.
  pub idle_only : (t : Table) (mode : Mode) → Legal t → (x : Input) (s : State) → (step t mode x s).answer ≡ Idle → (i : ℕ) → i < t.count → walks t mode s.clock i ≡ true
      → 0 < (progress (release t x.mask s) i).rest
      → (marked t i ≡ false) × (runs (get_or x.bytes i 0) (progress (release t x.mask s) i) ≡ false)
  -- Every thread with a rest down to the chosen one, or all where nobody is chosen, pays one; those below it are as the release left them, one tick
  -- later.
  pub reached_pay_one : (t : Table) (mode : Mode) → Legal t → (x : Input) (s : State) → Fits t s → (i : ℕ) → i < t.count → walks t mode s.clock i ≡ true
      → 0 < (progress (release t x.mask s) i).rest
      → ((k : ℕ) → Names k (step t mode x s).answer → (thread t k).priority ≤ (thread t i).priority) → pays t mode x s i ≡ 1
  pub below_chosen : (t : Table) (mode : Mode) (x : Input) (s : State) (i k : ℕ) → Names i (step t mode x s).answer
      → (thread t k).priority < (thread t i).priority → progress (step t mode x s).state k ≡ progress (tick t (release t x.mask s)) k
  -- Threads that the mode does not have at that clock are not chosen, pay nothing and are not heard. Without a frame it has all; in a window of
  -- domain d those of every domain that d may flow to.
  pub chosen-walks : (t : Table) (mode : Mode) (x : Input) (s : State) (i : ℕ) → Names i (step t mode x s).answer → walks t mode s.clock i ≡ true
  pub outside_stays : (t : Table) (mode : Mode) (x : Input) (s : State) (i : ℕ) → walks t mode s.clock i ≡ false
      → progress (step t mode x s).state i ≡ progress (tick t (release t x.mask s)) i
  pub outside_unheard : (t : Table) (mode : Mode) (mask : ℕ) (bs cs : List ℕ) (s : State) → length bs ≡ length cs
      → ((i : ℕ) → walks t mode s.clock i ≡ true → get_or bs i 0 ≡ get_or cs i 0)
      → taken t mode (record { mask = mask; bytes = bs }) s ≡ taken t mode (record { mask = mask; bytes = cs }) s
  pub unframed_walks : (t : Table) (c i : ℕ) → walks t unframed c i ≡ true
  pub framed_walks : (t : Table) (f : Frame) (c i : ℕ) → walks t (framed f) c i ≡ flows t.rows (domain_at f c) (thread t i).domain
  -- The window that a clock falls in, of a frame that repeats from clock 0.
  pub window_falls : (t : Table) (f : Frame) → frame_ok t f ≡ true → (c : ℕ) → Falls f c (window_at f c)
  pub window-once : (f : Frame) (c j k : ℕ) → Falls f c j → Falls f c k → j ≡ k
  pub window-first : (t : Table) (f : Frame) → frame_ok t f ≡ true → window_at f 0 ≡ 0
  pub window_repeats : (f : Frame) (c n : ℕ) → window_at f (c + n * frame_length f) ≡ window_at f c
  pub window_domain : (f : Frame) (c : ℕ) → domain_at f c ≡ (window f (window_at f c)).domain
  -- Of each of those that pay, the finish mark is set then if it was before or the byte is 2.
  pub reached_marks : (t : Table) (mode : Mode) → Legal t → (x : Input) (s : State) → Fits t s → (i : ℕ) → i < t.count → walks t mode s.clock i ≡ true
      → 0 < (progress (release t x.mask s) i).rest
      → ((k : ℕ) → Names k (step t mode x s).answer → (thread t k).priority ≤ (thread t i).priority)
      → (progress (step t mode x s).state i).finished ≡ or (progress (release t x.mask s) i).finished (eqb (get_or x.bytes i 0) 2)
  -- So a thread pays one at most in a step, and between two releases W at most.
  pub pays-once : (t : Table) (mode : Mode) (x : Input) (s : State) (i : ℕ) → pays t mode x s i ≤ 1
  pub payments-most : (t : Table) (mode : Mode) (i : ℕ) (x : Input) (more : List Input) (s : State) → i < t.count → Fits t s
      → Unreleased t mode i more (step t mode x s).state → payments t mode i (x ∷ more) s ≤ (thread t i).budget
  -- It runs W - B at most between two releases, whatever it sends, and never with no execution left.
  pub runs-most : (t : Table) (mode : Mode) (i : ℕ) (x : Input) (more : List Input) (s : State) → t.count ≤ 32 → i < t.count → Fits t s
      → Unreleased t mode i more (step t mode x s).state → runs_of t mode i (x ∷ more) s ≤ (thread t i).budget - (thread t i).blocking
  pub runs_rested : (t : Table) (mode : Mode) (x : Input) (s : State) (i : ℕ) → (step t mode x s).answer ≡ Ran i
      → 0 < (progress (release t x.mask s) i).execution
  -- A thread with no rest is passed and stays as the release left it, one tick later; a count goes up by one exactly if its thread ran, and then its rest of execution
  -- goes down by one.
  pub rest_stays : (t : Table) (mode : Mode) (x : Input) (s : State) (i : ℕ) → (progress (release t x.mask s) i).rest ≡ 0
      → progress (step t mode x s).state i ≡ progress (tick t (release t x.mask s)) i
  pub step_counts : (t : Table) (mode : Mode) (x : Input) (s : State) → t.count ≤ 32 → Fits t s → (i : ℕ) → i < t.count
      → (progress (step t mode x s).state i).ran ≡ (progress (release t x.mask s) i).ran + ran_by i (step t mode x s).answer
  pub step-runs : (t : Table) (mode : Mode) (x : Input) (s : State) (i : ℕ) → i < length s.threads
      → (progress (step t mode x s).state i).execution + ran_by i (step t mode x s).answer ≡ (progress (release t x.mask s) i).execution
  -- A step is a release of a periodic thread exactly if the clock is at least O and the phase is 0, of an event thread exactly if its event
  -- comes P or more steps after its last release.
  pub releases_exactly : (t : Table) (i mask : ℕ) (s : State) → (releases t i mask s ≡ true) ↔ ReleaseDue t i mask s
  -- So two releases of a thread are at least P steps apart, and in any L steps in a row it is released ceil(L / P) times at most.
  pub releases-apart : (t : Table) (mode : Mode) → legal t ≡ true → Sized t → (i : ℕ) → i < t.count → (a : List Input) (s : State) → Fits t s → (j k : ℕ) → j < k
      → get_or (releases_in t mode i a s) j false ≡ true → get_or (releases_in t mode i a s) k false ≡ true → j + (thread t i).period ≤ k
  pub releases-most : (t : Table) (mode : Mode) → legal t ≡ true → Sized t → (i : ℕ) → i < t.count → (a : List Input) (s : State) → Fits t s → (from many : ℕ)
      → happened (take many (drop from (releases_in t mode i a s))) ≤ ceil many (thread t i).period
  -- The steps since an event thread's release go up by one with the clock, P at most; a periodic thread's stay. Nothing else ages.
  pub since_grows : (t : Table) (mode : Mode) (x : Input) (s : State) (i : ℕ) → i < t.count → i < length s.threads → (thread t i).kind ≡ 1
      → (progress (release t x.mask s) i).since < (thread t i).period
      → (progress (step t mode x s).state i).since ≡ (progress (release t x.mask s) i).since + 1
  pub since_stops : (t : Table) (mode : Mode) (x : Input) (s : State) (i : ℕ) → i < t.count → i < length s.threads → (thread t i).kind ≡ 1
      → (thread t i).period ≤ (progress (release t x.mask s) i).since
      → (progress (step t mode x s).state i).since ≡ (progress (release t x.mask s) i).since
  pub since_periodic : (t : Table) (mode : Mode) (x : Input) (s : State) (i : ℕ) → i < t.count → i < length s.threads → (thread t i).kind ≢ 1
      → (progress (step t mode x s).state i).since ≡ (progress (release t x.mask s) i).since
  pub tick-leaves : (t : Table) (s : State) (i : ℕ)
      → ((progress (tick t s) i).rest ≡ (progress s i).rest) × ((progress (tick t s) i).execution ≡ (progress s i).execution)
      × ((progress (tick t s) i).finished ≡ (progress s i).finished) × ((progress (tick t s) i).ran ≡ (progress s i).ran)
  -- The clock goes up by one.
  pub step_clock : (t : Table) (mode : Mode) (x : Input) (s : State) → (step t mode x s).state.clock ≡ s.clock + 1
  -- The demand is W and the sum of what each thread brings; a bound is the smallest length from W to D whose demand is at most that
  -- length, and there is none exactly where no length is so.
  pub demands : (t : Table) (i x n : ℕ) → (demand t i x ≡ (thread t i).budget + n) ↔ SumOf (Demands t i x) t.count n
  pub bounds : (t : Table) (i x : ℕ) → (bound t i ≡ found x) ↔ IsBound t i x
  pub no_bounds : (t : Table) (i : ℕ) → (bound t i ≡ nothing) ↔ NoBound t i
  -- The count of a search is the number of lengths in its sequence, at most D - W + 1; what the sequence ends with is still the bound. All counts
  -- of an admission are together at most the worst count, which is the sum of D - W + 1 over the threads.
  pub counts : (t : Table) (i n : ℕ) → (tried t i ≡ n) ↔ IsCount t i n
  pub counts_most : (t : Table) (i : ℕ) → tried t i ≤ (thread t i).deadline - (thread t i).budget + 1
  pub search_finds : (t : Table) (i : ℕ) → Legal t → (xs : List ℕ) (s : Sought ℕ) → Searches t i (thread t i).budget xs s → bound t i ≡ s
  pub counts_within : (t : Table) → sum 32 (λ i. get_or (counts_given t) i 0) ≤ worst t
  pub worsts : (t : Table) (n : ℕ) → (worst t ≡ n) ↔ SumOf (λ i m. (thread t i).deadline - (thread t i).budget + 1 ≡ m) t.count n
  -- The prohibition time is the sum of what each thread brings.
  pub prohibitions : (t : Table) (l time : ℕ) → (prohibition t l ≡ time) ↔ SumOf (Prohibits t l) t.count time
