-- `block::play::play` meets its contract: after k steps the state is that of k steps, and their bytes are written.
use native.Mathlib.Omega.{arith}
use native.Mathlib.Nat.{add-zero, le_antisymm}
use mathlib.Core.List.{List, ◌∷◌}
use mathlib.Core.Path.{◌≡◌, refl, sym, ◌∙◌, ap}
use Prim.Native.Nat.{ℕ, ◌≤◌, ◌<◌, ◌-◌, ◌+◌}
use lib.ListN.{length, get_or, take, drop}
use lib.Seq.{slice}
use Rattle.basis.specs.Search.{listed}
use Rattle.basis.specs.Turns.{in_turn, after}
use Rattle.basis.proofs.ListLaws.{long_of}
use Rattle.table.specs.Threads.{thread}
use Rattle.table.specs.Mark.{Mark}
use Rattle.table.specs.declared.Table.{Table}
use Rattle.state.specs.State.{progress, put, last_clock, each_thread, Fits}
use Rattle.state.specs.Release.{has_event, release}
use Rattle.state.specs.Methods.{tick}
use Rattle.state.specs.declared.State.{State}
use Rattle.order.specs.Order.{Below}
use Rattle.walk.specs.Walk.{walk}
use Rattle.walk.specs.Step.{advance}
use Rattle.walk.specs.declared.Walked.{Walked}
use Rattle.walk.proofs.WalkLaws.{slice_next}
use Rattle.walk.proofs.StepLaws.{advance_clock, advance-fits}
use Rattle.block.specs.Block.{inputs, end_of, trace_of}
use Rattle.block.proofs.ThreadLaws.{moved, event_refills, event_empties, event-leaves, clock_refills, clock_empties, clock_leaves, each_more, waits_long}
use Rattle.block.proofs.EarlyLaws.{all_moved}
use Rattle.block.proofs.VisitLaws.{on, Going, going_counted, going_runs, going_idles, going_next, going_passed, going_done, going_end, Traces, run-left}
use Rattle.block.proofs.StretchLaws.{fits-at, clock_at, moved_long, moved-counted, next-state, next-trace, part-inside, part-is, part_length, next-part}
use borrow.Author.Rules.{rules}
use Rattle.block.proofs.play.play.Goals as goal
use Rattle.block.proofs.play.play.Goals.{then-th-eq1+in-Refill, then-th-eq1+in-Empty, then-th-eq1+in-Stay, else-th-eq1+in-Refill-clock_effect, else-th-eq1+in-Empty-clock_effect, else-th-eq1+in-Stay-clock_effect, else-loop-r-test, then-loop-r-test+else-rest-eq0+then-would_run, then-loop-r-test+else-rest-eq0+else-would_run+then-is_some}

-- The state at the head of a turn fits, and its clock is below the last.
module _ (t : Table) (m : List Mark) (is masks bs : List ℕ) (from k n : ℕ) (s y : State)
    (h : Fits t s) (room : s.clock + n ≤ last_clock) (some : k < n) (e : y ≡ end_of (advance t m is) (inputs t masks bs from k) s) where
  fitting : Below t.count is → Fits t y
  fitting b = fits-at t (advance t m is) (advance_clock t m is) (λ x z g u. advance-fits t m is x z b g u) masks bs from k s y e h (omega arith)

  early : y.clock < last_clock
  early = omega (arith, clock_at t (advance t m is) (advance_clock t m is) masks bs from k s y e)

-- One thread more is moved.
one_more : (t : Table) (mask i : ℕ) (y z x : State) → z ≡ each_thread (λ j. moved (thread t j) y.clock (has_event mask j)) i y
    → x ≡ put z i (moved (thread t i) y.clock (has_event mask i) (progress z i))
    → x ≡ each_thread (λ j. moved (thread t j) y.clock (has_event mask j)) (i + 1) y
one_more t mask i y z x h e = e ∙ each_more (λ j. moved (thread t j) y.clock (has_event mask j)) i y z h

-- The place of a thread is there.
in_place : (t : Table) (mask i : ℕ) (y z : State) → Fits t y → t.count ≤ 32 → i < t.count → z ≡ each_thread (λ j. moved (thread t j) y.clock (has_event mask j)) i y
    → i < length z.threads
in_place t mask i y z f few l h = omega (arith, moved_long t mask y f i z h)

-- The state that the walk starts from.
all-early : (t : Table) (mask i : ℕ) (y z : State) → i ≤ t.count → t.count ≤ i → z ≡ each_thread (λ j. moved (thread t j) y.clock (has_event mask j)) i y
    → ◌≡◌ {A = State} (record { clock = y.clock + 1; threads = z.threads }) (tick t (release t mask y))
all-early t mask i y z h k e =
    all_moved t mask y z (e ∙ ap (λ (n : ℕ). each_thread (λ j. moved (thread t j) y.clock (has_event mask j)) n y) (le_antisymm h k))

-- In the walk: the thread at the head of the ranks that are left, and those after it.
module _ (r n : ℕ) (l : List ℕ) (long : n ≤ length l) (h : r < n) where
  split : slice r n l ≡ get_or l r 0 ∷ slice (r + 1) n l
  split = slice_next _ _ _ long h

  below : (c : ℕ) → Below c (slice r n l) → Below c (get_or l r 0 ∷ slice (r + 1) n l)
  below c b = rw split at b

  going : (m : List Mark) (bs : List ℕ) (s : State) (a : ℕ) (w : Walked) → Going m bs (slice r n l) s a w → Going m bs (get_or l r 0 ∷ slice (r + 1) n l) s a w
  going m bs s a w g = rw split at g

pub loop-k-init : goal.loop-k-init
unfolding end_of trace_of inputs listed after in_turn
loop-k-init c = (rw add-zero, refl, refl)

pub loop-i-init : goal.loop-i-init
unfolding each_thread
loop-i-init c = refl

-- One thread more is moved, by each effect.
pub loop-i-preserved : goal.loop-i-preserved
loop-i-preserved c =
    let f : Fits c.args.t c.loop-k.next = fitting _ _ _ _ _ _ _ _ _ _ c.requires.fits.0 c.requires.fits.1 c.loop-k-test.true c.loop-k.invariant.1 c.requires.usable.2 in
    let l : c.loop-i.i < length c.loop-i.next.threads = in_place _ _ _ _ _ f c.requires.usable.0.few c.loop-i-test.true c.loop-i.invariant in
    one_more c.args.t _ _ _ _ _ c.loop-i.invariant
    (elim c.if-th-eq1.branch [
      | then-th-eq1+in-Refill w ↦ w.next-is ∙ event_refills c.loop-i.next c.loop-i.i l _ _ _ w.if-th-eq1.true (rw w.has_event.ensures at w.in-Refill.ensures) _ _ w.execution_budget.ensures w.since_after.ensures
      | then-th-eq1+in-Empty w ↦ w.next-is ∙ event_empties c.loop-i.next c.loop-i.i l _ _ _ w.if-th-eq1.true (rw w.has_event.ensures at w.in-Empty.ensures) _ w.since_after-in-Empty.ensures
      | then-th-eq1+in-Stay w ↦ w.next-is ∙ event-leaves c.loop-i.next c.loop-i.i l _ _ _ w.if-th-eq1.true (rw w.has_event.ensures at w.in-Stay.ensures) _ w.since_after-in-Stay.ensures
      | else-th-eq1+in-Refill-clock_effect w ↦ w.next-is ∙ clock_refills c.loop-i.next c.loop-i.i l _ _ _ w.if-th-eq1.false w.in-Refill-clock_effect.ensures _ w.execution_budget-in-Refill-clock_effect.ensures
      | else-th-eq1+in-Empty-clock_effect w ↦ w.next-is ∙ clock_empties c.loop-i.next c.loop-i.i l _ _ _ w.if-th-eq1.false w.in-Empty-clock_effect.ensures
      | else-th-eq1+in-Stay-clock_effect w ↦ w.next-is ∙ clock_leaves c.loop-i.next c.loop-i.i l _ _ _ w.if-th-eq1.false w.in-Stay-clock_effect.ensures
    ])

pub overflow_add-next : goal.overflow_add-next
overflow_add-next c = omega (arith, early _ _ _ _ _ _ _ _ _ _ c.requires.fits.0 c.requires.fits.1 c.loop-k-test.true c.loop-k.invariant.1)

pub loop-r-init : goal.loop-r-init
loop-r-init c =
    let f : Fits c.args.t c.loop-k.next = fitting _ _ _ _ _ _ _ _ _ _ c.requires.fits.0 c.requires.fits.1 c.loop-k-test.true c.loop-k.invariant.1 c.requires.usable.2 in
    let u : c.loop-k.next.clock < last_clock = early _ _ _ _ _ _ _ _ _ _ c.requires.fits.0 c.requires.fits.1 c.loop-k-test.true c.loop-k.invariant.1 in (
      c.requires.usable.2,
      on refl (moved-counted _ _ _ f _ u (all-early _ _ _ _ _ c.loop-i.auto.i-end c.loop-i-test.false c.loop-i.invariant)) refl,
      moved_long _ _ _ f _ _ c.loop-i.invariant,
    )

pub place-p-requires : goal.place-p-requires
place-p-requires c =
    let long : length c.args.order.at ≡ 32 = search (rules, long_of) in
    let n : c.args.order.count ≤ length c.args.order.at = omega arith in
    let b : Below c.args.t.count (get_or c.args.order.at c.loop-r.r 0 ∷ slice (c.loop-r.r + 1) c.args.order.count c.args.order.at) = below _ _ _ n c.loop-r-test.true _ c.loop-r.invariant.0 in
    omega (arith, b.0, c.requires.usable.0.few)

pub loop-r-preserved-then-rest-eq0 : goal.loop-r-preserved-then-rest-eq0
loop-r-preserved-then-rest-eq0 c =
    let long : length c.args.order.at ≡ 32 = search (rules, long_of) in
    let n : c.args.order.count ≤ length c.args.order.at = omega arith in
    let b : Below c.args.t.count (get_or c.args.order.at c.loop-r.r 0 ∷ slice (c.loop-r.r + 1) c.args.order.count c.args.order.at) = below _ _ _ n c.loop-r-test.true _ c.loop-r.invariant.0 in
    let low : get_or c.args.order.at c.loop-r.r 0 < 32 = omega (arith, b.0, c.requires.usable.0.few) in (
      b.1,
      going_passed _ _ _ _ _ c.loop-r.next (omega (arith, c.loop-r.invariant.2)) low _ _ (going _ _ _ n c.loop-r-test.true _ _ _ _ _ c.loop-r.invariant.1) c.place-p.ensures.0 c.if-rest-eq0.true,
      c.loop-r.invariant.2,
    )

pub bounds-now-p : goal.bounds-now-p
bounds-now-p c =
    let long : length c.args.order.at ≡ 32 = search (rules, long_of) in
    let n : c.args.order.count ≤ length c.args.order.at = omega arith in
    let b : Below c.args.t.count (get_or c.args.order.at c.loop-r.r 0 ∷ slice (c.loop-r.r + 1) c.args.order.count c.args.order.at) = below _ _ _ n c.loop-r-test.true _ c.loop-r.invariant.0 in
    let room : c.loop-k.at + c.args.t.count ≤ length c.args.bytes.now
    = omega (arith, part-inside (c.args.from + c.loop-k.k) (length c.args.masks.now) c.args.t.count (omega arith), c.loop-k.invariant.0, c.requires.fits.2) in
    omega (arith, part_length c.loop-k.at c.args.t.count c.args.bytes.now room, b.0, c.place-p.ensures.0)

pub overflow_sub-next-then-would_run : goal.overflow_sub-next-then-would_run
overflow_sub-next-then-would_run c = omega (arith, run-left _ _ _ (sym c.would_run.ensures ∙ c.if-would_run.true))

pub overflow_add-next-then-would_run : goal.overflow_add-next-then-would_run
overflow_add-next-then-would_run c =
    let long : length c.args.order.at ≡ 32 = search (rules, long_of) in
    let n : c.args.order.count ≤ length c.args.order.at = omega arith in
    let k = going_counted _ _ _ _ _ _ _ (going _ _ _ n c.loop-r-test.true _ _ _ _ _ c.loop-r.invariant.1) in
    omega (arith, k.at c.place-p.result)

pub loop-r-preserved : goal.loop-r-preserved
loop-r-preserved c =
    let long : length c.args.order.at ≡ 32 = search (rules, long_of) in
    let n : c.args.order.count ≤ length c.args.order.at = omega arith in
    let b : Below c.args.t.count (get_or c.args.order.at c.loop-r.r 0 ∷ slice (c.loop-r.r + 1) c.args.order.count c.args.order.at) = below _ _ _ n c.loop-r-test.true _ c.loop-r.invariant.0 in
    let low : get_or c.args.order.at c.loop-r.r 0 < 32 = omega (arith, b.0, c.requires.usable.0.few) in (
      b.1,
      going_next _ _ _ _ _ c.loop-r.next (omega (arith, c.loop-r.invariant.2)) low _ _ _ (going _ _ _ n c.loop-r-test.true _ _ _ _ _ c.loop-r.invariant.1) c.place-p.ensures.0 c.if-rest-eq0.false (sym c.would_run.ensures ∙ c.if-would_run.false) c.heard.ensures (sym c.is_some.ensures ∙ c.if-is_some.false),
      waits_long c.loop-r.next c.place-p.result ((progress c.loop-r.next c.place-p.result).rest - 1) c.heard.result ∙ c.loop-r.invariant.2,
    )

-- The walk ends behind its last thread, at one that runs, or at one with a mark that waits.
pub loop-k-preserved : goal.loop-k-preserved
loop-k-preserved c =
    let long : length c.args.order.at ≡ 32 = search (rules, long_of) in
    let n : c.args.order.count ≤ length c.args.order.at = omega arith in
    let d : Traces (walk c.args.marks (take (c.loop-k.at + c.args.t.count - c.loop-k.at) (drop c.loop-k.at c.args.bytes.now)) (slice 0 c.args.order.count c.args.order.at)
    (record { clock = c.loop-k.next.clock + 1; threads = c.loop-i.next.threads })) c.loop-r-test.next c.loop-r-test.answer
    = elim c.loop-r-test.branch [
      | else-loop-r-test w ↦ rw (w.next-is, w.answer-is) (going_done _ _ _ _ _ _ _ c.loop-r.r c.loop-r.auto.r-end w.loop-r-test.false c.loop-r.invariant.1)
      | then-loop-r-test+else-rest-eq0+then-would_run w ↦
          let b : Below c.args.t.count (get_or c.args.order.at c.loop-r.r 0 ∷ slice (c.loop-r.r + 1) c.args.order.count c.args.order.at) = below _ _ _ n w.loop-r-test.true _ c.loop-r.invariant.0 in
          let low : get_or c.args.order.at c.loop-r.r 0 < 32 = omega (arith, b.0, c.requires.usable.0.few) in
          rw (w.next-is, w.answer-is)
          (going_end _ _ _ _ _
          (going_runs _ _ _ _ _ c.loop-r.next (omega (arith, c.loop-r.invariant.2)) low _ _ (going _ _ _ n w.loop-r-test.true _ _ _ _ _ c.loop-r.invariant.1) w.place-p.ensures.0 w.if-rest-eq0.false (sym w.would_run.ensures ∙ w.if-would_run.true)))
      | then-loop-r-test+else-rest-eq0+else-would_run+then-is_some w ↦
          let b : Below c.args.t.count (get_or c.args.order.at c.loop-r.r 0 ∷ slice (c.loop-r.r + 1) c.args.order.count c.args.order.at) = below _ _ _ n w.loop-r-test.true _ c.loop-r.invariant.0 in
          let low : get_or c.args.order.at c.loop-r.r 0 < 32 = omega (arith, b.0, c.requires.usable.0.few) in
          rw (w.next-is, w.answer-is)
          (going_end _ _ _ _ _
          (going_idles _ _ _ _ _ c.loop-r.next (omega (arith, c.loop-r.invariant.2)) low _ _ _ (going _ _ _ n w.loop-r-test.true _ _ _ _ _ c.loop-r.invariant.1) w.place-p.ensures.0 w.if-rest-eq0.false (sym w.would_run.ensures ∙ w.if-would_run.false) w.heard.ensures (sym w.is_some.ensures ∙ w.if-is_some.true)))
    ] in
    let g = all-early _ _ _ _ _ c.loop-i.auto.i-end c.loop-i-test.false c.loop-i.invariant in
    let w = part-is c.loop-k.at (c.args.from + c.loop-k.k) c.args.t.count c.args.bytes.now c.loop-k.invariant.0 in (
      next-part _ c.args.from c.loop-k.k _ c.loop-k.invariant.0,
      next-state c.args.t c.args.marks _ _ _ c.args.s c.args.from c.loop-k.k _ _ _ _ _ c.loop-k.invariant.1 w g d,
      next-trace c.args.t c.args.marks _ _ _ c.args.s c.args.from c.loop-k.k _ _ _ _ _ c.loop-k.invariant.1 w g d _ _ c.loop-k.invariant.2,
    )
