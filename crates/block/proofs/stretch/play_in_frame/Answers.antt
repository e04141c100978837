-- `block::stretch::play_in_frame` meets its contract: stretches, each within one window, join into the whole block.
use native.Mathlib.Omega.{arith}
use mathlib.Core.List.{List}
use mathlib.Core.Path.{◌≡◌, refl, sym, ◌∙◌, ap}
use Prim.Native.Nat.{ℕ, suc, ◌≤◌, ◌<◌, ◌-◌, ◌+◌, ◌%◌}
use lib.ListN.{length}
use Rattle.basis.specs.Search.{listed}
use Rattle.basis.specs.Turns.{in_turn, after}
use Rattle.table.specs.declared.Table.{Table}
use Rattle.state.specs.State.{last_clock, Fits}
use Rattle.state.specs.declared.State.{State}
use Rattle.order.specs.Order.{order, ranked}
use Rattle.order.specs.Open.{open_to}
use Rattle.order.proofs.OrderLaws.{order_below}
use Rattle.order.proofs.OpenLaws.{open_below}
use Rattle.frame.specs.Frame.{domain_at, before, window_at, frame_length, Timed}
use Rattle.frame.specs.Mode.{framed, threads_at}
use Rattle.frame.specs.declared.Frame.{Frame}
use Rattle.walk.specs.Step.{step}
use Rattle.walk.proofs.StepLaws.{step_clock, step_fits}
use Rattle.block.specs.Block.{inputs, end_of, trace_of}
use Rattle.block.proofs.StretchLaws.{fits-at, clock_at, sets_room}
use Rattle.block.proofs.WindowLaws.{some_left, threads_stay}
use Rattle.block.proofs.JoinLaws.{stretch_end, stretch-trace}
use borrow.Author.Rules.{rules}
use Rattle.block.proofs.stretch.play_in_frame.Goals as goal

-- The state at the head of a turn fits, and its clock is k further.
module _ (t : Table) (f : Frame) (masks bs : List ℕ) (k : ℕ) (s y : State) (e : y ≡ end_of (step t (framed f)) (inputs t masks bs 0 k) s) where
  fitting : Fits t s → s.clock + k ≤ last_clock → Fits t y
  fitting h l = fits-at t (step t (framed f)) (step_clock t (framed f)) (step_fits t (framed f)) masks bs 0 k s y e h l

  later : y.clock ≡ s.clock + k
  later = clock_at t (step t (framed f)) (step_clock t (framed f)) masks bs 0 k s y e

-- A turn's threads, and how long they stay.
threads : (t : Table) (f : Frame) (y : State) (is all : List ℕ) (d : ℕ) → is ≡ open_to t d all → all ≡ order t → d ≡ domain_at f y.clock
    → is ≡ open_to t (domain_at f y.clock) (order t)
threads t f y is all d e a q = e ∙ ap (λ (l : List ℕ). open_to t d l) a ∙ ap (λ (i : ℕ). open_to t i (order t)) q

stay : (t : Table) (f : Frame) (y : State) (is : List ℕ) (n left : ℕ) → Timed f → is ≡ open_to t (domain_at f y.clock) (order t) → n ≤ left
    → left ≡ before f (suc (window_at f y.clock)) - y.clock % frame_length f → (j : ℕ) → j < n → threads_at t (framed f) (y.clock + j) ≡ is
stay t f y is n left h e w q j l = threads_stay f h y.clock j (omega arith) t ∙ sym e

pub loop-k-init : goal.loop-k-init
unfolding end_of trace_of inputs listed after in_turn
loop-k-init c = (search rules, refl, refl)

pub narrow-p-requires : goal.narrow-p-requires
narrow-p-requires c = (c.requires.usable.0.few, c.requires.usable.2, rw c.requires.usable.3 (order_below c.args.t), c.requires.usable.4)

pub play-next-requires : goal.play-next-requires
play-next-requires c =
    let n : c.min-n.result ≤ length c.args.masks.now - c.loop-k.k = omega arith in
    let d = threads c.args.t c.args.f c.loop-k.next _ _ _ c.narrow-p.ensures.1 c.requires.usable.3 c.domain_at-d.ensures in
    let o = sets_room c.args.out.now c.loop-k.out 0 (trace_of (step c.args.t (framed c.args.f)) (inputs c.args.t c.args.masks.now c.args.bytes.now 0 c.loop-k.k) c.args.s) c.loop-k.invariant.2 in
    let e = later c.args.t c.args.f _ _ _ _ _ c.loop-k.invariant.1 in
    let u : c.args.s.clock + c.loop-k.k ≤ last_clock = omega arith in record {
      usable = (c.requires.usable.0, c.narrow-p.ensures.0, rw d (open_below c.args.t _ c.args.t.count (order c.args.t) (order_below c.args.t)));
      fits = (fitting c.args.t c.args.f _ _ _ _ _ c.loop-k.invariant.1 c.requires.fits.0 u, omega arith, c.requires.fits.2);
      steps_in_bounds = (omega arith, omega (arith, c.requires.fits.3));
    }

pub overflow_add-k : goal.overflow_add-k
overflow_add-k c =
    let n : c.min-n.result ≤ length c.args.masks.now - c.loop-k.k = omega arith in
    let h : c.loop-k.k + c.min-n.result ≤ last_clock = omega arith in omega arith

pub loop-k-smaller : goal.loop-k-smaller
loop-k-smaller c =
    let n : c.min-n.result ≤ length c.args.masks.now - c.loop-k.k = omega arith in
    let a : 0 < c.steps_left-left.result = omega (arith, c.steps_left-left.ensures, some_left c.args.f c.requires.usable.1 c.loop-k.next.clock) in
    let b : 0 < length c.args.masks.now - c.loop-k.k = omega arith in
    omega arith

pub loop-k-preserved : goal.loop-k-preserved
loop-k-preserved c =
    let n : c.min-n.result ≤ length c.args.masks.now - c.loop-k.k = omega arith in
    let d = threads c.args.t c.args.f c.loop-k.next _ _ _ c.narrow-p.ensures.1 c.requires.usable.3 c.domain_at-d.ensures in
    let h = stay c.args.t c.args.f c.loop-k.next _ c.min-n.result _ c.requires.usable.1 d (omega arith) c.steps_left-left.ensures in (
      omega arith,
      stretch_end c.args.t (framed c.args.f) _ c.narrow-p.ensures.2 (ranked c.narrow-p.result.order) c.args.masks.now c.args.bytes.now c.args.s c.loop-k.next c.loop-k.k c.min-n.result c.loop-k.invariant.1 h _ c.play-next.ensures.0,
      stretch-trace c.args.t (framed c.args.f) _ c.narrow-p.ensures.2 (ranked c.narrow-p.result.order) c.args.masks.now c.args.bytes.now c.args.s c.loop-k.next c.loop-k.k c.min-n.result c.loop-k.invariant.1 h c.args.out.now c.loop-k.out _ c.loop-k.invariant.2 c.play-next.ensures.1,
    )
