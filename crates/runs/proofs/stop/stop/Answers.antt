-- The masks before the first that does not pass, up to the last clock, and what refuses the step behind them.
use Prim.Native.Nat.{ℕ, ◌≤◌}
use mathlib.Core.Path.{sym, subst}
use native.Mathlib.Omega.{arith}
use lib.ListN.{length}
use Rattle.block.specs.Block.{number_of}
use Rattle.runs.specs.Stopping.{Stops}
use Rattle.runs.proofs.StepsLaws.{steps_masks}
use Rattle.runs.proofs.StopLaws.{stops_whole, stops_before, front_long, front_passes, front_stops}
use borrow.Author.Rules.{rules}
use Rattle.runs.proofs.stop.stop.Goals as goal

-- There is a mask for each whole step.
pub slice_bounds-passing-end : goal.slice_bounds-passing-end
slice_bounds-passing-end c =
    let few : c.whole_steps-whole.result ≤ length c.args.masks.now
    = steps_masks c.args.t.count (length c.args.masks.now) c.args.bytes c.whole_steps-whole.result (omega (arith, c.whole_steps-whole.ensures)) in
    sym (front_long c.args.t c.args.masks.now c.min-most.result 0 (omega arith))

pub returns-then-n-whole : goal.returns-then-n-whole
returns-then-n-whole c =
    let few : c.whole_steps-whole.result ≤ length c.args.masks.now
    = steps_masks c.args.t.count (length c.args.masks.now) c.args.bytes c.whole_steps-whole.result (omega (arith, c.whole_steps-whole.ensures)) in
    let inside : c.min-most.result ≤ length c.args.masks.now = omega arith in
    subst (λ (w : ℕ). Stops c.args.t c.args.clock c.args.masks.now w (record { n = c.passing-n.result; why = 0 })) c.whole_steps-whole.ensures
    (stops_whole c.args.t c.args.clock c.args.masks.now c.whole_steps-whole.result c.min-most.result _ (omega arith) (omega arith) (λ h. omega arith)
    (omega (arith, c.passing-n.ensures.0, front_long c.args.t c.args.masks.now c.min-most.result c.passing-n.result inside))
    (front_passes c.args.t c.args.masks.now c.min-most.result c.passing-n.result inside c.passing-n.ensures.0 c.passing-n.ensures.1)
    (front_stops c.args.t c.args.masks.now c.min-most.result c.passing-n.result inside c.passing-n.ensures.2)
    c.if-n-whole.true)

pub offset_bounds-masks-n : goal.offset_bounds-masks-n
offset_bounds-masks-n c =
    let few : c.whole_steps-whole.result ≤ length c.args.masks.now
    = steps_masks c.args.t.count (length c.args.masks.now) c.args.bytes c.whole_steps-whole.result (omega (arith, c.whole_steps-whole.ensures)) in
    search (rules, few)

pub bounds-masks-n : goal.bounds-masks-n
bounds-masks-n c =
    let few : c.whole_steps-whole.result ≤ length c.args.masks.now
    = steps_masks c.args.t.count (length c.args.masks.now) c.args.bytes c.whole_steps-whole.result (omega (arith, c.whole_steps-whole.ensures)) in
    let inside : c.min-most.result ≤ length c.args.masks.now = omega arith in
    let low = front_long c.args.t c.args.masks.now c.min-most.result c.passing-n.result inside in
    omega arith

pub returns : goal.returns
returns c =
    let few : c.whole_steps-whole.result ≤ length c.args.masks.now
    = steps_masks c.args.t.count (length c.args.masks.now) c.args.bytes c.whole_steps-whole.result (omega (arith, c.whole_steps-whole.ensures)) in
    let inside : c.min-most.result ≤ length c.args.masks.now = omega arith in
    subst (λ (w : ℕ). Stops c.args.t c.args.clock c.args.masks.now w (record { n = c.passing-n.result; why = number_of c.refusal-why.result })) c.whole_steps-whole.ensures
    (stops_before c.args.t c.args.clock c.args.masks.now c.whole_steps-whole.result c.min-most.result _ (omega arith) (omega arith) (λ h. omega arith)
    (omega (arith, c.passing-n.ensures.0, front_long c.args.t c.args.masks.now c.min-most.result c.passing-n.result inside))
    (front_passes c.args.t c.args.masks.now c.min-most.result c.passing-n.result inside c.passing-n.ensures.0 c.passing-n.ensures.1)
    (front_stops c.args.t c.args.masks.now c.min-most.result c.passing-n.result inside c.passing-n.ensures.2)
    _ c.if-n-whole.false c.refusal-why.ensures)
