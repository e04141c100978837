use Prim.Native.Nat.{ℕ, ◌-◌}
use mathlib.Core.Path.{◌≡◌, sym, ◌∙◌, ap}
use native.Mathlib.Omega.{arith}
use Rattle.block.specs.Play.{events}
use Rattle.block.proofs.EventLaws.{events-next, events_room}
use Rattle.block.proofs.judge.events_of.Goals as goal

pub loop-i-init : goal.loop-i-init
unfolding events
loop-i-init c = let z : c.args.t.count - c.args.t.count ≡ 0 = omega arith in sym (ap (λ (n : ℕ). events c.args.t c.args.t.count n) z)

-- Each doubling has room.
pub overflow_mul-all : goal.overflow_mul-all
overflow_mul-all c = omega (arith, events_room _ c.loop-i.i _ _ c.loop-i-test.true c.loop-i.auto.i c.requires c.loop-i.invariant)

pub overflow_add-all : goal.overflow_add-all
overflow_add-all c = omega (arith, events_room _ c.loop-i.i _ _ c.loop-i-test.true c.loop-i.auto.i c.requires c.loop-i.invariant, c.event_bit.ensures.1)

pub loop-i-preserved : goal.loop-i-preserved
loop-i-preserved c = events-next _ c.loop-i.i c.args.t.count _ _ c.loop-i-test.true c.loop-i.auto.i c.loop-i.invariant c.event_bit.ensures.0

pub returns : goal.returns
returns c =
    let z : c.loop-i.i ≡ 0 = omega (arith, c.loop-i-test.false) in
    let y : c.args.t.count - 0 ≡ c.args.t.count = omega arith in
    c.loop-i.invariant ∙ ap (λ (i : ℕ). events c.args.t i (c.args.t.count - i)) z ∙ ap (λ (n : ℕ). events c.args.t 0 n) y
