-- The search meets its contract. The loop's invariant: what was tried and what is left from x on are together the count, each length tried
-- was a step further at least, no length from the budget up to x holds its demand, and deadline and period are in their ranges.
use Prim.Native.Nat.{ℕ, ◌+◌, ◌-◌, ◌≤◌, ◌<◌}
use mathlib.Core.Path.{sym}
use native.Mathlib.Nat.{sub-zero, zero-add}
use native.Mathlib.Omega.{arith}
use Rattle.table.specs.Threads.{thread}
use Rattle.admission.specs.Demand.{demand}
use Rattle.admission.specs.Tried.{most_tried, lengths, tried as the-tried}
use Rattle.admission.proofs.BoundLaws.{short-first, short-next, bound_at, bound-none}
use Rattle.admission.proofs.TriedLaws.{left-none, left-last, left-next}
use borrow.Author.Rules.{rules}
use Rattle.admission.proofs.bounds.find_bound.Goals as goal

pub loop-x-init : goal.loop-x-init
unfolding the-tried lengths most_tried
loop-x-init c =
    (rw (sub-zero, zero-add), omega arith, short-first _ _, (c.requires.0.threads c.args.i c.requires.1).deadline_high, (c.requires.0.threads c.args.i c.requires.1).period_high)

pub demand-next-requires : goal.demand-next-requires
demand-next-requires c = (c.requires.0, c.requires.1, search rules)

pub returns-then-next-x : goal.returns-then-next-x
returns-then-next-x c =
    let m : ℕ = (thread c.args.t c.args.i).deadline - (thread c.args.t c.args.i).budget + 1 - c.loop-x.tried in
    let d : demand c.args.t c.args.i c.loop-x.x ≤ c.loop-x.x = omega (arith, c.demand-next.ensures) in (
      sym (bound_at c.args.t c.args.i c.loop-x.x (record { from_budget = omega arith; to_deadline = omega arith; holds = d; smallest = c.loop-x.invariant.2 })),
      omega (arith, c.loop-x.invariant.0, left-last c.args.t c.args.i m (m - 1) c.loop-x.x (omega arith) (omega arith) d),
    )

pub loop-x-preserved : goal.loop-x-preserved
loop-x-preserved c =
    let n : ℕ = (thread c.args.t c.args.i).deadline - (thread c.args.t c.args.i).budget + 1 - (c.loop-x.tried + 1) in
    let d : c.loop-x.x < demand c.args.t c.args.i c.loop-x.x = omega (arith, c.demand-next.ensures) in
    let e = left-next c.args.t c.args.i ((thread c.args.t c.args.i).deadline - (thread c.args.t c.args.i).budget + 1 - c.loop-x.tried) n c.loop-x.x (omega arith) (omega arith) d in (
      rw c.demand-next.ensures (omega (arith, c.loop-x.invariant.0, e)),
      omega arith,
      rw c.demand-next.ensures (short-next c.args.t c.args.i c.requires.0 c.loop-x.x c.loop-x.invariant.2),
      c.loop-x.invariant.3,
      c.loop-x.invariant.4,
    )

pub returns : goal.returns
returns c = (
  sym (bound-none c.args.t c.args.i (record { short = λ y a b. c.loop-x.invariant.2 y a (omega arith) })),
  omega (arith, c.loop-x.invariant.0, left-none c.args.t c.args.i ((thread c.args.t c.args.i).deadline - (thread c.args.t c.args.i).budget + 1 - c.loop-x.tried) c.loop-x.x c.loop-x-test.false),
)
