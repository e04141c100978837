use Rattle.admission.specs.Demand.{sum, share, demand}
use Rattle.admission.proofs.SumLaws.{sum-next}
use Rattle.admission.proofs.ThreadsLaws.{threads_long, threads_below, threads_at}
use Rattle.admission.proofs.DemandLaws.{demand_partial}
use Rattle.table.specs.Threads.{thread}
use Rattle.std.proofs.Common.{ℕ, ◌≡◌, ◌+◌, ◌∙◌, ap, arith}
use Rattle.admission.proofs.demand.demand.Goals as goal
use Rattle.admission.proofs.demand.demand.Goals.{After-share-sum}

pub loop-other-init : goal.loop-other-init
unfolding sum
loop-other-init c = omega arith

pub share-sum-requires : goal.share-sum-requires
share-sum-requires c =
    rw (threads_at c.args.t c.requires.0 _ c.loop-other-test.true) (c.requires.0.threads _ (threads_below c.args.t c.requires.0 _ c.loop-other-test.true)).period_low

-- What the thread at hand brings.
brought : (c : After-share-sum) → c.share-sum.result ≡ share (thread c.args.t c.args.i) c.args.x (thread c.args.t c.loop-other.other-index)
brought c = c.share-sum.ensures ∙ ap (share (thread c.args.t c.args.i) c.args.x) (threads_at c.args.t c.requires.0 _ c.loop-other-test.true)

pub overflow_add-sum : goal.overflow_add-sum
overflow_add-sum c =
    let own = thread c.args.t c.args.i in
    let f : ℕ → ℕ = λ k. share own c.args.x (thread c.args.t k) in
    let h = threads_below c.args.t c.requires.0 _ c.loop-other-test.true in
    omega (arith, demand_partial c.args.t c.requires.0 c.args.i c.args.x (c.loop-other.other-index + 1) c.requires.1 c.requires.2 (omega arith), sum-next f c.loop-other.other-index, c.loop-other.invariant, brought c)

pub loop-other-preserved : goal.loop-other-preserved
loop-other-preserved c =
    let own = thread c.args.t c.args.i in
    let f : ℕ → ℕ = λ k. share own c.args.x (thread c.args.t k) in
    omega (arith, sum-next f c.loop-other.other-index, c.loop-other.invariant, brought (goal.at.loop-other-preserved c).After-share-sum)

pub returns : goal.returns
unfolding demand
returns c =
    let e : c.loop-other.other-index ≡ c.args.t.count = omega (arith, threads_long c.args.t c.requires.0) in
    rw e at c.loop-other.invariant
