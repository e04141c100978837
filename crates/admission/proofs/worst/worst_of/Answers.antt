use Rattle.std.proofs.Common.{◌≡◌, ◌+◌, arith}
use Rattle.admission.specs.Demand.{sum}
use Rattle.admission.specs.Tried.{most_tried}
use Rattle.admission.specs.Worst.{worst}
use Rattle.admission.proofs.SumLaws.{sum-next}
use Rattle.admission.proofs.ThreadsLaws.{threads_long, threads_below, threads_at}
use Rattle.admission.proofs.WorstLaws.{worst_partial}
use Rattle.admission.proofs.worst.worst_of.Goals as goal

pub loop-own-init : goal.loop-own-init
unfolding sum
loop-own-init c = omega arith

pub overflow_sub-sum : goal.overflow_sub-sum
overflow_sub-sum c =
    rw (threads_at c.args.t c.requires _ c.loop-own-test.true) (c.requires.threads _ (threads_below c.args.t c.requires _ c.loop-own-test.true)).deadline_low

pub overflow_add-sum-in-loop-own : goal.overflow_add-sum-in-loop-own
unfolding most_tried
overflow_add-sum-in-loop-own c =
    let h = threads_below c.args.t c.requires _ c.loop-own-test.true in
    rw (threads_at c.args.t c.requires _ c.loop-own-test.true)
    (omega (arith, worst_partial c.args.t c.requires (c.loop-own.own-index + 1) (omega arith), sum-next (most_tried c.args.t) c.loop-own.own-index, c.loop-own.invariant))

pub loop-own-preserved : goal.loop-own-preserved
unfolding most_tried
loop-own-preserved c =
    rw (threads_at c.args.t c.requires _ c.loop-own-test.true) (omega (arith, sum-next (most_tried c.args.t) c.loop-own.own-index, c.loop-own.invariant))

pub returns : goal.returns
unfolding worst
returns c =
    let e : c.loop-own.own-index ≡ c.args.t.count = omega (arith, threads_long c.args.t c.requires) in
    rw e at c.loop-own.invariant
