use Rattle.admission.specs.Demand.{sum}
use Rattle.admission.specs.Prohibition.{stretch}
use Rattle.table.specs.Threads.{thread}
use Rattle.table.specs.Mark.{marked}
use Rattle.std.proofs.Common.{◌≡◌, length}
use Rattle.admission.proofs.prohibited.prohibition_time.Given as goal

abbrev pub invariant-loop-upper : goal.invariant-loop-upper
invariant-loop-upper l =
    (goal.iterator-loop-upper).can_next l.upper-iterator
    × (goal.iterator-loop-upper).is_finite l.upper-iterator
    × (l.sum ≡ sum (length l.yielded) (λ k. stretch (thread l.fn.t l.l) (marked l.fn.t k) (thread l.fn.t k)))
