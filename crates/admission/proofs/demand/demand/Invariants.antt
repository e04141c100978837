use Rattle.admission.specs.Demand.{sum, share}
use Rattle.table.specs.Threads.{thread}
use Rattle.std.proofs.Common.{◌≡◌, ◌+◌}
use Rattle.admission.proofs.demand.demand.Given as goal

abbrev pub invariant-loop-other : goal.invariant-loop-other
invariant-loop-other l = l.sum ≡ (thread l.fn.t l.i).budget + sum l.other-index (λ k. share (thread l.fn.t l.i) l.x (thread l.fn.t k))
