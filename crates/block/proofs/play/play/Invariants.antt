-- `block::play::play` meets its contract: after k steps the state is that of k steps, and their bytes are written.
use mathlib.Core.Path.{◌≡◌}
use Prim.Native.Nat.{◌+◌, ◌*◌}
use lib.ListN.{length}
use lib.Seq.{slice, sets}
use Rattle.table.specs.Threads.{thread}
use Rattle.state.specs.State.{each_thread}
use Rattle.state.specs.Release.{has_event}
use Rattle.order.specs.Order.{Below}
use Rattle.walk.specs.Walk.{walk}
use Rattle.walk.specs.Step.{advance}
use Rattle.block.specs.Block.{inputs, end_of, trace_of}
use Rattle.block.proofs.ThreadLaws.{moved}
use Rattle.block.proofs.VisitLaws.{Going}
use Rattle.block.proofs.play.play.Given as goal

abbrev pub invariant-loop-i : goal.invariant-loop-i
invariant-loop-i l = l.next ≡ each_thread (λ j. moved (thread l.t j) l.initial.next.clock (has_event l.mask j)) l.i l.initial.next

abbrev pub invariant-loop-r : goal.invariant-loop-r
invariant-loop-r l = Below l.count (slice l.r l.ranked l.order.at)
    × Going l.marks l.now (slice l.r l.ranked l.order.at) l.next l.answer (walk l.marks l.now (slice 0 l.ranked l.order.at) l.initial.next)
    × (length l.next.threads ≡ 32)

abbrev pub invariant-loop-k : goal.invariant-loop-k
invariant-loop-k l = (l.at ≡ (l.from + l.k) * l.count)
    × (l.next ≡ end_of (advance l.t l.marks (slice 0 l.ranked l.order.at)) (inputs l.t l.masks l.bytes l.from l.k) l.initial.next)
    × (l.out ≡ sets l.initial.out l.from (trace_of (advance l.t l.marks (slice 0 l.ranked l.order.at)) (inputs l.t l.masks l.bytes l.from l.k) l.initial.next))
