-- `block::stretch::play_in_frame` meets its contract: stretches, each within one window, join into the whole block.
use mathlib.Core.Path.{◌≡◌}
use Prim.Native.Nat.{◌≤◌, ◌-◌}
use lib.Seq.{sets}
use Rattle.frame.specs.Mode.{framed}
use Rattle.walk.specs.Step.{step}
use Rattle.block.specs.Block.{inputs, end_of, trace_of}
use Rattle.block.proofs.stretch.play_in_frame.Given as goal

abbrev pub invariant-loop-k : goal.invariant-loop-k
invariant-loop-k l = (l.k ≤ l.m)
    × (l.next ≡ end_of (step l.t (framed l.f)) (inputs l.t l.masks l.bytes 0 l.k) l.initial.next)
    × (l.out ≡ sets l.initial.out 0 (trace_of (step l.t (framed l.f)) (inputs l.t l.masks l.bytes 0 l.k) l.initial.next))

abbrev pub decreases-loop-k : goal.decreases-loop-k
decreases-loop-k l = l.m - l.k
