use Rattle.state.specs.State.{each_thread}
use Rattle.state.specs.Methods.{tick}
use native.Mathlib.Nat.{le_antisymm}
use native.Mathlib.Numerals.{add-one}
use mathlib.Core.Path.{ap}
use Rattle.state.specs.declared.State.{State}
use Prim.Native.Nat.{◌+◌}
use borrow.Author.Rules.{rules}
use Rattle.state.proofs.State.tick.Goals as goal

pub loop-i-init : goal.loop-i-init
unfolding each_thread
loop-i-init c = search rules

pub loop-i-preserved : goal.loop-i-preserved
unfolding each_thread
loop-i-preserved c = (search rules, rw add-one (cc))

pub returns : goal.returns
unfolding tick
returns c =
    let e = le_antisymm c.loop-i.invariant.0 c.loop-i-test.false in
    ap (λ (x : State). record { clock = c.args.self.clock + 1; threads = x.threads }) (rw e at c.loop-i.invariant.1)
