use Rattle.state.specs.State.{no_progress, ready, fresh}
use Rattle.basis.proofs.SearchLaws.{listed-none, listed_next}
use native.Mathlib.Nat.{le_antisymm}
use mathlib.Core.List.{List}
use mathlib.Core.Path.{ap}
use Rattle.state.specs.declared.Progress.{Progress}
use native.Mathlib.Omega.{arith}
use borrow.Author.Rules.{rules}
use Rattle.state.proofs.start.fresh_state.Goals as goal

pub loop-i-init : goal.loop-i-init
loop-i-init c = (search rules, rw c.no_progress-none.ensures (listed-none (ready c.args.t) no_progress 32))

pub loop-i-preserved : goal.loop-i-preserved
loop-i-preserved c =
    (search rules, rw (c.loop-i.invariant.1, c.ready.ensures) (listed_next (ready c.args.t) no_progress c.loop-i.i 32 (omega arith)))

pub returns : goal.returns
unfolding fresh
returns c =
    let e = le_antisymm c.loop-i.invariant.0 c.loop-i-test.false in
    ap (λ (x : List Progress). record { clock = 0; threads = x }) (rw e at c.loop-i.invariant.1)
