use Rattle.sight.specs.Shown.{seen_progress, seen_threads}
use Rattle.state.specs.State.{no_progress}
use Rattle.basis.proofs.SearchLaws.{listed-none, listed_next}
use native.Mathlib.Omega.{arith}
use native.Mathlib.Nat.{le_antisymm}
use mathlib.Core.List.{append-nil}
use mathlib.Core.Path.{◌≡◌, ◌∙◌}
use borrow.Author.Rules.{rules}
use Rattle.sight.proofs.views.seen_threads.Goals as goal

pub loop-i-init : goal.loop-i-init
loop-i-init c = (search rules, rw c.no_progress-none.ensures (listed-none _ no_progress 32))

pub loop-i-preserved : goal.loop-i-preserved
loop-i-preserved c = (search rules, rw (c.loop-i.invariant.1, c.seen.ensures) (listed_next (seen_progress c.args.t c.args.d c.args.s) no_progress c.loop-i.i 32 (omega arith)))

pub returns : goal.returns
unfolding seen_threads
returns c = let e : c.loop-i.i ≡ 32 = le_antisymm c.loop-i.invariant.0 c.loop-i-test.false in (rw e at c.loop-i.invariant.1) ∙ append-nil _
