use Rattle.scheduler.specs.Taken.{mask_ok}
use Rattle.state.specs.Release.{has_event}
use Rattle.table.specs.Threads.{thread}
use Rattle.basis.specs.Tests.{and, or, every}
use Rattle.basis.proofs.TestLaws.{every-none, every-next, every_end, every_fails}
use lib.Dec.{eqb, ltb}
use borrow.Author.Tests.{not-true, not-false}
use mathlib.Core.Bool.{true, not}
use mathlib.Core.Path.{◌≡◌, sym, ◌∙◌}
use Prim.Native.Nat.{◌≤◌, ◌-◌}
use borrow.Author.Rules.{rules}
use Rattle.scheduler.proofs.mask_passes.Given as goal

abbrev pub invariant-loop-i : goal.invariant-loop-i
invariant-loop-i l = (l.i ≤ 32) × (every l.i (λ k. or (not (has_event l.mask k)) (and (ltb k l.t.count) (eqb (thread l.t k).kind 1))) ≡ true)
