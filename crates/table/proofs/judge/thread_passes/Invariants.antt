use Rattle.table.specs.Threads.{field_count}
use Rattle.table.specs.Legal.{field_ok}
use Rattle.basis.specs.Tests.{every}
use mathlib.Core.Bool.{true}
use mathlib.Core.Path.{◌≡◌}
use Prim.Native.Nat.{◌≤◌}
use Rattle.table.proofs.judge.thread_passes.Given as goal

abbrev pub invariant-loop-k : goal.invariant-loop-k
invariant-loop-k l = (l.k ≤ field_count) × (every l.k (field_ok l.version l.domains l.vs) ≡ true)
