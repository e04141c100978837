use Rattle.reader.specs.Reader.{standing, threads_from}
use mathlib.Core.Path.{◌≡◌}
use Prim.Native.Nat.{◌≤◌}
use Rattle.reader.proofs.parts.read_threads.Given as goal

abbrev pub invariant-loop-i : goal.invariant-loop-i
invariant-loop-i l = (l.i ≤ l.count) × (record { cursor = standing l.k; threads = l.threads } ≡ threads_from l.s l.version l.domains (standing l.initial.k) l.i)
