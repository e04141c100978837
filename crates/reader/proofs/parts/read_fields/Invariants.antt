use Rattle.table.specs.Threads.{field_count}
use Rattle.reader.specs.Reader.{standing, fields_from}
use mathlib.Core.Path.{◌≡◌}
use Prim.Native.Nat.{◌≤◌}
use Rattle.reader.proofs.parts.read_fields.Given as goal

abbrev pub invariant-loop-k : goal.invariant-loop-k
invariant-loop-k l = (l.k ≤ l.n) × (l.n ≤ field_count) × (record { cursor = standing l.at; fields = l.fields } ≡ fields_from l.s l.version l.domains l.threads l.i (standing l.initial.at) l.k)
