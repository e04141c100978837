-- `flow::first_gap` meets its contract: each of the three loops has found nothing so far in its own search, `gap_by_c`, `gap_by_b` and `first_gap`.
use Rattle.basis.specs.Search.{nothing, first}
use Rattle.flow.specs.Gap.{gap_at, gap_by_c, gap_by_b}
use Rattle.std.specs.Prelude.{None}
use mathlib.Core.Path.{◌≡◌}
use Prim.Native.Nat.{◌≤◌, ◌-◌}
use Rattle.flow.proofs.first_gap.Given as goal

abbrev pub invariant-loop-c : goal.invariant-loop-c
invariant-loop-c l = (l.c ≤ l.domains) × (l.found ≡ None) × (first l.c (gap_at l.rows l.a l.b) ≡ nothing)

abbrev pub decreases-loop-c : goal.decreases-loop-c
decreases-loop-c l = l.domains - l.c

abbrev pub invariant-loop-b : goal.invariant-loop-b
invariant-loop-b l = (l.b ≤ l.domains) × (l.found ≡ None) × (first l.b (gap_by_c l.rows l.domains l.a) ≡ nothing)

abbrev pub decreases-loop-b : goal.decreases-loop-b
decreases-loop-b l = l.domains - l.b

abbrev pub invariant-search : goal.invariant-search
invariant-search l = (l.a ≤ l.domains) × (l.found ≡ None) × (first l.a (gap_by_b l.rows l.domains) ≡ nothing)

abbrev pub decreases-search : goal.decreases-search
decreases-search l = l.domains - l.a
