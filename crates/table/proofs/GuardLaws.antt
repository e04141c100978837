-- What demand 3 needs of the mark: a thread that a domain d may not see, above one that d may see, is marked. For if its domain
-- might flow to that of the thread below, it might flow on to d, since the relation is transitive.
use Prim.Native.Nat.{ℕ, ◌<◌}
use mathlib.Core.Path.{◌≡◌}
use mathlib.Core.Bool.{true, false}
use Rattle.basis.proofs.TestLaws.{refuted, fails}
use Rattle.flow.specs.Flow.{flows}
use Rattle.table.specs.Threads.{thread}
use Rattle.table.specs.Legal.{Legal}
use Rattle.table.specs.Mark.{seen_by, marked}
use Rattle.table.specs.declared.Table.{Table}
use Rattle.table.proofs.MarkLaws.{mark_complete}

pub guard_marked : (t : Table) → Legal t → (d i j : ℕ) → d < t.domains → i < t.count → j < t.count
    → (thread t j).priority < (thread t i).priority → seen_by t j d ≡ true → seen_by t i d ≡ false → marked t i ≡ true
unfolding seen_by
guard_marked t l d i j dd ci cj lower seen hidden =
    let not_seen : flows t.rows (thread t i).domain (thread t j).domain ≡ false
    = fails _ (λ f. refuted (l.transitive _ _ _ (l.threads i ci).domain_high (l.threads j cj).domain_high dd f seen) hidden) in
    mark_complete t i (record { thread_below = j; in_table = cj; barred = record { lower = lower; unseen = cc not_seen } })
