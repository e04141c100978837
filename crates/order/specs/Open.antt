-- The threads that are open to a domain: those of every domain that it may flow to.
use Rattle.std.specs.Prelude.{ℕ, List, [], ◌∷◌, Bool}
use Rattle.basis.specs.Tests.{pick}
use Rattle.flow.specs.Flow.{flows}
use Rattle.table.specs.Threads.{thread}
use Rattle.table.specs.declared.Table.{Table}

-- Domain d may flow to the domain of thread i.
unfoldable pub flows_to : Table → ℕ → ℕ → Bool
flows_to t d i = flows t.rows d (thread t i).domain

-- Of a list the threads whose domain d may flow to, in the same order.
unfoldable pub open_to : Table → ℕ → List ℕ → List ℕ
open_to t d [] = []
open_to t d (i ∷ is) = pick (flows_to t d i) (i ∷ open_to t d is) (open_to t d is)
