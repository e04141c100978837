-- What a block's inner loop computes of one thread, number by number.
use Rattle.std.specs.Prelude.{ℕ, zero, suc, ◌+◌, ◌-◌, ◌*◌, ◌%◌, Bool, false, eqb, ltb, leb}
use Rattle.basis.specs.Tests.{pick, and}
use Rattle.table.specs.Threads.{thread}
use Rattle.table.specs.declared.Table.{Table}
use Rattle.table.specs.declared.Thread.{Thread}
use Rattle.block.specs.declared.thread.Effect.{Effect}
use Rattle.block.specs.declared.thread.Effect.TheVariants.{Stay, Refill, Empty}

-- What a release does to an event thread, n steps after its last one: it refills both rests, empties them, or leaves them as they are.
unfoldable pub event_effect : Thread → Bool → ℕ → Effect
event_effect th e n = pick (and e (leb th.period n)) Refill (pick (leb th.deadline n) Empty Stay)

-- The same of a periodic thread at clock c.
unfoldable pub clock_effect : Thread → ℕ → Effect
clock_effect th c =
    pick (ltb c th.offset) Stay
    (pick (eqb ((c - th.offset) % th.period) 0) Refill
    (pick (leb th.deadline ((c - th.offset) % th.period)) Empty Stay))

-- Whether a reached thread runs, by its finish mark and its rest of execution before its byte is heard.
unfoldable pub would_run : Bool → ℕ → ℕ → Bool
would_run finished execution b = pick finished false (pick (eqb execution 0) false (eqb b 1))

-- A thread's steps since release with the clock one further.
unfoldable pub since_after : Thread → ℕ → ℕ
since_after th n = pick (and (eqb th.kind 1) (ltb n th.period)) (n + 1) n

-- The mask of the event threads among the n from thread i on, whose bit is the lowest.
unfoldable pub event_bit : Thread → ℕ
event_bit th = pick (eqb th.kind 1) 1 0

unfoldable pub events : Table → ℕ → ℕ → ℕ
events t i zero = 0
events t i (suc n) = events t (suc i) n * 2 + event_bit (thread t i)
