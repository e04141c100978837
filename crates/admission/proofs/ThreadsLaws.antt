-- The threads of a table are the first of its places.
use Rattle.std.proofs.Common.{ℕ, ◌≡◌, ◌<◌, length, take, get_or, length-take, arith}
use lib.Seq.{get_or-take}
use Rattle.table.specs.Threads.{thread, none}
use Rattle.table.specs.Legal.{Legal}
use Rattle.table.specs.declared.Table.{Table}

module _ (t : Table) (g : Legal t) where
  pub threads_long : length (take t.count t.threads) ≡ t.count
  threads_long = omega (arith, length-take t.count t.threads, g.sized.threads, g.count_high)

  pub threads_below : (k : ℕ) → k < length (take t.count t.threads) → k < t.count
  threads_below k h = omega (arith, threads_long)

  pub threads_at : (k : ℕ) → k < length (take t.count t.threads) → get_or (take t.count t.threads) k none ≡ thread t k
  threads_at k h = get_or-take t.count t.threads k none (threads_below k h)
