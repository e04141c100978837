-- The demand on a thread in a length of x steps: time-demand analysis on total budgets.
use Rattle.std.specs.Prelude.{ℕ, zero, suc, ◌+◌, ◌*◌, ◌≤◌, ◌<◌, Bool, ltb}
use Rattle.basis.specs.Tests.{pick}
use Rattle.basis.specs.Ceil.{ceil}
use Rattle.table.specs.Threads.{thread}
use Rattle.table.specs.declared.Table.{Table}
use Rattle.table.specs.declared.Thread.{Thread}

-- The sum of f 0 up to f (n - 1).
unfoldable pub sum : ℕ → (ℕ → ℕ) → ℕ
sum zero f = 0
sum (suc n) f = sum n f + f n

-- The sum of what the numbers below n bring, in plain words: 0 of none, and one more brings its own to those before it.
pub data SumOf (brings : ℕ → ℕ → Type 0) : ℕ → ℕ → Type 0 where
  of_none : SumOf brings 0 0
  one_more : (n total own : ℕ) → SumOf brings n total → brings n own → SumOf brings (suc n) (total + own)

-- Thread h has a higher priority than own.
unfoldable pub above : Thread → Thread → Bool
above own h = ltb own.priority h.priority

-- What thread h brings to own's demand in x steps: if it stands above, its budget for each of its periods that begins.
unfoldable pub share : Thread → ℕ → Thread → ℕ
share own x h = pick (above own h) (ceil x h.period * h.budget) 0

-- W of i plus, over all threads h of higher priority, ceil(x / P of h) times W of h.
unfoldable pub demand : Table → ℕ → ℕ → ℕ
demand t i x = (thread t i).budget + sum t.count (λ h. share (thread t i) x (thread t h))

-- What thread h brings to the demand on thread i in x steps, in plain words.
pub data Demands (t : Table) (i x h : ℕ) : ℕ → Type 0 where
  upper : (thread t i).priority < (thread t h).priority → Demands t i x h (ceil x (thread t h).period * (thread t h).budget)
  not-upper : (thread t h).priority ≤ (thread t i).priority → Demands t i x h 0
