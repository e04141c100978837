-- The prohibition time of a thread: document 003, equation 1, with its quotient turned round (Q-4). It is an estimate from B, and no bound.
use Rattle.std.specs.Prelude.{ℕ, ◌*◌, ◌≤◌, ◌<◌, ◌≡◌, [], ◌∷◌, Bool, true, false, ltb}
use Rattle.basis.specs.Tests.{pick, and}
use Rattle.basis.specs.Ceil.{ceil}
use Rattle.basis.specs.Told.{Told, answered, refused}
use Rattle.table.specs.Threads.{thread}
use Rattle.table.specs.Legal.{legal}
use Rattle.table.specs.Mark.{marked, Leaks}
use Rattle.table.specs.declared.Table.{Table}
use Rattle.table.specs.declared.Thread.{Thread}
use Rattle.admission.specs.Demand.{sum, SumOf, above}

-- What thread h, with its mark, brings to own's prohibition time: if it is marked and stands above, B of h as often as h is released in P of
-- own, ceil(P of own / P of h) times.
unfoldable pub stretch : Thread → Bool → Thread → ℕ
stretch own mark h = pick (and mark (above own h)) (ceil own.period h.period * h.blocking) 0

-- The sum over all threads.
unfoldable pub prohibition : Table → ℕ → ℕ
prohibition t l = sum t.count (λ h. stretch (thread t l) (marked t h) (thread t h))

-- 11, then 15 for a thread that the table lacks, then the time.
unfoldable pub prohibiting : Table → ℕ → Told
prohibiting t l = pick (legal t) (pick (ltb l t.count) (answered (prohibition t l ∷ [])) (refused 15)) (refused 11)

-- What thread h brings to the prohibition time of thread l, in plain words.
pub data Prohibits (t : Table) (l h : ℕ) : ℕ → Type 0 where
  marked-above : Leaks t h → (thread t l).priority < (thread t h).priority
      → Prohibits t l h (ceil (thread t l).period (thread t h).period * (thread t h).blocking)
  otherwise : (Leaks t h → (thread t l).priority < (thread t h).priority → ⊥) → Prohibits t l h 0

-- What `prohibition` tells, in plain words: one row for each case, and an answer is given in its row only.
pub data ProhibitionAnswer (t : Table) (l : ℕ) : Told → Type 0 where
  -- 11: the table is not legal
  not-legal : legal t ≡ false → ProhibitionAnswer t l (refused 11)
  -- 15: it has no such thread
  no_thread : legal t ≡ true → t.count ≤ l → ProhibitionAnswer t l (refused 15)
  -- the time is the sum of what each thread of the table brings
  prohibited : legal t ≡ true → l < t.count → (time : ℕ) → SumOf (Prohibits t l) t.count time
      → ProhibitionAnswer t l (answered (time ∷ []))
