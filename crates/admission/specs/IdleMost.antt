-- Q-4: the figure that holds. In any L steps in a row the processor idles on a thread's account at most so often (crate `worth` has the theorem).
use Rattle.std.specs.Prelude.{ℕ, ◌+◌, ◌*◌, ◌≤◌, ◌<◌, ◌≡◌, [], ◌∷◌, true, false, ltb}
use Rattle.basis.specs.Tests.{pick}
use Rattle.basis.specs.Ceil.{ceil}
use Rattle.basis.specs.Told.{Told, answered, refused}
use Rattle.table.specs.Threads.{thread}
use Rattle.table.specs.Legal.{legal}
use Rattle.table.specs.declared.Table.{Table}
use Rattle.table.specs.declared.Thread.{Thread}

-- W for each release that L steps have at most, and once more for what is left of an earlier one: (ceil(L / P) + 1) times W.
unfoldable pub idle_most : Thread → ℕ → ℕ
idle_most th length = (ceil length th.period + 1) * th.budget

-- 11, then 15 for a thread that the table lacks, then the figure.
unfoldable pub idling : Table → ℕ → ℕ → Told
idling t h length = pick (legal t) (pick (ltb h t.count) (answered (idle_most (thread t h) length ∷ [])) (refused 15)) (refused 11)

-- What `idle_most` tells, in plain words: one row for each case, and an answer is given in its row only.
pub data IdleAnswer (t : Table) (h length : ℕ) : Told → Type 0 where
  -- 11: the table is not legal
  not-legal : legal t ≡ false → IdleAnswer t h length (refused 11)
  -- 15: it has no such thread
  no_thread : legal t ≡ true → t.count ≤ h → IdleAnswer t h length (refused 15)
  -- W of h for each period of h that begins in L steps, and one W more
  at_most : legal t ≡ true → h < t.count → (periods : ℕ) → periods ≡ ceil length (thread t h).period
      → IdleAnswer t h length (answered ((periods * (thread t h).budget + (thread t h).budget) ∷ []))
