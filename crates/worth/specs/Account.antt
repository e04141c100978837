-- Q-4, the figure that holds: in any L steps in a row, of any run of calls from a fresh start, in a frame or without one and with any masks and
-- bytes, the processor idles on thread h's account at most (ceil(L / P of h) + 1) times W of h.
use Rattle.std.specs.Prelude.{ℕ, ◌+◌, ◌≤◌, ◌≡◌, List, [], ◌∷◌, eqb}
use Rattle.basis.specs.Tests.{pick}
use Rattle.basis.specs.Told.{answered}
use Rattle.table.specs.declared.Table.{Table}
use Rattle.state.specs.State.{fresh}
use Rattle.frame.specs.Mode.{Mode}
use Rattle.walk.specs.Step.{Input, idled_by}
use Rattle.scheduler.specs.Taken.{Taken, answer_of}
use Rattle.scheduler.specs.Calls.{calls}
use Rattle.admission.specs.IdleMost.{idling}
use Rattle.worth.specs.Worth.{from}

-- How many of these calls answer that the processor idles on thread h's account.
unfoldable pub idles_told : ℕ → List Taken → ℕ
idles_told h [] = 0
idles_told h (c ∷ more) = idled_by h (answer_of c.told.values) + idles_told h more

-- How many of these calls are steps: those that are given 0.
unfoldable pub steps_told : List Taken → ℕ
steps_told [] = 0
steps_told (c ∷ more) = pick (eqb c.told.number 0) 1 0 + steps_told more

-- `idle_most` tells the figure, so the table is legal and has a thread h; the n calls from call r on have L steps at most.
abbrev pub IdleWithin : Table → Type 0
IdleWithin t = (mode : Mode) (h length most : ℕ) → idling t h length ≡ answered (most ∷ [])
    → (run : List Input) (r n : ℕ) → steps_told (from r n (calls t mode run (fresh t))) ≤ length
    → idles_told h (from r n (calls t mode run (fresh t))) ≤ most
