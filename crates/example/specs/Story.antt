-- The user's story: three parties on one bench, ten steps of 1 ms a period.
use Rattle.std.specs.Prelude.{ℕ, List, [], ◌∷◌, map}
use Rattle.table.specs.declared.Table.{Table}
use Rattle.example.specs.Example.{table_of, task}

-- Domains and threads alike: 0 is the pitch loop, 1 the actuator model, 2 the load monitor. The pitch loop may flow to all, the
-- actuator model to the monitor, and the monitor to nobody else.
abbrev pub story : Table
story = table_of (7 ∷ 6 ∷ 4 ∷ []) (task 0 20 10 0 3 10 0 ∷ task 1 10 10 0 2 10 0 ∷ task 2 30 10 0 4 10 3 ∷ [])

-- The pitch loop and the actuator model send 1 at every step, and the monitor these bytes.
abbrev pub monitor_sends : List ℕ → List (List ℕ)
monitor_sends xs = map (λ (x : ℕ). 1 ∷ 1 ∷ x ∷ []) xs
