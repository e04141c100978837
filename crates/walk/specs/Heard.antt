-- Whose bytes a walk hears: the threads reached with a rest above 0, up to the chosen one.
use Rattle.std.specs.Prelude.{ℕ, ◌≡◌, List, [], ◌∷◌, get_or, eqb}
use Rattle.basis.specs.Tests.{pick}
use Rattle.table.specs.Mark.{Mark}
use Rattle.state.specs.State.{progress}
use Rattle.walk.specs.Walk.{visit, chosen}
use Rattle.state.specs.declared.State.{State}

-- In the order of the walk; a thread with a rest of 0 is passed, and behind the chosen one nobody is heard.
unfoldable pub heard_by : List Mark → List ℕ → List ℕ → State → List ℕ
heard_by m bs [] s = []
heard_by m bs (i ∷ is) s =
    pick (eqb (progress s i).rest 0) (heard_by m bs is s)
    (i ∷ pick (chosen (visit m (get_or bs i 0) i s).answer) [] (heard_by m bs is (visit m (get_or bs i 0) i s).state))

-- The bytes bs and cs of each thread of the list are the same.
abbrev pub Alike : List ℕ → List ℕ → List ℕ → Type 0
Alike bs cs [] = Unit {0}
Alike bs cs (i ∷ is) = (get_or bs i 0 ≡ get_or cs i 0) × Alike bs cs is
