-- Parts 2 to 4 of a step: the walk from the highest priority down.
use Rattle.std.specs.Prelude.{ℕ, List, [], ◌∷◌, Bool, true, false, not, get_or, eqb, ltb}
use Rattle.basis.specs.Tests.{pick, and}
use Rattle.table.specs.Mark.{Mark}
use Rattle.table.specs.Mark.{is_set}
use Rattle.state.specs.State.{progress}
use Rattle.state.specs.Methods.{pay, finish, count}
use Rattle.state.specs.declared.Progress.{Progress}
use Rattle.state.specs.declared.State.{State}
use Rattle.walk.specs.declared.Answer.{Answer}
use Rattle.walk.specs.declared.Answer.TheVariants.{Ran, IdleFor, Idle}
use Rattle.walk.specs.declared.Walked.{Walked}

-- 2. The byte of a reached thread is heard: 2 is finish.
unfoldable pub heard : ℕ → ℕ → State → State
heard b i s = pick (eqb b 2) (finish s i) s

-- 1 is run, every other byte is wait; a thread whose finish mark is set waits, and so does one that has no rest of execution left.
unfoldable pub runs : ℕ → Progress → Bool
runs b p = and (eqb b 1) (and (not p.finished) (ltb 0 p.execution))

abbrev pub walked : Answer → State → Walked
walked a s = record { answer = a; state = s }

-- 3. A thread that was heard pays in each of three cases: it runs and is chosen; it waits and is chosen if marked (marks m), and the
-- processor idles on its account; or the walk goes on (Idle).
unfoldable pub decided : List Mark → ℕ → ℕ → State → Walked
decided m b i s =
    pick (runs b (progress s i)) (walked (Ran i) (count (pay s i) i))
    (pick (is_set m i) (walked (IdleFor i) (pay s i)) (walked Idle (pay s i)))

-- The walk comes to thread i, whose byte is b: passed if its rest is 0. Idle says here that nobody is chosen yet.
unfoldable pub visit : List Mark → ℕ → ℕ → State → Walked
visit m b i s = pick (eqb (progress s i).rest 0) (walked Idle s) (decided m b i (heard b i s))

abbrev pub chosen : Answer → Bool
chosen (Ran i) = true
chosen (IdleFor i) = true
chosen Idle = false

-- 4. The walk over a list of thread numbers, up to the first that is chosen; if nobody is, the processor idles on nobody's account.
unfoldable pub walk : List Mark → List ℕ → List ℕ → State → Walked
walk m bs [] s = walked Idle s
walk m bs (i ∷ is) s =
    pick (chosen (visit m (get_or bs i 0) i s).answer) (visit m (get_or bs i 0) i s)
    (walk m bs is (visit m (get_or bs i 0) i s).state)
