-- What a domain is shown of an answer and of a state.
use Rattle.std.specs.Prelude.{ℕ, List, [], ◌∷◌, Bool, replicate, ltb, Option, Result, option_to_list}
use Rattle.basis.specs.Tests.{pick, and}
use Rattle.basis.specs.Search.{listed}
use Rattle.basis.specs.Told.{Told, answered, refused}
use Rattle.table.specs.Legal.{legal}
use Rattle.table.specs.Mark.{seen_by}
use Rattle.table.specs.declared.Table.{Table}
use Rattle.state.specs.State.{no_progress, with_since, progress, fits}
use Rattle.state.specs.declared.Progress.{Progress}
use Rattle.state.specs.declared.State.{State}
use Rattle.walk.specs.declared.Answer.{Answer}
use Rattle.walk.specs.declared.Answer.TheVariants.{Ran, IdleFor, Idle}
use Rattle.basis.specs.Refusals.{told_by, told_done, given_or}
use Rattle.basis.specs.declared.refusal.Refusal.{Refusal}

-- i is a thread of the table whose domain may flow to d.
unfoldable pub visible : Table → ℕ → ℕ → Bool
visible t d i = and (ltb i t.count) (seen_by t i d)

-- Thread i if i ran and d may see it, and a gap otherwise.
unfoldable pub view : Table → ℕ → Answer → Told
view t d (Ran i) = pick (visible t d i) (answered (i ∷ [])) (answered [])
view t d (IdleFor i) = answered []
view t d Idle = answered []

-- 11, then 15 for a domain that the table lacks.
unfoldable pub showing : Table → ℕ → Answer → Told
showing t d a = pick (legal t) (pick (ltb d t.domains) (view t d a) (refused 15)) (refused 11)

-- Document 01's number and values of what is shown.
abbrev pub told : Result (Option ℕ) Refusal → Told
told r = told_by option_to_list r

-- A thread, or a gap.
abbrev pub told_view : Option ℕ → Told
told_view v = answered (option_to_list v)

-- Thread i's rests, mark and count if d may see it, and zeros otherwise; its steps since release follow from the public masks and are not
-- shown.
unfoldable pub seen_progress : Table → ℕ → State → ℕ → Progress
seen_progress t d s i = pick (visible t d i) (with_since 0 (progress s i)) no_progress

-- What d is shown of each thread.
unfoldable pub seen_threads : Table → ℕ → State → List Progress
seen_threads t d s = listed 32 (seen_progress t d s)

-- 11, 12, then 15.
unfoldable pub showing_state : Table → State → ℕ → Told
showing_state t s d =
    pick (legal t) (pick (fits t s) (pick (ltb d t.domains) (answered []) (refused 15)) (refused 12)) (refused 11)

-- What is given beside: zeros on a refusal.
unfoldable pub threads_shown : Table → State → ℕ → List Progress
threads_shown t s d =
    pick (legal t) (pick (fits t s) (pick (ltb d t.domains) (seen_threads t d s) (replicate 32 no_progress)) (replicate 32 no_progress))
    (replicate 32 no_progress)

-- Document 01's number of an answer.
abbrev pub told_state : Result (List Progress) Refusal → Told
told_state r = told_done r

-- What an answer gives beside.
abbrev pub given : Result (List Progress) Refusal → List Progress
given r = given_or (replicate 32 no_progress) r
