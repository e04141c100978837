-- Mending a flow policy: 5, 6, 16, or the rows mended and the pairs added.
use Rattle.std.specs.Prelude.{ℕ, ◌-◌, List, [], ◌∷◌, ◌++◌, Bool, length, get_or, drop, replicate, leb, Option, Some, None, Result, Ok, Err}
use Rattle.basis.specs.Tests.{pick, and}
use Rattle.basis.specs.Search.{Sought, nothing, found, first}
use Rattle.basis.specs.Told.{Told, answered, refused}
use Rattle.flow.specs.Flow.{row_ok}
use Rattle.mend.specs.Rows.{mended, added, count}
use Rattle.mend.specs.declared.Mended.{Mended}
use Rattle.mend.specs.declared.Unmendable.{Unmendable}
use Rattle.mend.specs.declared.Unmendable.TheVariants.{BadCount, BadRow, NoRoom}

-- What a call tells, the rows that it gives, and what the lent list then holds.
pub record Outcome : Type 0 where
  pub told : Told
  pub rows : List ℕ
  pub pairs : List ℕ

-- 16 rows, as a table has them: those given, and zeros behind them.
abbrev pub full : List ℕ → List ℕ
full given = given ++ replicate (16 - length given) 0

-- 1 to 16 domains.
unfoldable pub count_ok : ℕ → Bool
count_ok d = and (leb 1 d) (leb d 16)

-- Row i, if it does not pass among d.
unfoldable pub bad_at : ℕ → List ℕ → ℕ → Sought ℕ
bad_at d rows i = pick (row_ok d i (get_or rows i 0)) nothing (found i)

-- The first of d rows that does not pass.
unfoldable pub bad_row : ℕ → List ℕ → Sought ℕ
bad_row d rows = first d (bad_at d rows)

-- What the code's answer to that question says.
abbrev pub sought : Option ℕ → Sought ℕ
sought (Some i) = found i
sought None = nothing

-- Refused: no row but zeros, and the list as it was.
abbrev pub refusing : Told → List ℕ → Outcome
refusing t pairs = record { told = t; rows = replicate 16 0; pairs = pairs }

-- The rows ms mend those given: how many pairs were added, and these in the first places of the list, if it has so many; else 16.
unfoldable pub answering : List ℕ → List ℕ → List ℕ → Outcome
answering rows ms pairs = pick (leb (count rows ms 16) (length pairs))
    (record { told = answered (count rows ms 16 ∷ []); rows = ms; pairs = added rows ms 256 ++ drop (count rows ms 16) pairs })
    (refusing (refused 16) pairs)

-- 6 with the first row that does not pass; else the answer.
unfoldable pub judging : ℕ → List ℕ → List ℕ → Sought ℕ → Outcome
judging d rows pairs (found i) = refusing (record { number = 6; values = i ∷ [] }) pairs
judging d rows pairs nothing = answering rows (mended d rows) pairs

-- 5, 6, 16; else the rows mended.
unfoldable pub mending : List ℕ → List ℕ → Outcome
mending given pairs = pick (count_ok (length given)) (judging (length given) (full given) pairs (bad_row (length given) (full given))) (refusing (refused 5) pairs)

-- Document 01's number and values of an answer.
abbrev pub told_unmendable : Unmendable → Told
told_unmendable BadCount = refused 5
told_unmendable (BadRow i) = record { number = 6; values = i ∷ [] }
told_unmendable NoRoom = refused 16

-- A result of the code, and what it left in the list: no row but zeros on a refusal.
abbrev pub outcome : Result Mended Unmendable → List ℕ → Outcome
outcome (Ok m) pairs = record { told = answered (m.added ∷ []); rows = m.rows; pairs = pairs }
outcome (Err why) pairs = refusing (told_unmendable why) pairs
