-- The plain readings: what the smallest transitive relation is, and when each number is given.
use Rattle.std.specs.Prelude.{ℕ, ◌+◌, ◌*◌, ◌/◌, ◌%◌, ◌≤◌, ◌<◌, ◌≡◌, List, [], ◌∷◌, true, false, length, get_or, take, drop}
use Rattle.basis.specs.Told.{Told, answered, refused}
use Rattle.flow.specs.Flow.{flows, row_ok}
use Rattle.flow.specs.Gap.{WithoutGap}
use Rattle.mend.specs.Rows.{mended, count}
use Rattle.mend.specs.Mend.{Outcome, full}

-- Whatever a relation rows lets flow, the relation qs does too.
pub record Holds (rows qs : List ℕ) : Type 0 where
  pub all : (a b : ℕ) → flows rows a b ≡ true → flows qs a b ≡ true

-- Each of the first d rows names only d domains, its own among them (6).
pub record Passing (d : ℕ) (rows : List ℕ) : Type 0 where
  pub at : (i : ℕ) → i < d → row_ok d i (get_or rows i 0) ≡ true

-- The rows of a policy over d domains, at most 16: each passes, and behind them stands none.
pub record Policy (d : ℕ) (rows : List ℕ) : Type 0 where
  pub few : d ≤ 16
  pub passing : Passing d rows
  pub unused : (i : ℕ) → d ≤ i → get_or rows i 0 ≡ 0

-- 16 rows of 16 bits each, as the type [u16; 16] has them.
pub record Sixteen (rows : List ℕ) : Type 0 where
  pub long : length rows ≡ 16
  pub small : (i : ℕ) → get_or rows i 0 < 65536

-- ms is the smallest transitive relation over d domains that holds the rows: it holds them, has no gap, and is held by each that does and has none.
pub record Smallest (d : ℕ) (rows ms : List ℕ) : Type 0 where
  pub holds : Holds rows ms
  pub transitive : WithoutGap ms d
  pub least : (qs : List ℕ) → Holds rows qs → WithoutGap qs d → Holds ms qs

-- A number stands at a place of a list.
pub record Stands (c : ℕ) (l : List ℕ) : Type 0 where
  pub place : ℕ
  pub below : place < length l
  pub there : get_or l place 0 ≡ c

-- l lists the pairs that ms has and rows has not, each once, as 16 times the source plus the target, in the order of the source and then the target.
pub record Lists (rows ms l : List ℕ) : Type 0 where
  pub only : (k : ℕ) → k < length l → (flows ms (get_or l k 0 / 16) (get_or l k 0 % 16) ≡ true) × (flows rows (get_or l k 0 / 16) (get_or l k 0 % 16) ≡ false)
  pub each : (a b : ℕ) → flows ms a b ≡ true → flows rows a b ≡ false → Stands (16 * a + b) l
  pub ordered : (j k : ℕ) → j < k → k < length l → get_or l j 0 < get_or l k 0

-- An outcome o mends the rows given: its rows are the smallest transitive relation that holds them, 16 of them that pass 6 again; the list then starts
-- with the pairs added, n of them, and its further places stay.
pub record Mends (given pairs : List ℕ) (o : Outcome) : Type 0 where
  pub smallest : Smallest (length given) (full given) o.rows
  pub policy : Policy (length given) o.rows
  pub sixteen : Sixteen o.rows
  pub n : ℕ
  pub told : o.told ≡ answered (n ∷ [])
  pub counted : n ≡ count (full given) o.rows 16
  pub enough : n ≤ length pairs
  pub begins : Lists (full given) o.rows (take n o.pairs)
  pub many : length (take n o.pairs) ≡ n
  pub rest : drop n o.pairs ≡ drop n pairs
  pub long : length o.pairs ≡ length pairs

-- Row i is the first that does not pass: it has a bit for a domain without a row, or lacks its own.
pub record FirstFailing (given : List ℕ) (i : ℕ) : Type 0 where
  pub below : i < length given
  pub fails : row_ok (length given) i (get_or given i 0) ≡ false
  pub earlier : (j : ℕ) → j < i → row_ok (length given) j (get_or given j 0) ≡ true

-- 1 to 16 rows.
pub record InRange (given : List ℕ) : Type 0 where
  pub low : 1 ≤ length given
  pub high : length given ≤ 16

-- How many pairs the smallest transitive relation over the rows given has more.
abbrev pub missing : List ℕ → ℕ
missing given = count (full given) (mended (length given) (full given)) 16

-- What is told when: one row for each number, and a number is given in its rows only.
pub data Tells (given pairs : List ℕ) : Told → Type 0 where
  -- 5: no row, or more than 16
  no_domains : length given ≡ 0 → Tells given pairs (refused 5)
  many_domains : 16 < length given → Tells given pairs (refused 5)
  -- 6: with the first row that does not pass
  row_fails : (i : ℕ) → InRange given → FirstFailing given i → Tells given pairs (record { number = 6; values = i ∷ [] })
  -- 16: the list has fewer places than pairs are added
  no_room : InRange given → Passing (length given) given → length pairs < missing given → Tells given pairs (refused 16)
  -- 0: mended, with how many
  mends : InRange given → Passing (length given) given → missing given ≤ length pairs → Tells given pairs (answered (missing given ∷ []))
