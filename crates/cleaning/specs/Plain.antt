-- The plain reading: which cleanings are due in a trace, and what it is to list them.
use Rattle.std.specs.Prelude.{ℕ, ◌+◌, ◌≤◌, ◌<◌, ◌≡◌, List, [], ◌∷◌, ◌++◌, map, true, false, ◌≢◌, length, get_or, take, drop}
use Rattle.basis.specs.Told.{Told, answered, refused}
use Rattle.table.specs.Legal.{legal}
use Rattle.table.specs.declared.Table.{Table}
use Rattle.cleaning.specs.declared.Cleaning.{Cleaning}
use Rattle.cleaning.specs.Cleanings.{nobody, may_pass, last_run, cleanings, Outcome}
use Rattle.cleaning.specs.Scan.{none}

-- Thread i runs at step k.
pub record Runs (t : Table) (trace : List ℕ) (k i : ℕ) : Type 0 where
  pub in_table : i < t.count
  pub within : k < length trace
  pub byte : get_or trace k 0 ≡ i

-- Thread i last ran before step k: at an earlier step, and no thread since.
pub record Last (t : Table) (trace : List ℕ) (k i : ℕ) : Type 0 where
  pub at : ℕ
  pub earlier : at < k
  pub runs : Runs t trace at i
  pub since : (j h : ℕ) → at < j → j < k → Runs t trace j h → ⊥

-- A cleaning is due: a thread runs at its step, the one that last ran before it is another, and its domain may not flow to the later one's.
pub record Due (t : Table) (trace : List ℕ) (c : Cleaning) : Type 0 where
  pub runs : Runs t trace c.step c.after
  pub last : Last t trace c.step c.before
  pub another : c.before ≢ c.after
  pub barred : may_pass t c.before c.after ≡ false

-- A cleaning stands at a place of a list.
pub record Stands (c : Cleaning) (l : List Cleaning) : Type 0 where
  pub place : ℕ
  pub below : place < length l
  pub there : get_or l place none ≡ c

-- A list has each cleaning that is due, nothing else, and in the order of the steps.
pub record Lists (t : Table) (trace : List ℕ) (l : List Cleaning) : Type 0 where
  pub only : (n : ℕ) → n < length l → Due t trace (get_or l n none)
  pub each : (c : Cleaning) → Due t trace c → Stands c l
  pub ordered : (j k : ℕ) → j < k → k < length l → (get_or l j none).step < (get_or l k none).step

-- A cleaning that is due stands after a run at step j and not after one at step k.
pub record Between (t : Table) (trace : List ℕ) (j k : ℕ) : Type 0 where
  pub cleaning : Cleaning
  pub due : Due t trace cleaning
  pub after : j < cleaning.step
  pub not_after : cleaning.step ≤ k

-- A cleaning cannot be left out: its two runs are such that the earlier thread may not flow to the later one, and of all that are due it alone stands after the
-- earlier run and not after the later.
pub record Needed (t : Table) (trace : List ℕ) (c : Cleaning) : Type 0 where
  pub from : ℕ
  pub sooner : from < c.step
  pub earlier : Runs t trace from c.before
  pub later : Runs t trace c.step c.after
  pub barred : may_pass t c.before c.after ≡ false
  pub only : (d : Cleaning) → Due t trace d → from < d.step → d.step ≤ c.step → d ≡ c

-- The same cleaning, n steps later: a part of a trace counts its steps from its own first byte.
abbrev pub later : ℕ → Cleaning → Cleaning
later n c = record { step = n + c.step; before = c.before; after = c.after }

-- The cleanings of parts that stand one behind the other, n bytes before the first of them: each is read behind one more byte, who last ran before it (a before the first), and so
-- counts one step more than its own.
unfoldable pub in_parts : Table → ℕ → ℕ → List (List ℕ) → List Cleaning
in_parts t n a [] = []
in_parts t n a (p ∷ ps) = map (later n) (cleanings t (a ∷ p)) ++ in_parts t (n + length p) (last_run t nobody (a ∷ p)) ps

-- The parts, one behind the other.
abbrev pub joined : List (List ℕ) → List ℕ
joined [] = []
joined (p ∷ ps) = p ++ joined ps

-- A byte names a thread of a table that has n: as the one that ran or as the one idled for; or it is 255.
pub data Named (n : ℕ) : ℕ → Type 0 where
  ran : (i : ℕ) → i < n → Named n i
  idled : (i : ℕ) → i < n → Named n (32 + i)
  idle : Named n 255

-- A trace has a byte that does none of this.
pub record Unnamed (n : ℕ) (trace : List ℕ) : Type 0 where
  pub step : ℕ
  pub within : step < length trace
  pub unknown : Named n (get_or trace step 0) → ⊥

-- What a call that is not refused gives: how many cleanings there are, these in the first places of the list, and the further places as they were.
pub record Gives (t : Table) (trace : List ℕ) (list : List Cleaning) (o : Outcome) : Type 0 where
  pub number : ℕ
  pub told : o.told ≡ answered (number ∷ [])
  pub as_many : length (take number o.list) ≡ number
  pub lists : Lists t trace (take number o.list)
  pub stay : drop number o.list ≡ drop number list

-- What is told when: one row for each number, and a number is given in its row only.
pub data Tells (t : Table) (trace : List ℕ) (list : List Cleaning) : Told → Type 0 where
  -- 11: the table is not legal
  not-legal : legal t ≡ false → Tells t trace list (refused 11)
  -- 21: a byte names no thread of the table and is not 255
  no_thread : legal t ≡ true → Unnamed t.count trace → Tells t trace list (refused 21)
  -- 16: the list has fewer places than there are cleanings
  no_room : legal t ≡ true → (Unnamed t.count trace → ⊥) → length list < length (cleanings t trace) → Tells t trace list (refused 16)
  -- 0: with how many
  cleans : legal t ≡ true → (Unnamed t.count trace → ⊥) → length (cleanings t trace) ≤ length list → Tells t trace list (answered (length (cleanings t trace) ∷ []))
