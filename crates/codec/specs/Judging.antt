-- When each refusal of the reader is given, in plain words: the numbers stand one after the other, each is judged by those
-- before it, and the first that is objected to ends the reading, with its place.
use Rattle.std.specs.Prelude.{ℕ, ◌+◌, ◌*◌, ◌/◌, ◌%◌, ◌<◌, ◌≡◌, List, [], ◌∷◌, ◌++◌, Bool, true, false, length, get_or, take, drop, eqb, ltb}
use Rattle.basis.specs.Tests.{pick, and, or, some}
use Rattle.basis.specs.Told.{Told, answered, refused}
use Rattle.flow.specs.Flow.{row_ok}
use Rattle.flow.specs.Gap.{first_gap, gap_told}
use Rattle.table.specs.Threads.{fields_in}
use Rattle.table.specs.Ranges.{within, domain_counts, thread_counts, field_range}
use Rattle.numeral.specs.Number.{encode_all}
use Rattle.numeral.specs.NumberRules.{NoNumber, NumberValue}

-- Why v is refused as the next field after the fields fs of the threads so far, in a table of this version and d domains (0: it
-- passes): thread i is being read, of w fields, k is its next one, and field 1 is the priority.
unfoldable pub field_fault : ℕ → ℕ → List ℕ → ℕ → ℕ
field_fault version d fs v =
    let w = fields_in version in
    let i = length fs / w in
    let k = length fs % w in
    pick (within (field_range version d (drop (w * i) fs) k) v)
    (pick (and (eqb k 1) (some i (λ j. eqb (get_or fs (w * j + 1) 0) v))) 9 0)
    8

-- Why v is refused as the next number after the numbers vs (0: it passes).
unfoldable pub fault : List ℕ → ℕ → ℕ
fault [] v = pick (or (eqb v 1) (eqb v 2)) 0 4
fault (version ∷ []) v = pick (within domain_counts v) 0 5
fault (version ∷ d ∷ []) v = pick (within thread_counts v) 0 5
fault (version ∷ d ∷ n ∷ vs) v = pick (ltb (length vs) d) (pick (row_ok d (length vs) v) 0 6) (field_fault version d (drop d vs) v)

-- The test that follows the last row: the first gap among the rows, where v is the last row after the numbers vs.
unfoldable pub row_gap : List ℕ → ℕ → Told
row_gap [] v = answered []
row_gap (version ∷ []) v = answered []
row_gap (version ∷ d ∷ []) v = answered []
row_gap (version ∷ d ∷ n ∷ vs) v = pick (eqb (length vs + 1) d) (gap_told (first_gap (vs ++ (v ∷ [])) d)) (answered [])

-- What is objected to v as the next number after vs: its own fault, or, of the last row, the first gap.
unfoldable pub objection : List ℕ → ℕ → Told
objection vs v = pick (eqb (fault vs v) 0) (row_gap vs v) (refused (fault vs v))

-- Another number is wanted after vs: three, one for each domain, and for each thread the fields of the version.
unfoldable pub wanted : List ℕ → Bool
wanted [] = true
wanted (version ∷ []) = true
wanted (version ∷ d ∷ []) = true
wanted (version ∷ d ∷ n ∷ vs) = ltb (length vs) (d + fields_in version * n)

-- The bytes s start with the numbers vs, each wanted where it stands and not objected to.
pub record Before (s vs : List ℕ) : Type 0 where
  pub stands : take (length (encode_all vs)) s ≡ encode_all vs
  pub wants : (k : ℕ) → k < length vs → wanted (take k vs) ≡ true
  pub passed : (k : ℕ) → k < length vs → objection (take k vs) (get_or vs k 0) ≡ answered []

-- The place after the numbers vs.
abbrev pub place : List ℕ → ℕ
place vs = length (encode_all vs)

-- What the rules say of the bytes s.
pub data Judgment (s : List ℕ) : Told → Type 0 where
  -- 1, 2, 3: a number is wanted, and what stands there is none
  no_number : (vs : List ℕ) (why : ℕ) → Before s vs → wanted vs ≡ true → NoNumber (drop (place vs) s) why
      → Judgment s (record { number = why; values = place vs ∷ [] })
  -- 4 to 9: a number is wanted and stands there, and is objected to
  objected : (vs : List ℕ) (v next : ℕ) → Before s vs → wanted vs ≡ true → NumberValue (place vs) (drop (place vs) s) v next
      → 0 < (objection vs v).number
      → Judgment s (record { number = (objection vs v).number; values = place vs ∷ (objection vs v).values })
  -- 10: no number is wanted, and bytes are left
  extra : (vs : List ℕ) → Before s vs → wanted vs ≡ false → place vs < length s
      → Judgment s (record { number = 10; values = place vs ∷ [] })
  -- accepted: no number is wanted, and no byte is left
  all_read : (vs : List ℕ) → Before s vs → wanted vs ≡ false → length s ≡ place vs → Judgment s (answered [])
