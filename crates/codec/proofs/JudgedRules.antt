-- The rules at each place of a table are what the reader tests there, over its arrays that are zero where nothing was read.
use Prim.Native.Nat.{ℕ, ◌+◌, ◌-◌, ◌*◌, ◌/◌, ◌%◌, ◌≤◌, ◌<◌}
use mathlib.Core.Path.{◌≡◌, refl, sym, ◌∙◌}
use mathlib.Core.Bool.{Bool, true, false, not}
use mathlib.Core.List.{List, [], ◌∷◌, ◌++◌}
use native.Mathlib.Omega.{arith}
use lib.ListN.{length, get_or, replicate, length-append, get_or-append}
use lib.Seq.{drop_at}
use lib.Dec.{eqb}
use borrow.Author.Tests.{eq-eqb, ne_eqb, eqb-false, lt-ltb, le-ltb}
use Rattle.basis.specs.Tests.{pick, and, or, some}
use Rattle.basis.specs.Told.{answered}
use Rattle.basis.proofs.TestLaws.{by_test, fails, or_left, or_right, some_same}
use Rattle.basis.proofs.ListLaws.{padded}
use Rattle.flow.specs.Flow.{row_ok}
use Rattle.flow.specs.Gap.{first_gap, gap_told}
use Rattle.table.specs.Threads.{field_count, fields_in, none}
use Rattle.table.specs.Ranges.{within, versions, field_range}
use Rattle.table.specs.Legal.{taken}
use Rattle.table.specs.declared.Thread.{Thread}
use Rattle.table.proofs.RangeLaws.{by_fields, fields_in_least, within_low, within_high, within-is, field_range_by}
use Rattle.reader.specs.Reader.{free}
use Rattle.codec.specs.Judging.{field_fault, fault, row_gap, wanted}
use Rattle.codec.proofs.BeforeLaws.{one_or_two}

-- The rule of the version, as a range.
pub version_fault : (v : ℕ) → fault [] v ≡ pick (within versions v) 0 4
unfolding fault pick
version_fault v =
    by_test (or (eqb v 1) (eqb v 2))
    (λ t. let l = one_or_two v t in rw (t, within-is versions v l.0 (omega arith)))
    (λ t. let no : (v ≡ 1 → ⊥) × (v ≡ 2 → ⊥) = (eqb-false v 1 (or_left (eqb v 1) (eqb v 2) t), eqb-false v 2 (or_right (eqb v 1) (eqb v 2) t)) in
    rw (t, fails (within versions v) (λ e. omega (arith, no.0, no.1, within_low versions v e, within_high versions v e))))

-- Where field k of thread i stands, each thread having the fields of a version.
pub place_under : (x i n k : ℕ) → i < n → k < fields_in x → fields_in x * i + k < fields_in x * n
place_under x i n k h = by_fields (λ w. k < w → w * i + k < w * n) x (λ l. omega arith) (λ l. omega arith)

place-thread : (x i k : ℕ) → k < fields_in x → (fields_in x * i + k) / fields_in x ≡ i
place-thread x i k = by_fields (λ w. k < w → (w * i + k) / w ≡ i) x (λ l. omega arith) (λ l. omega arith)

place-field : (x i k : ℕ) → k < fields_in x → (fields_in x * i + k) % fields_in x ≡ k
place-field x i k = by_fields (λ w. k < w → (w * i + k) % w ≡ k) x (λ l. omega arith) (λ l. omega arith)

-- The rules of the rows: the numbers x, d, n stand before them.
pub row_fault : (x d n : ℕ) (rs : List ℕ) (v : ℕ) → length rs < d → fault (x ∷ d ∷ n ∷ rs) v ≡ pick (row_ok d (length rs) v) 0 6
unfolding fault pick
row_fault x d n rs v h = rw (lt-ltb (length rs) d h)

pub no_row_gap : (x d n : ℕ) (rs : List ℕ) (v : ℕ) → (length rs + 1 ≡ d → ⊥) → row_gap (x ∷ d ∷ n ∷ rs) v ≡ answered []
unfolding row_gap pick
no_row_gap x d n rs v h = rw (ne_eqb (length rs + 1) d h)

pub last-row_gap : (x d n : ℕ) (rs : List ℕ) (v : ℕ) → length rs + 1 ≡ d → row_gap (x ∷ d ∷ n ∷ rs) v ≡ gap_told (first_gap (rs ++ (v ∷ [])) d)
unfolding row_gap pick
last-row_gap x d n rs v h = rw (eq-eqb (length rs + 1) d h)

pub wanted-is : (x d n : ℕ) (vs : List ℕ) → length vs < d + fields_in x * n → wanted (x ∷ d ∷ n ∷ vs) ≡ true
unfolding wanted
wanted-is x d n vs h = lt-ltb (length vs) (d + fields_in x * n) h

pub wanted_no : (x d n : ℕ) (vs : List ℕ) → d + fields_in x * n ≤ length vs → wanted (x ∷ d ∷ n ∷ vs) ≡ false
unfolding wanted
wanted_no x d n vs h = le-ltb (length vs) (d + fields_in x * n) h

-- Refused with 9 where taken, or passed where free.
swapped : (a t : Bool) → ◌≡◌ {A = ℕ} (pick (and a t) 9 0) (pick (or (not a) (not t)) 0 9)
unfolding pick
swapped true true = refl
swapped true false = refl
swapped false t = refl

-- The threads ths have the priorities that stand among the fields fs.
pub record Agree (x : ℕ) (ths : List Thread) (i : ℕ) (fs : List ℕ) : Type 0 where
  pub long : length fs ≡ fields_in x * i
  pub priorities : (j : ℕ) → j < i → (get_or ths j none).priority ≡ get_or fs (fields_in x * j + 1) 0

taken-same : (x : ℕ) (ths : List Thread) (i : ℕ) (fs gs : List ℕ) (v : ℕ) → Agree x ths i fs
    → some i (λ j. eqb (get_or (fs ++ gs) (fields_in x * j + 1) 0) v) ≡ taken ths i v
unfolding taken
taken-same x ths i fs gs v a =
    some_same _ _ i (λ j h. let l : fields_in x * j + 1 < length fs = rw a.long (place_under x j i 1 h (omega (arith, fields_in_least x))) in
    rw (get_or-append fs gs 0 (fields_in x * j + 1) l, a.priorities j h))

-- The rules of a thread's fields: the fields fs of the threads before it and gs of its own so far stand before them.
pub field_fault-is : (x d : ℕ) (ths : List Thread) (i k : ℕ) (fs gs vs : List ℕ) (v : ℕ) → Agree x ths i fs → length gs ≡ k → k < fields_in x
    → vs ≡ gs ++ replicate (field_count - k) 0 → field_fault x d (fs ++ gs) v ≡ pick (within (field_range x d vs k) v) (pick (free ths i k v) 0 9) 8
unfolding field_fault free
field_fault-is x d ths i k fs gs vs v a e h q =
    let w : ℕ = fields_in x in
    let l : length (fs ++ gs) ≡ w * i + k = length-append fs gs ∙ rw (a.long, e) in
    let li : length (fs ++ gs) / w ≡ i = rw l (place-thread x i k h) in
    let lk : length (fs ++ gs) % w ≡ k = rw l (place-field x i k h) in
    let r : field_range x d gs k ≡ field_range x d vs k = field_range_by x d gs vs k (λ j m. rw q (sym (padded gs (field_count - k) j 0))) in
    rw (li, lk, drop_at fs gs (w * i) a.long, r, taken-same x ths i fs gs v a, swapped (eqb k 1) (taken ths i v))

pub thread-fault : (x d n : ℕ) (rs fs : List ℕ) (v : ℕ) → length rs ≡ d → fault (x ∷ d ∷ n ∷ (rs ++ fs)) v ≡ field_fault x d fs v
unfolding fault pick
thread-fault x d n rs fs v e =
    rw (le-ltb (length (rs ++ fs)) d (omega (arith, length-append rs fs)), drop_at rs fs d e)
