-- Laws of the reader's parts: one turn of each of its loops, and how large what it read can be.
use Prim.Native.Nat.{ℕ, zero, suc, ◌+◌, ◌-◌, ◌≤◌, ◌<◌}
use mathlib.Core.Path.{◌≡◌, refl, sym, ◌∙◌, ap, subst}
use mathlib.Core.List.{List, ◌∷◌}
use mathlib.Core.Bool.{Bool}
use mathlib.Core.Logic.{⊎_elim}
use native.Mathlib.Nat.{eq-or-lt_of_le}
use native.Mathlib.Decide.{le_ind}
use native.Mathlib.Numerals.{add-one}
use native.Mathlib.Omega.{arith}
use lib.ListN.{length, get_or, length-set}
use lib.Seq.{get_or-set_same, get_or-set_other}
use lib.Dec.{eqb, ltb}
use borrow.Author.Tests.{ne_eqb, eqb-false, ltb-true, ltb-false}
use Rattle.basis.specs.Tests.{pick}
use Rattle.std.specs.Prelude.{Result, Ok, Err, IsErrAnd}
use Rattle.basis.specs.Told.{Told}
use Rattle.basis.specs.Refusals.{number, values}
use Rattle.basis.proofs.RefusalLaws.{refused-apart, number-positive}
use Rattle.basis.specs.Search.{Sought, nothing, found}
use Rattle.basis.proofs.TestLaws.{by_test, either}
use Rattle.basis.proofs.ListLaws.{all_alike}
use Rattle.flow.specs.Gap.{Triple, first_gap}
use Rattle.table.specs.Threads.{field_count, fields_in, Narrow}
use Rattle.table.specs.Ranges.{within, versions, domain_counts, thread_counts, field_range}
use Rattle.table.specs.declared.Range.{Range}
use Rattle.table.specs.declared.Table.{Table}
use Rattle.table.specs.declared.Thread.{Thread}
use Rattle.table.proofs.RangeLaws.{within_high, field_range_by, narrow_by}
use Rattle.reader.specs.declared.Fault.{Fault}
use Rattle.reader.specs.declared.Cursor.{Cursor as CursorInHand}
use Rattle.reader.specs.Reader.{Cursor, RowsRead, FieldsRead, ThreadsRead, GivesUp, Stands, HasRows, HasFields, HasThreads, Read, told, table_of, read_of, good, number_from, judged, ranged, row_from, put_row, rows_from, free, field_from, put_field, fields_from, put_thread, threads_from, accepted, no_table, ended, whole_or_gap, after_rows, version_from, domains_from, count_from, reading}

-- One turn of each loop.
pub rows_next : (s : List ℕ) (d : ℕ) (c : Cursor) (i : ℕ) (k k' : Cursor) (rows : List ℕ) →
    record { cursor = k; rows = rows } ≡ rows_from s d c i → k' ≡ row_from s d i k → put_row i rows k' ≡ rows_from s d c (i + 1)
unfolding rows_from
rows_next s d c i k k' rows e f = rw (add-one, ← e, f)

pub fields-next : (s : List ℕ) (v d : ℕ) (ths : List Thread) (i : ℕ) (c : Cursor) (k : ℕ) (a a' : Cursor) (vs : List ℕ) →
    record { cursor = a; fields = vs } ≡ fields_from s v d ths i c k → a' ≡ field_from s v d ths i vs k a →
    put_field k vs a' ≡ fields_from s v d ths i c (k + 1)
unfolding fields_from
fields-next s v d ths i c k a a' vs e f = rw (add-one, ← e, f)

pub threads_next : (s : List ℕ) (v d : ℕ) (c : Cursor) (i : ℕ) (k : Cursor) (ths : List Thread) (f : FieldsRead) →
    record { cursor = k; threads = ths } ≡ threads_from s v d c i → f ≡ fields_from s v d ths i k (fields_in v) → put_thread i ths f ≡ threads_from s v d c (i + 1)
unfolding threads_from
threads_next s v d c i k ths f e g = rw (add-one, ← e, g)

-- The head and the rows, as the code has them in hand.
pub reading-is : (s : List ℕ) (v d n : Cursor) (r : RowsRead) → v ≡ ranged s (good 0 0 0) versions 4 → d ≡ ranged s v domain_counts 5 →
    n ≡ ranged s d thread_counts 5 → r ≡ rows_from s d.value n d.value → reading s ≡ after_rows s v.value d.value n.value r
unfolding reading version_from domains_from count_from
reading-is s v d n r e1 e2 e3 e4 =
    let a1 : v ≡ version_from s = e1 in
    let a2 : d ≡ domains_from s = rw e1 at e2 in
    let a3 : n ≡ count_from s = rw a2 at e3 in
    rw (e4, a2, a3, a1)

-- What is judged is at most what was read, and what is read in a range is below its limit: on a refusal the value is 0.
judged_le : (c : Cursor) (ok : Bool) (why : ℕ) → (judged c ok why).value ≤ c.value
unfolding judged pick
judged_le c ok why =
    by_test (eqb c.refusal 0)
    (λ e. by_test ok (λ f. rw (e, f) (omega arith)) (λ f. rw (e, f) (omega arith)))
    (λ e. rw e (omega arith))

pub ranged_le : (s : List ℕ) (c : Cursor) (r : Range) (why : ℕ) → (ranged s c r why).value ≤ r.below - 1
unfolding ranged judged pick
ranged_le s c r why =
    by_test (eqb (number_from s c).refusal 0)
    (λ e. by_test (within r (number_from s c).value)
    (λ f. rw (e, f) (omega (arith, within_high r (number_from s c).value f)))
    (λ f. rw (e, f) (omega arith)))
    (λ e. rw e (omega arith))

pub ranged_small : (s : List ℕ) (c x : Cursor) (r : Range) (why n : ℕ) → x ≡ ranged s c r why → r.below < n → x.value < n
ranged_small s c x r why n e h = rw e (omega (arith, ranged_le s c r why))

pub ranged-most : (s : List ℕ) (c x : Cursor) (r : Range) (why : ℕ) → x ≡ ranged s c r why → x.value ≤ r.below - 1
ranged-most s c x r why e = rw e (ranged_le s c r why)

pub field_le : (s : List ℕ) (v d : ℕ) (ths : List Thread) (i : ℕ) (vs : List ℕ) (k : ℕ) (c : Cursor) →
    (field_from s v d ths i vs k c).value ≤ (field_range v d vs k).below - 1
unfolding field_from
field_le s v d ths i vs k c =
    let r : Cursor = ranged s c (field_range v d vs k) 8 in
    omega (arith, ranged_le s c (field_range v d vs k) 8, judged_le r (free ths i k r.value) 9)

pub length_fields : (s : List ℕ) (v d : ℕ) (ths : List Thread) (i : ℕ) (c : Cursor) (k : ℕ) → length (fields_from s v d ths i c k).fields ≡ field_count
unfolding fields_from
length_fields s v d ths i c zero = refl
length_fields s v d ths i c (suc k) = simp length-set (length_fields s v d ths i c k)

-- A field, once read, stays while the later ones are read.
pub field_at : (s : List ℕ) (v d : ℕ) (ths : List Thread) (i : ℕ) (c : Cursor) (j k : ℕ) → j < k → k ≤ field_count →
    get_or (fields_from s v d ths i c k).fields j 0 ≡ (field_from s v d ths i (fields_from s v d ths i c j).fields j (fields_from s v d ths i c j).cursor).value
unfolding fields_from
field_at s v d ths i c j zero h l = absurd (omega arith)
field_at s v d ths i c j (suc k) h l =
    let vs : List ℕ = (fields_from s v d ths i c k).fields in
    ⊎_elim
    (λ (q : j ≡ k). rw q (get_or-set_same vs k _ 0 (rw (length_fields s v d ths i c k) l)))
    (λ (q : j < k). get_or-set_other vs k j _ 0 (λ z. omega arith) ∙ field_at s v d ths i c j k q (omega arith))
    (eq-or-lt_of_le (omega arith))

-- A field that was not read is 0.
pub field_unread : (s : List ℕ) (v d : ℕ) (ths : List Thread) (i : ℕ) (c : Cursor) (j k : ℕ) → k ≤ j → get_or (fields_from s v d ths i c k).fields j 0 ≡ 0
unfolding fields_from
field_unread s v d ths i c j zero h = all_alike field_count j 0
field_unread s v d ths i c j (suc k) h =
    get_or-set_other (fields_from s v d ths i c k).fields k j _ 0 (λ z. omega arith) ∙ field_unread s v d ths i c j k (omega arith)

-- So each field is below the limit of its range, and those that a thread keeps in one byte fit there.
pub fields_small : (s : List ℕ) (v d : ℕ) (ths : List Thread) (i : ℕ) (c : Cursor) (n : ℕ) → n ≤ field_count → d < 256
    → Narrow (fields_from s v d ths i c n).fields
fields_small s v d ths i c n e h =
    let at : ℕ → FieldsRead = fields_from s v d ths i c in
    let same : (k j : ℕ) → k < n → j < k → get_or (at k).fields j 0 ≡ get_or (at n).fields j 0
    = λ k j l m. field_at s v d ths i c j k m (omega arith) ∙ sym (field_at s v d ths i c j n (omega arith) e) in
    narrow_by v d (at n).fields h
    (λ k l. by_test (ltb k n)
    (λ t. let m : k < n = ltb-true k n t in
    rw (
      field_at s v d ths i c k n m e,
      ← field_range_by v d (at k).fields (at n).fields k (λ j o. same k j m o),
    ) (field_le s v d ths i (at k).fields k (at k).cursor))
    (λ t. rw (field_unread s v d ths i c k n (ltb-false k n t)) (omega arith)))

-- What the code has in hand of them.
pub fields_read : (s : List ℕ) (v d : ℕ) (ths : List Thread) (i : ℕ) (c : Cursor) (n : ℕ) (r : FieldsRead) → r ≡ fields_from s v d ths i c n → n ≤ field_count → d < 256
    → Narrow r.fields
fields_read s v d ths i c n r e h k = rw e (fields_small s v d ths i c n h k)

-- The table of a refused reading is all zero.
abbrev Zero : Read → Type 0
Zero r = 0 < r.told.number → r.table ≡ no_table

refused-ended : (s : List ℕ) (v d n : ℕ) (rows : List ℕ) (t : ThreadsRead) → 0 < (ended s v d n rows t).told.number → (ended s v d n rows t).table ≡ no_table
unfolding ended
refused-ended s v d n rows t =
    either Zero (eqb t.cursor.refusal 0)
    (λ e. either Zero (ltb t.cursor.next (length s)) (λ f h. refl) (λ f h. absurd (omega arith))) (λ e h. refl)

refused-gap : (place : ℕ) (g : Sought Triple) (r : Read) → Zero r → Zero (whole_or_gap place g r)
refused-gap place nothing r z = z
refused-gap place (found g) r z = λ h. refl

pub refused-zero : (s : List ℕ) → 0 < (reading s).told.number → (reading s).table ≡ no_table
unfolding reading after_rows
refused-zero s =
    either Zero (eqb rows.cursor.refusal 0)
    (λ e. refused-gap rows.cursor.start (first_gap rows.rows d) (ended s v d n rows.rows threads) (refused-ended s v d n rows.rows threads))
    (λ e h. refl)
  where
    v : ℕ
    v = (version_from s).value

    d : ℕ
    d = (domains_from s).value

    n : ℕ
    n = (count_from s).value

    rows : RowsRead
    rows = rows_from s d (count_from s) d

    threads : ThreadsRead
    threads = threads_from s v d rows.cursor n

-- A reading that is not refused is accepted.
abbrev Plain : Read → Type 0
Plain r = r.told.number ≡ 0 → r ≡ accepted r.table

plain-ended : (s : List ℕ) (v d n : ℕ) (rows : List ℕ) (t : ThreadsRead) → Plain (ended s v d n rows t)
unfolding ended
plain-ended s v d n rows t =
    either Plain (eqb t.cursor.refusal 0)
    (λ e. either Plain (ltb t.cursor.next (length s)) (λ f h. absurd (omega arith)) (λ f h. refl))
    (λ e h. absurd (eqb-false t.cursor.refusal 0 e h))

plain-gap : (place : ℕ) (g : Sought Triple) (r : Read) → Plain r → Plain (whole_or_gap place g r)
plain-gap place nothing r z = z
plain-gap place (found g) r z = λ h. absurd (omega arith)

pub accepted-plain : (s : List ℕ) → (reading s).told.number ≡ 0 → reading s ≡ accepted (reading s).table
unfolding reading after_rows
accepted-plain s =
    let v : ℕ = (version_from s).value in
    let d : ℕ = (domains_from s).value in
    let n : ℕ = (count_from s).value in
    let r : RowsRead = rows_from s d (count_from s) d in
    either Plain (eqb r.cursor.refusal 0)
    (λ e. plain-gap r.cursor.start (first_gap r.rows d) _ (plain-ended s v d n r.rows (threads_from s v d r.cursor n)))
    (λ e h. absurd (eqb-false r.cursor.refusal 0 e h))

-- What `?` hands on is the fault that it was given.
handed_on : {T E : Type 0} {e : E} (P : Result T E → Type 0) (r : Result T E) → IsErrAnd r (λ y. y ≡ e) → P (Err e) → P r
handed_on P (Ok t) h p = absurd h
handed_on {E = E} P (Err y) h p = subst (λ (x : E). P (Err x)) (sym h) p

module _ (f : Fault) where
  pub number_ends : (k : Cursor) (r : Result CursorInHand Fault) → IsErrAnd r (λ y. y ≡ f) → GivesUp f k → Stands r k
  number_ends k = handed_on (λ r. Stands r k)

  pub rows_ends : (x : RowsRead) (r : Result (CursorInHand × List ℕ) Fault) → IsErrAnd r (λ y. y ≡ f) → GivesUp f x.cursor → HasRows r x
  rows_ends x = handed_on (λ r. HasRows r x)

  pub fields_ends : (x : FieldsRead) (r : Result (CursorInHand × List ℕ) Fault) → IsErrAnd r (λ y. y ≡ f) → GivesUp f x.cursor → HasFields r x
  fields_ends x = handed_on (λ r. HasFields r x)

  pub threads_ends : (x : ThreadsRead) (r : Result (CursorInHand × List Thread) Fault) → IsErrAnd r (λ y. y ≡ f) → GivesUp f x.cursor → HasThreads r x
  threads_ends x = handed_on (λ r. HasThreads r x)

  pub read_ends : (x : Read) (r : Result Table Fault) → IsErrAnd r (λ y. y ≡ f) → read_of (Err f) ≡ x → read_of r ≡ x
  read_ends x = handed_on (λ r. read_of r ≡ x)

-- Where the code gave up the reader stands refused, and nothing more is read.
stuck : {A : Type 0} (f : Fault) (a b : A) → pick (eqb (number f.why) 0) a b ≡ b
unfolding pick
stuck f a b = rw (ne_eqb (number f.why) 0 (λ z. omega (arith, number-positive f.why)))

number_stuck : {f : Fault} {c : Cursor} (s : List ℕ) → GivesUp f c → GivesUp f (number_from s c)
unfolding number_from
number_stuck {f} {c} s g = record { met = rw g.met (stuck f _ _); plain = g.plain }

pub judged_stuck : {f : Fault} {c : Cursor} (ok : Bool) (why : ℕ) → GivesUp f c → GivesUp f (judged c ok why)
unfolding judged
judged_stuck {f} {c} ok why g = record { met = rw g.met (stuck f _ _); plain = g.plain }

pub ranged_stuck : {f : Fault} {c : Cursor} (s : List ℕ) (r : Range) (why : ℕ) → GivesUp f c → GivesUp f (ranged s c r why)
unfolding ranged
ranged_stuck s r why g = judged_stuck _ why (number_stuck s g)

row_stuck : {f : Fault} {c : Cursor} (s : List ℕ) (d i : ℕ) → GivesUp f c → GivesUp f (row_from s d i c)
unfolding row_from
row_stuck s d i g = judged_stuck _ 6 (number_stuck s g)

rows_stuck : {f : Fault} {c : Cursor} (s : List ℕ) (d n : ℕ) → GivesUp f c → GivesUp f (rows_from s d c n).cursor
unfolding rows_from
rows_stuck s d zero g = g
rows_stuck s d (suc n) g = row_stuck s d n (rows_stuck s d n g)

field_stuck : {f : Fault} {c : Cursor} (s : List ℕ) (v d : ℕ) (ths : List Thread) (i : ℕ) (vs : List ℕ) (k : ℕ)
    → GivesUp f c → GivesUp f (field_from s v d ths i vs k c)
unfolding field_from
field_stuck s v d ths i vs k g = judged_stuck _ 9 (ranged_stuck s _ 8 g)

fields_stuck : {f : Fault} {c : Cursor} (s : List ℕ) (v d : ℕ) (ths : List Thread) (i n : ℕ) → GivesUp f c → GivesUp f (fields_from s v d ths i c n).cursor
unfolding fields_from
fields_stuck s v d ths i zero g = g
fields_stuck s v d ths i (suc n) g = field_stuck s v d ths i _ n (fields_stuck s v d ths i n g)

-- The loops give up at the turn that does.
pub rows_end : {f : Fault} (s : List ℕ) (d : ℕ) (c : Cursor) (i n : ℕ) (k : Cursor) (rows : List ℕ) →
    record { cursor = k; rows = rows } ≡ rows_from s d c i → i < n → GivesUp f (row_from s d i k) → GivesUp f (rows_from s d c n).cursor
unfolding rows_from
rows_end {f} s d c i n k rows e h g =
    le_ind (λ (m : ℕ). GivesUp f (rows_from s d c m).cursor) (rw (← e) g) (λ m l r. row_stuck s d m r) n h

pub fields_end : {f : Fault} (s : List ℕ) (v d : ℕ) (ths : List Thread) (i : ℕ) (c : Cursor) (k n : ℕ) (a : Cursor) (vs : List ℕ) →
    record { cursor = a; fields = vs } ≡ fields_from s v d ths i c k → k < n → GivesUp f (field_from s v d ths i vs k a)
    → GivesUp f (fields_from s v d ths i c n).cursor
unfolding fields_from
fields_end {f} s v d ths i c k n a vs e h g =
    le_ind (λ (m : ℕ). GivesUp f (fields_from s v d ths i c m).cursor) (rw (← e) g) (λ m l r. field_stuck s v d ths i _ m r) n h

pub threads_end : {f : Fault} (s : List ℕ) (v d : ℕ) (c : Cursor) (i n : ℕ) (k : Cursor) (ths : List Thread) →
    record { cursor = k; threads = ths } ≡ threads_from s v d c i → i < n → GivesUp f (fields_from s v d ths i k (fields_in v)).cursor
    → GivesUp f (threads_from s v d c n).cursor
unfolding threads_from
threads_end {f} s v d c i n k ths e h g =
    le_ind (λ (m : ℕ). GivesUp f (threads_from s v d c m).cursor) (rw (← e) g) (λ m l r. fields_stuck s v d _ m (fields_in v) r) n h

-- What is answered where the code gave up: at a thread, at a row, at the head.
pub ended_stuck : {f : Fault} (s : List ℕ) (v d n : ℕ) (rows : List ℕ) (t : ThreadsRead) → GivesUp f t.cursor → read_of (Err f) ≡ ended s v d n rows t
unfolding ended
ended_stuck {f} s v d n rows t g = rw (g.met, g.plain) (sym (stuck f _ _))

after_stuck : {f : Fault} (s : List ℕ) (v d n : ℕ) (r : RowsRead) → GivesUp f r.cursor → read_of (Err f) ≡ after_rows s v d n r
unfolding after_rows
after_stuck {f} s v d n r g = rw (g.met, g.plain) (sym (stuck f _ _))

pub rows_refused : {f : Fault} (s : List ℕ) (v d n : Cursor) → v ≡ ranged s (good 0 0 0) versions 4 → d ≡ ranged s v domain_counts 5 →
    n ≡ ranged s d thread_counts 5 → GivesUp f (rows_from s d.value n d.value).cursor → read_of (Err f) ≡ reading s
rows_refused s v d n e1 e2 e3 g = rw (reading-is s v d n _ e1 e2 e3 refl) (after_stuck s v.value d.value n.value _ g)

pub count_refused : {f : Fault} (s : List ℕ) (v d : Cursor) → v ≡ ranged s (good 0 0 0) versions 4 → d ≡ ranged s v domain_counts 5 →
    GivesUp f (ranged s d thread_counts 5) → read_of (Err f) ≡ reading s
count_refused s v d e1 e2 g = rows_refused s v d _ e1 e2 refl (rows_stuck s d.value d.value g)

pub domains_refused : {f : Fault} (s : List ℕ) (v : Cursor) → v ≡ ranged s (good 0 0 0) versions 4 → GivesUp f (ranged s v domain_counts 5) → read_of (Err f) ≡ reading s
domains_refused s v e1 g = count_refused s v _ e1 refl (ranged_stuck s thread_counts 5 g)

pub version_refused : {f : Fault} (s : List ℕ) → GivesUp f (ranged s (good 0 0 0) versions 4) → read_of (Err f) ≡ reading s
version_refused s g = domains_refused s _ refl (ranged_stuck s domain_counts 5 g)

-- Faults that tell the same are the same: the number, the place and the values say which.
fault_apart : (f g : Fault) → told (Err f) ≡ told (Err g) → f ≡ g
fault_apart f g e =
    let n : number f.why ≡ number g.why = ap (λ (t : Told). t.number) e in
    let l : f.place ∷ values f.why ≡ g.place ∷ values g.why = ap (λ (t : Told). t.values) e in
    let p : f.place ≡ g.place = cc in
    let v : values f.why ≡ values g.why = cc in
    let w : f.why ≡ g.why = refused-apart f.why g.why (cc) in
    λ i. record { why = w i; place = p i }

-- An answer has one reading.
pub told_injective : (r q : Result Table Fault) → told r ≡ told q → table_of r ≡ table_of q → r ≡ q
told_injective (Ok t) (Ok u) e h = ap Ok h
told_injective (Ok t) (Err f) e h = let n : 0 ≡ number f.why = ap (λ (t : Told). t.number) e in absurd (omega (arith, number-positive f.why))
told_injective (Err f) (Ok t) e h = let n : number f.why ≡ 0 = ap (λ (t : Told). t.number) e in absurd (omega (arith, number-positive f.why))
told_injective (Err f) (Err g) e h = ap Err (fault_apart f g e)

pub read_injective : (r q : Result Table Fault) → read_of r ≡ read_of q → r ≡ q
read_injective r q e = told_injective r q (ap (λ (x : Read). x.told) e) (ap (λ (x : Read). x.table) e)

-- No second answer fits `read`.
pub read_unique : (s : List ℕ) (r q : Result Table Fault) → read_of r ≡ reading s → read_of q ≡ reading s → r ≡ q
read_unique s r q e f = read_injective r q (e ∙ sym f)
