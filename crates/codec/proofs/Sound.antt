-- Accepted bytes are those of the table that was read, and that table is legal: each part of the reader, where it did not
-- refuse, stood on the bytes of what it read and found it in range.
use Prim.Native.Nat.{ℕ, zero, suc, ◌≤◌, ◌<◌}
use mathlib.Core.Path.{◌≡◌, refl, ap, ◌∙◌}
use mathlib.Core.Bool.{Bool, true, false}
use mathlib.Core.List.{List, [], ◌∷◌, ◌++◌, append-nil}
use mathlib.Core.Logic.{⊎_elim}
use native.Mathlib.Omega.{arith}
use native.Mathlib.Nat.{eq-or-lt_of_le}
use lib.ListN.{length, get_or, set, take, drop, length-set, drop_of_length-le}
use lib.Seq.{get_or-set_same, get_or-set_other, take-suc-set}
use lib.Dec.{eqb, ltb}
use borrow.Author.Tests.{eqb-true, eqb-false, ltb-true, ltb-false, not-true}
use Rattle.basis.specs.Tests.{pick}
use Rattle.basis.specs.Search.{Sought, nothing, found, listed}
use Rattle.basis.proofs.TestLaws.{by_test, every-all}
use Rattle.basis.proofs.ListLaws.{all_alike}
use Rattle.flow.specs.Flow.{row_ok}
use Rattle.flow.specs.Gap.{Triple, first_gap}
use Rattle.table.specs.Threads.{field_count, fields_in, none, fields, thread_of}
use Rattle.table.specs.Ranges.{within, versions, domain_counts, thread_counts, field_range}
use Rattle.table.specs.Legal.{field_ok, thread_ok, taken, Legal}
use Rattle.table.specs.declared.Range.{Range}
use Rattle.table.specs.declared.Table.{Table}
use Rattle.table.specs.declared.Thread.{Thread}
use Rattle.table.proofs.RangeLaws.{field_range_by, fields_back, fields_in-most, fields_in_least, unwritten_ok}
use Rattle.table.proofs.LegalLaws.{Parts, legal_of_parts}
use Rattle.numeral.specs.Number.{Number, Value, Refused, number_at, encode, encode_all}
use Rattle.reader.specs.Reader.{Cursor, RowsRead, FieldsRead, ThreadsRead, good, took, number_from, judged, ranged, row_from, rows_from, free, field_from, fields_from, threads_from, Read, accepted, refused_at, whole_or_gap, ended, after_rows, version_from, domains_from, count_from, reading}
use Rattle.writer.specs.Format.{row_numbers, written_fields, thread_numbers, numbers, bytes}
use Rattle.numeral.specs.NumberRules.{Bytes}
use Rattle.numeral.proofs.NumberLaws.{number_why, encode_all-append, encode_all-last}
use Rattle.numeral.proofs.Runs.{Reads, number_reads, reads_nil, reads_join}
use Rattle.reader.proofs.ReaderLaws.{ranged_le, length_fields, field_unread}
use Rattle.codec.proofs.FormatLaws.{rows_more, threads_more, rows-set, threads_set, taken-same}

-- What was read where a part of the reader did not refuse.
pub record NumberRead (s : List ℕ) (c r : Cursor) : Type 0 where
  pub was : c.refusal ≡ 0
  pub reads : Reads s c.next r.next (encode r.value)

pub record RowsSound (s : List ℕ) (d : ℕ) (c : Cursor) (i : ℕ) (r : RowsRead) : Type 0 where
  pub was : c.refusal ≡ 0
  pub reads : Reads s c.next r.cursor.next (encode_all (row_numbers r.rows i))
  pub row : (j : ℕ) → j < i → row_ok d j (get_or r.rows j 0) ≡ true
  pub long : length r.rows ≡ 16
  pub unused : (j : ℕ) → i ≤ j → get_or r.rows j 0 ≡ 0

pub record FieldsSound (s : List ℕ) (x d : ℕ) (ths : List Thread) (i : ℕ) (c : Cursor) (k : ℕ) (r : FieldsRead) : Type 0 where
  pub was : c.refusal ≡ 0
  pub reads : Reads s c.next r.cursor.next (encode_all (take k r.fields))
  pub ok : (j : ℕ) → j < k → field_ok x d r.fields j ≡ true
  pub unclaimed : (j : ℕ) → j < k → free ths i j (get_or r.fields j 0) ≡ true

pub record ThreadsSound (s : List ℕ) (x d : ℕ) (c : Cursor) (i : ℕ) (r : ThreadsRead) : Type 0 where
  pub was : c.refusal ≡ 0
  pub reads : Reads s c.next r.cursor.next (encode_all (thread_numbers x r.threads i))
  pub ok : (j : ℕ) → j < i → thread_ok x d (get_or r.threads j none) ≡ true
  pub untaken : (j : ℕ) → j < i → taken r.threads j (get_or r.threads j none).priority ≡ false
  pub long : length r.threads ≡ 32
  pub unused : (j : ℕ) → i ≤ j → get_or r.threads j none ≡ none

-- A refusal is no acceptance.
not-accepted : {A : Type 0} {w p : ℕ} {t : Table} → refused_at w p ≡ accepted t → A
not-accepted {w = w} {p = p} e =
    let f : p ∷ [] ≡ [] = ap (λ (r : Read). r.told.values) e in
    let z : ◌≡◌ {A = ℕ} 0 1 = cc in absurd (omega arith)

whole_back : (p : ℕ) (g : Sought Triple) (r : Read) (t : Table) → whole_or_gap p g r ≡ accepted t → (g ≡ nothing) × (r ≡ accepted t)
whole_back p nothing r t e = (refl, e)
whole_back p (found g) r t e =
    let f : ◌≡◌ {A = ℕ} 7 0 = ap (λ (r : Read). r.told.number) e in absurd (omega arith)

-- A store at a place leaves the others, and the unused ones behind it unused.
stored : {A : Type 0} (l : List A) (i n j : ℕ) (v a : A) → length l ≡ n → i < n → (P : ℕ → A → Type 0)
    → ((j : ℕ) → j < i → P j (get_or l j a)) → P i v → j < suc i → P j (get_or (set l i v) j a)
stored l i n j v a e l' P before now h =
    ⊎_elim
    (λ (q : j ≡ i). rw (q, get_or-set_same l i v a (rw e l')) now)
    (λ (q : j < i). rw (get_or-set_other l i j v a (λ z. omega arith)) (before j q))
    (eq-or-lt_of_le (omega arith))

behind : {A : Type 0} (l : List A) (i j : ℕ) (v a : A) → ((j : ℕ) → i ≤ j → get_or l j a ≡ a) → suc i ≤ j → get_or (set l i v) j a ≡ a
behind l i j v a rest h = get_or-set_other l i j v a (λ z. omega arith) ∙ rest j (omega arith)

module _ (s : List ℕ) (hs : Bytes s) where
  took_sound : (p : ℕ) (n : Number) → number_at s p ≡ n → (took p n).refusal ≡ 0 → Reads s p (took p n).next (encode (took p n).value)
  unfolding number_at
  took_sound p (Value v q) e h = (number_reads s p v q hs e).1
  took_sound p (Refused x) e h = let l : 0 < x = rw e at (number_why p (drop p s)) in absurd (omega arith)

  number_sound : (c : Cursor) → (number_from s c).refusal ≡ 0 → NumberRead s c (number_from s c)
  unfolding number_from pick
  number_sound c h =
      by_test (eqb c.refusal 0)
      (λ e. record { was = eqb-true c.refusal 0 e; reads = rw e (took_sound c.next (number_at s c.next) refl (rw e at h)) })
      (λ e. absurd (eqb-false c.refusal 0 e (rw e at h)))

  judged_sound : (c : Cursor) (ok : Bool) (why : ℕ) → 0 < why → (judged c ok why).refusal ≡ 0 →
      (c.refusal ≡ 0) × (ok ≡ true) × (judged c ok why ≡ c)
  unfolding judged pick
  judged_sound c ok why w h =
      by_test (eqb c.refusal 0)
      (λ e. by_test ok (λ f. (eqb-true c.refusal 0 e, f, rw (e, f)))
      (λ f. let z : why ≡ 0 = rw (e, f) at h in absurd (omega arith)))
      (λ e. absurd (eqb-false c.refusal 0 e (rw e at h)))

  -- a number that was read and then passed
  judged-number : (c : Cursor) (ok : ℕ → Bool) (why : ℕ) → 0 < why → (judged (number_from s c) (ok (number_from s c).value) why).refusal ≡ 0 →
      (NumberRead s c (judged (number_from s c) (ok (number_from s c).value) why)) × (ok (judged (number_from s c) (ok (number_from s c).value) why).value ≡ true)
  judged-number c ok why w h =
      let j = judged_sound (number_from s c) (ok (number_from s c).value) why w h in
      rw j.2 (number_sound c j.0, j.1)

  ranged_sound : (c : Cursor) (r : Range) (why : ℕ) → 0 < why → (ranged s c r why).refusal ≡ 0 →
      (NumberRead s c (ranged s c r why)) × (within r (ranged s c r why).value ≡ true)
  unfolding ranged
  ranged_sound c r why w h = judged-number c (within r) why w h

  row_sound : (d i : ℕ) (c : Cursor) → (row_from s d i c).refusal ≡ 0 →
      (NumberRead s c (row_from s d i c)) × (row_ok d i (row_from s d i c).value ≡ true)
  unfolding row_from
  row_sound d i c h = judged-number c (row_ok d i) 6 (omega arith) h

  field_sound : (x d : ℕ) (ths : List Thread) (i : ℕ) (vs : List ℕ) (k : ℕ) (c : Cursor) → (field_from s x d ths i vs k c).refusal ≡ 0 →
      (NumberRead s c (field_from s x d ths i vs k c)) × (within (field_range x d vs k) (field_from s x d ths i vs k c).value ≡ true)
      × (free ths i k (field_from s x d ths i vs k c).value ≡ true)
  unfolding field_from
  field_sound x d ths i vs k c h =
      let r : Cursor = ranged s c (field_range x d vs k) 8 in
      let j = judged_sound r (free ths i k r.value) 9 (omega arith) h in
      let q = ranged_sound c (field_range x d vs k) 8 (omega arith) j.0 in
      rw j.2 (q.0, q.1, j.1)

  pub rows_sound : (d : ℕ) (c : Cursor) (i : ℕ) → i ≤ 16 → (rows_from s d c i).cursor.refusal ≡ 0 → RowsSound s d c i (rows_from s d c i)
  unfolding rows_from row_numbers listed encode_all
  rows_sound d c zero l h = record {
    was = h;
    reads = reads_nil s c.next;
    row = λ j m. absurd (omega arith);
    long = refl;
    unused = λ j m. all_alike 16 j 0;
  }
  rows_sound d c (suc i) l h =
      let k = row_sound d i (rows_from s d c i).cursor h in
      let r : RowsSound s d c i (rows_from s d c i) = rows_sound d c i (omega arith) k.0.was in
      let v : ℕ = (row_from s d i (rows_from s d c i).cursor).value in
      let rows : List ℕ = (rows_from s d c i).rows in
      record {
        was = r.was;
        reads = rw (rows_more (set rows i v) i, rows-set rows i i v (omega arith), get_or-set_same rows i v 0 (rw r.long l)) (reads_join r.reads k.0.reads);
        row = λ j m. stored rows i 16 j v 0 r.long l (λ j v. row_ok d j v ≡ true) r.row k.1 m;
        long = length-set rows i v ∙ r.long;
        unused = λ j m. behind rows i j v 0 r.unused m;
      }

  pub fields_sound : (x d : ℕ) (ths : List Thread) (i : ℕ) (c : Cursor) (k : ℕ) → k ≤ field_count → (fields_from s x d ths i c k).cursor.refusal ≡ 0 →
      FieldsSound s x d ths i c k (fields_from s x d ths i c k)
  unfolding fields_from field_ok encode_all
  fields_sound x d ths i c zero l h = record {
    was = h;
    reads = reads_nil s c.next;
    ok = λ j m. absurd (omega arith);
    unclaimed = λ j m. absurd (omega arith);
  }
  fields_sound x d ths i c (suc k) l h =
      let vs : List ℕ = (fields_from s x d ths i c k).fields in
      let v : ℕ = (field_from s x d ths i vs k (fields_from s x d ths i c k).cursor).value in
      let f = field_sound x d ths i vs k (fields_from s x d ths i c k).cursor h in
      let r : FieldsSound s x d ths i c k (fields_from s x d ths i c k) = fields_sound x d ths i c k (omega arith) f.0.was in
      let long : length vs ≡ field_count = length_fields s x d ths i c k in
      let same : (j : ℕ) → j ≤ k → field_range x d (set vs k v) j ≡ field_range x d vs j
      = λ j m. field_range_by x d (set vs k v) vs j (λ n o. get_or-set_other vs k n v 0 (λ z. omega arith)) in
      record {
        was = r.was;
        reads = rw (take-suc-set vs k v (rw long l), encode_all-last (take k vs) v) (reads_join r.reads f.0.reads);
        ok = λ j m. rw (same j (omega arith)) (stored vs k field_count j v 0 long l (λ j v. within (field_range x d vs j) v ≡ true) r.ok f.1 m);
        unclaimed = λ j m. stored vs k field_count j v 0 long l (λ j v. free ths i j v ≡ true) r.unclaimed f.2 m;
      }

  -- the fields make a thread in range, whose priority is not taken; a field that does not stand in the bytes is 0
  pub thread_sound : (x d : ℕ) (ths : List Thread) (i : ℕ) (c : Cursor) → (fields_from s x d ths i c (fields_in x)).cursor.refusal ≡ 0 →
      (c.refusal ≡ 0) × (Reads s c.next (fields_from s x d ths i c (fields_in x)).cursor.next (encode_all (written_fields x (thread_of (fields_from s x d ths i c (fields_in x)).fields))))
      × (thread_ok x d (thread_of (fields_from s x d ths i c (fields_in x)).fields) ≡ true)
      × (taken ths i (thread_of (fields_from s x d ths i c (fields_in x)).fields).priority ≡ false)
  unfolding thread_ok free
  thread_sound x d ths i c h =
      let w : ℕ = fields_in x in
      let r : FieldsSound s x d ths i c w (fields_from s x d ths i c w) = fields_sound x d ths i c w (fields_in-most x) h in
      let vs : List ℕ = (fields_from s x d ths i c w).fields in
      let back : fields (thread_of vs) ≡ vs = fields_back vs (length_fields s x d ths i c w) in
      let ok : (j : ℕ) → j < field_count → field_ok x d vs j ≡ true
      = λ j m. by_test (ltb j w) (λ t. r.ok j (ltb-true j w t))
      (λ t. let l : w ≤ j = ltb-false j w t in unwritten_ok x d vs j l m (field_unread s x d ths i c j w l)) in
      (r.was, rw back r.reads, rw back (every-all (field_ok x d vs) field_count ok), not-true _ (r.unclaimed 1 (omega (arith, fields_in_least x))))

  pub threads_sound : (x d : ℕ) (c : Cursor) (i : ℕ) → i ≤ 32 → (threads_from s x d c i).cursor.refusal ≡ 0 → ThreadsSound s x d c i (threads_from s x d c i)
  unfolding threads_from thread_numbers encode_all
  threads_sound x d c zero l h = record {
    was = h;
    reads = reads_nil s c.next;
    ok = λ j m. absurd (omega arith);
    untaken = λ j m. absurd (omega arith);
    long = refl;
    unused = λ j m. all_alike 32 j none;
  }
  threads_sound x d c (suc i) l h =
      let ths : List Thread = (threads_from s x d c i).threads in
      let k = thread_sound x d ths i (threads_from s x d c i).cursor h in
      let r : ThreadsSound s x d c i (threads_from s x d c i) = threads_sound x d c i (omega arith) k.0 in
      let th : Thread = thread_of (fields_from s x d ths i (threads_from s x d c i).cursor (fields_in x)).fields in
      let other : (j n : ℕ) → j ≤ i → n < j → get_or (set ths i th) n none ≡ get_or ths n none = λ j n m o. get_or-set_other ths i n th none (λ z. omega arith) in
      let free-at : (j : ℕ) → Thread → Type 0 = λ j x. taken ths j x.priority ≡ false in
      record {
        was = r.was;
        reads = rw (threads_more x (set ths i th) i, threads_set x ths i i th (omega arith), get_or-set_same ths i th none (rw r.long l)) (reads_join r.reads k.1);
        ok = λ j m. stored ths i 32 j th none r.long l (λ j th. thread_ok x d th ≡ true) r.ok k.2 m;
        untaken = λ j m. taken-same (set ths i th) ths j _ (λ n o. other j n (omega arith) o) ∙ stored ths i 32 j th none r.long l free-at r.untaken k.3 m;
        long = length-set ths i th ∙ r.long;
        unused = λ j m. behind ths i j th none r.unused m;
      }

  ended_back : (x d n : ℕ) (rows : List ℕ) (r : ThreadsRead) (t : Table) → ended s x d n rows r ≡ accepted t →
      (r.cursor.refusal ≡ 0) × (length s ≤ r.cursor.next) × (record { version = x; domains = d; count = n; rows = rows; threads = r.threads } ≡ t)
  unfolding ended pick
  ended_back x d n rows r t h =
      by_test (eqb r.cursor.refusal 0)
      (λ e. by_test (ltb r.cursor.next (length s)) (λ f. not-accepted (rw (e, f) at h))
      (λ f. (eqb-true r.cursor.refusal 0 e, ltb-false r.cursor.next (length s) f, ap (λ (x : Read). x.table) (rw (e, f) at h))))
      (λ e. not-accepted (rw e at h))

  after_rows_back : (x d n : ℕ) (r : RowsRead) (t : Table) → after_rows s x d n r ≡ accepted t →
      (r.cursor.refusal ≡ 0) × (first_gap r.rows d ≡ nothing) × (ended s x d n r.rows (threads_from s x d r.cursor n) ≡ accepted t)
  unfolding after_rows pick
  after_rows_back x d n r t h =
      by_test (eqb r.cursor.refusal 0)
      (λ e. let g = whole_back r.cursor.start (first_gap r.rows d) (ended s x d n r.rows (threads_from s x d r.cursor n)) t (rw e at h) in
      (eqb-true r.cursor.refusal 0 e, g.0, g.1))
      (λ e. not-accepted (rw e at h))

  said : {t t' : Table} → t' ≡ t → s ≡ bytes t' → Parts t' → (s ≡ bytes t) × Legal t
  said {t} {t'} e f p = (f ∙ ap bytes e, legal_of_parts t (rw e at p))

  -- write after read
  pub sound : (t : Table) → reading s ≡ accepted t → (s ≡ bytes t) × Legal t
  unfolding reading version_from domains_from count_from bytes numbers encode_all
  sound t h =
      let x : ℕ = (version_from s).value in
      let d : ℕ = (domains_from s).value in
      let n : ℕ = (count_from s).value in
      let r : RowsRead = rows_from s d (count_from s) d in
      let a = after_rows_back x d n r t h in
      let b = ended_back x d n r.rows (threads_from s x d r.cursor n) t a.2 in
      let ro = rows_sound d (count_from s) d (ranged_le s (version_from s) domain_counts 5) a.0 in
      let f3 = ranged_sound (domains_from s) thread_counts 5 (omega arith) ro.was in
      let f2 = ranged_sound (version_from s) domain_counts 5 (omega arith) f3.0.was in
      let f1 = ranged_sound (good 0 0 0) versions 4 (omega arith) f2.0.was in
      let to = threads_sound x d r.cursor n (ranged_le s (domains_from s) thread_counts 5) b.0 in
      let rd = reads_join f1.0.reads (reads_join f2.0.reads (reads_join f3.0.reads (reads_join ro.reads to.reads))) in
      let all : s ≡ encode x ++ (encode d ++ (encode n ++ (encode_all (row_numbers r.rows d) ++ encode_all (thread_numbers x (threads_from s x d r.cursor n).threads n))))
      = rd.stands ∙ rw (drop_of_length-le s b.1) (append-nil _) in
      said b.2 (rw (encode_all-append (row_numbers r.rows d) (thread_numbers x (threads_from s x d r.cursor n).threads n)) all)
      (record {
        sized = record { rows = ro.long; threads = to.long };
        version = f1.1;
        domains = f2.1;
        count = f3.1;
        row = ro.row;
        rows_unused = ro.unused;
        whole = a.1;
        threads = to.ok;
        untaken = to.untaken;
        threads_unused = to.unused;
      })
