-- The bytes of a legal table are accepted and read to that table: each part of the reader, standing where the bytes of what
-- is in range stand, reads it and goes on behind it.
use Prim.Native.Nat.{ℕ, zero, suc, ◌+◌, ◌≤◌, ◌<◌}
use mathlib.Core.Path.{◌≡◌, refl, ap, ◌∙◌, subst}
use mathlib.Core.Bool.{true, false}
use mathlib.Core.List.{List, ◌++◌}
use native.Mathlib.Omega.{arith}
use lib.ListN.{length, get_or, take, replicate}
use lib.Dec.{eqb}
use borrow.Author.Tests.{le-ltb, eqb-true}
use Rattle.basis.specs.Tests.{pick}
use Rattle.basis.specs.Search.{nothing, listed}
use Rattle.basis.proofs.TestLaws.{by_test, every-at}
use Rattle.basis.proofs.ListLaws.{front, front-suc, front-all, front_getD, unused_by}
use Rattle.flow.specs.Flow.{row_ok}
use Rattle.flow.specs.Gap.{first_gap}
use Rattle.flow.proofs.FlowLaws.{row_small}
use Rattle.table.specs.Threads.{field_count, fields_in, none, fields, thread_of}
use Rattle.table.specs.Ranges.{within, versions, domain_counts, thread_counts, field_range}
use Rattle.table.specs.Legal.{field_ok, thread_ok, taken, Legal, LegalThread}
use Rattle.table.specs.declared.Range.{Range}
use Rattle.table.specs.declared.Thread.{Thread}
use Rattle.table.specs.declared.Table.{Table}
use Rattle.table.proofs.RangeLaws.{within_high, field_range_by, below_small, thread_of_test, fields_in-most, unwritten_zero}
use Rattle.table.proofs.LegalLaws.{Parts, parts_of_legal}
use Rattle.reader.specs.Reader.{Cursor, RowsRead, ThreadsRead, good, number_from, judged, ranged, row_from, rows_from, free, field_from, fields_from, threads_from, accepted, ended, after_rows, version_from, domains_from, count_from, reading}
use Rattle.numeral.specs.Number.{encode, encode_all}
use Rattle.writer.specs.Format.{row_numbers, written_fields, thread_numbers, numbers, bytes}
use Rattle.numeral.proofs.NumberLaws.{encode_all-append, encode_all-take}
use Rattle.numeral.proofs.Runs.{Reads, reads_number, reads_split, reads_whole}
use Rattle.codec.proofs.FormatLaws.{rows_more, threads_more, taken-same}

-- A cursor with no refusal, at a place.
record Stood (c : Cursor) (q : ℕ) : Type 0 where
  start : ℕ
  value : ℕ
  is : c ≡ good start q value

-- A field of a thread in range is a number of the format.
field_small : (x d : ℕ) (th : Thread) → d ≤ 16 → thread_ok x d th ≡ true → (k : ℕ) → k < field_count → get_or (fields th) k 0 < 65536
unfolding thread_ok field_ok
field_small x d th h ok k l =
    let g : LegalThread x d th = thread_of_test x d th ok in
    let b = below_small x d (fields th) k (omega arith) (omega (arith, g.period_high)) (omega (arith, g.budget_high, g.period_high)) in
    omega (arith, b, within_high (field_range x d (fields th) k) _ (every-at (field_ok x d (fields th)) field_count k ok l))

-- Only the priority can be taken, and it is not.
unclaimed : (ths : List Thread) (i : ℕ) (th : Thread) → taken ths i th.priority ≡ false → (k : ℕ) → free ths i k (get_or (fields th) k 0) ≡ true
unfolding free
unclaimed ths i th t k = by_test (eqb k 1)
    (λ e. let q : k ≡ 1 = eqb-true k 1 e in rw (q, t))
    (λ e. rw e)

module _ (s : List ℕ) where
  number_complete : (c : Cursor) (a p w v q : ℕ) → c ≡ good a p w → v < 65536 → Reads s p q (encode v) → number_from s c ≡ good p q v
  unfolding number_from pick
  number_complete c a p w v q e h r = rw (e, reads_number s p v q h r)

  ranged_complete : (c : Cursor) (r : Range) (why a p w v q : ℕ) → c ≡ good a p w → v < 65536 → Reads s p q (encode v) → within r v ≡ true →
      ranged s c r why ≡ good p q v
  unfolding ranged judged pick
  ranged_complete c r why a p w v q e h rd t = rw (number_complete c a p w v q e h rd, t)

  row_complete : (d i : ℕ) (c : Cursor) (a p w v q : ℕ) → c ≡ good a p w → v < 65536 → Reads s p q (encode v) → row_ok d i v ≡ true →
      row_from s d i c ≡ good p q v
  unfolding row_from judged pick
  row_complete d i c a p w v q e h rd t = rw (number_complete c a p w v q e h rd, t)

  field_complete : (x d : ℕ) (ths : List Thread) (i : ℕ) (vs : List ℕ) (k : ℕ) (c : Cursor) (a p w v q : ℕ) → c ≡ good a p w → v < 65536 →
      Reads s p q (encode v) → within (field_range x d vs k) v ≡ true → free ths i k v ≡ true → field_from s x d ths i vs k c ≡ good p q v
  unfolding field_from judged pick
  field_complete x d ths i vs k c a p w v q e h rd t f = rw (ranged_complete c (field_range x d vs k) 8 a p w v q e h rd t, f)

  rows_complete : (d : ℕ) (c : Cursor) (rows : List ℕ) → d ≤ 16 → length rows ≡ 16 → (i p q : ℕ) → i ≤ 16 →
      ((j : ℕ) → j < i → row_ok d j (get_or rows j 0) ≡ true) → Stood c p → Reads s p q (encode_all (row_numbers rows i)) →
      (Stood (rows_from s d c i).cursor q) × ((rows_from s d c i).rows ≡ front rows (replicate 16 0) i)
  unfolding rows_from row_numbers listed encode_all
  rows_complete d c rows hd hl zero p q l ok k r =
      let e : q ≡ p = omega (arith, r.ends) in
      (rw e k, refl)
  rows_complete d c rows hd hl (suc i) p q l ok k r =
      let r' : Reads s p q (encode_all (row_numbers rows i) ++ encode (get_or rows i 0)) = rw (rows_more rows i) at r in
      let sp = reads_split (encode_all (row_numbers rows i)) (encode (get_or rows i 0)) r' in
      let ih = rows_complete d c rows hd hl i p (p + length (encode_all (row_numbers rows i))) (omega arith) (λ j o. ok j (omega arith)) k sp.0 in
      let t = ok i (omega arith) in
      let e : row_from s d i (rows_from s d c i).cursor ≡ good (p + length (encode_all (row_numbers rows i))) q (get_or rows i 0)
      = row_complete d i (rows_from s d c i).cursor _ _ _ (get_or rows i 0) q ih.0.is (row_small d i (get_or rows i 0) hd t) sp.1 t in
      (record { start = _; value = _; is = e }, rw (e, ih.1) (front-suc rows (replicate 16 0) i 0 (omega arith) (omega arith)))

  fields_complete : (x d : ℕ) (ths : List Thread) (i : ℕ) (c : Cursor) (th : Thread) → d ≤ 16 → thread_ok x d th ≡ true → taken ths i th.priority ≡ false →
      (k p q : ℕ) → k ≤ field_count → Stood c p → Reads s p q (encode_all (take k (fields th))) →
      (Stood (fields_from s x d ths i c k).cursor q) × ((fields_from s x d ths i c k).fields ≡ front (fields th) (replicate field_count 0) k)
  unfolding fields_from encode_all thread_ok field_ok
  fields_complete x d ths i c th hd ok t zero p q l k r =
      let e : q ≡ p = omega (arith, r.ends) in
      (rw e k, refl)
  fields_complete x d ths i c th hd ok t (suc k) p q l st r =
      let vs : List ℕ = fields th in
      let v : ℕ = get_or vs k 0 in
      let r' : Reads s p q (encode_all (take k vs) ++ encode v) = subst (λ (xs : List ℕ). Reads s p q xs) (encode_all-take vs k l) r in
      let sp = reads_split (encode_all (take k vs)) (encode v) r' in
      let ih = fields_complete x d ths i c th hd ok t k p (p + length (encode_all (take k vs))) (omega arith) st sp.0 in
      let same : field_range x d (fields_from s x d ths i c k).fields k ≡ field_range x d vs k
      = rw ih.1 (field_range_by x d (front vs (replicate field_count 0) k) vs k (λ j o. front_getD vs (replicate field_count 0) k j 0 o (omega arith))) in
      let e : field_from s x d ths i (fields_from s x d ths i c k).fields k (fields_from s x d ths i c k).cursor ≡ good (p + length (encode_all (take k vs))) q v
      = field_complete x d ths i (fields_from s x d ths i c k).fields k (fields_from s x d ths i c k).cursor _ _ _ v q ih.0.is
      (field_small x d th hd ok k l) sp.1 (rw same (every-at (field_ok x d vs) field_count k ok l)) (unclaimed ths i th t k) in
      (record { start = _; value = _; is = e }, rw (e, ih.1) (front-suc vs (replicate field_count 0) k 0 (omega arith) (omega arith)))

  thread_complete : (x d : ℕ) (ths : List Thread) (i : ℕ) (c : Cursor) (th : Thread) → d ≤ 16 → thread_ok x d th ≡ true → taken ths i th.priority ≡ false →
      (p q : ℕ) → Stood c p → Reads s p q (encode_all (written_fields x th)) →
      (Stood (fields_from s x d ths i c (fields_in x)).cursor q) × (thread_of (fields_from s x d ths i c (fields_in x)).fields ≡ th)
  thread_complete x d ths i c th hd ok t p q st r =
      let w : ℕ = fields_in x in
      let e = fields_complete x d ths i c th hd ok t w p q (fields_in-most x) st r in
      let all : front (fields th) (replicate field_count 0) w ≡ fields th
      = front-all (fields th) w field_count 0 (unused_by (fields th) w field_count 0 refl (λ j h k. unwritten_zero x d th ok j h k)) in
      (e.0, ap thread_of (e.1 ∙ all))

  threads_complete : (x d : ℕ) (c : Cursor) (ths : List Thread) → d ≤ 16 → length ths ≡ 32 → (i p q : ℕ) → i ≤ 32 →
      ((j : ℕ) → j < i → thread_ok x d (get_or ths j none) ≡ true) → ((j : ℕ) → j < i → taken ths j (get_or ths j none).priority ≡ false) →
      Stood c p → Reads s p q (encode_all (thread_numbers x ths i)) →
      (Stood (threads_from s x d c i).cursor q) × ((threads_from s x d c i).threads ≡ front ths (replicate 32 none) i)
  unfolding threads_from thread_numbers encode_all
  threads_complete x d c ths hd hl zero p q l ok free-at k r =
      let e : q ≡ p = omega (arith, r.ends) in
      (rw e k, refl)
  threads_complete x d c ths hd hl (suc i) p q l ok free-at k r =
      let th : Thread = get_or ths i none in
      let r' : Reads s p q (encode_all (thread_numbers x ths i) ++ encode_all (written_fields x th)) = rw (threads_more x ths i) at r in
      let sp = reads_split (encode_all (thread_numbers x ths i)) (encode_all (written_fields x th)) r' in
      let ih = threads_complete x d c ths hd hl i p (p + length (encode_all (thread_numbers x ths i))) (omega arith) (λ j o. ok j (omega arith)) (λ j o. free-at j (omega arith)) k sp.0 in
      let t : taken (threads_from s x d c i).threads i th.priority ≡ false
      = rw ih.1 (taken-same (front ths (replicate 32 none) i) ths i th.priority (λ j o. front_getD ths _ i j none o (omega arith)) ∙ free-at i (omega arith)) in
      let e = thread_complete x d (threads_from s x d c i).threads i (threads_from s x d c i).cursor th hd (ok i (omega arith)) t _ q ih.0 sp.1 in
      (e.0, rw (e.1, ih.1) (front-suc ths (replicate 32 none) i none (omega arith) (omega arith)))

  ended_complete : (x d n q : ℕ) (rows : List ℕ) (r : ThreadsRead) → Stood r.cursor q → length s ≤ q →
      ended s x d n rows r ≡ accepted (record { version = x; domains = d; count = n; rows = rows; threads = r.threads })
  unfolding ended pick
  ended_complete x d n q rows r k l = rw (k.is, le-ltb q (length s) l)

  after_rows_complete : (x d n q : ℕ) (r : RowsRead) → Stood r.cursor q → first_gap r.rows d ≡ nothing →
      after_rows s x d n r ≡ ended s x d n r.rows (threads_from s x d r.cursor n)
  unfolding after_rows pick
  after_rows_complete x d n q r k e = rw (e, ap (λ (x : Cursor). eqb x.refusal 0) k.is)

  reading-of : (x d n : ℕ) → (version_from s).value ≡ x → (domains_from s).value ≡ d → (count_from s).value ≡ n
      → reading s ≡ after_rows s x d n (rows_from s d (count_from s) d)
  unfolding reading
  reading-of x d n g e f = rw (g, e, f)

  -- read after write
  pub complete : (t : Table) → Legal t → s ≡ bytes t → reading s ≡ accepted t
  unfolding version_from domains_from count_from bytes numbers encode_all
  complete t lg e =
      let g : Parts t = parts_of_legal t lg in
      let rows : List ℕ = row_numbers t.rows t.domains in
      let ths : List ℕ = thread_numbers t.version t.threads t.count in
      let f : s ≡ encode t.version ++ (encode t.domains ++ (encode t.count ++ (encode_all rows ++ encode_all ths))) = rw (encode_all-append rows ths) at e in
      let r : Reads s 0 (length s) (encode t.version ++ (encode t.domains ++ (encode t.count ++ (encode_all rows ++ encode_all ths)))) = reads_whole f in
      let r1 = reads_split (encode t.version) _ r in
      let r2 = reads_split (encode t.domains) _ r1.1 in
      let r3 = reads_split (encode t.count) _ r2.1 in
      let r4 = reads_split (encode_all rows) _ r3.1 in
      let e1 = ranged_complete (good 0 0 0) versions 4 _ _ _ t.version _ refl (omega (arith, lg.version_high)) r1.0 g.version in
      let e2 = ranged_complete (version_from s) domain_counts 5 _ _ _ t.domains _ e1 (omega (arith, lg.domains_high)) r2.0 g.domains in
      let e3 = ranged_complete (domains_from s) thread_counts 5 _ _ _ t.count _ e2 (omega (arith, lg.count_high)) r3.0 g.count in
      let ro = rows_complete t.domains (count_from s) t.rows lg.domains_high g.sized.rows t.domains _ _ lg.domains_high g.row
      (record { start = _; value = _; is = e3 }) r4.0 in
      let c : Cursor = (rows_from s t.domains (count_from s) t.domains).cursor in
      let rs : (rows_from s t.domains (count_from s) t.domains).rows ≡ t.rows
      = ro.1 ∙ front-all t.rows t.domains 16 0 (unused_by t.rows t.domains 16 0 g.sized.rows (λ i h k. g.rows_unused i h)) in
      let to = threads_complete t.version t.domains c t.threads lg.domains_high g.sized.threads t.count _ _
      lg.count_high g.threads g.untaken ro.0 r4.1 in
      let ts : (threads_from s t.version t.domains c t.count).threads ≡ t.threads
      = to.1 ∙ front-all t.threads t.count 32 none (unused_by t.threads t.count 32 none g.sized.threads (λ i h k. g.threads_unused i h)) in
      let v1 : (version_from s).value ≡ t.version = ap (λ (x : Cursor). x.value) e1 in
      let v2 : (domains_from s).value ≡ t.domains = ap (λ (x : Cursor). x.value) e2 in
      let v3 : (count_from s).value ≡ t.count = ap (λ (x : Cursor). x.value) e3 in
      let a = after_rows_complete t.version t.domains t.count _ (rows_from s t.domains (count_from s) t.domains) ro.0 (rw rs g.whole) in
      let b = ended_complete t.version t.domains t.count _ t.rows (threads_from s t.version t.domains c t.count) to.0 (omega arith) in
      reading-of t.version t.domains t.count v1 v2 v3 ∙ rw (a, rs, b, ts)
