-- What the reader answers is what the rules say: by induction over the rows, the threads and their fields it has read what passes, or has stopped.
use Prim.Native.Nat.{ℕ, zero, suc, ◌+◌, ◌-◌, ◌*◌, ◌≤◌, ◌<◌}
use mathlib.Core.Path.{◌≡◌, refl, ap, sym, ◌∙◌}
use mathlib.Core.Bool.{true}
use mathlib.Core.List.{List, [], ◌∷◌, ◌++◌, append_assoc, append-nil}
use mathlib.Core.Logic.{◌⊎◌, inl, inr, ⊎_elim}
use native.Mathlib.Nat.{eq-or-lt_of_le, mul-suc}
use native.Mathlib.Omega.{arith}
use lib.ListN.{length, set, replicate, length-append, length-set, get_or-append}
use lib.Seq.{get_or-set_same, get_or-set_other, get_or-append-add}
use borrow.Author.Tests.{eq-eqb}
use Rattle.basis.specs.Tests.{pick}
use Rattle.basis.specs.Search.{Sought, nothing, found}
use Rattle.basis.specs.Told.{answered}
use Rattle.basis.proofs.ListLaws.{padded, fill_next}
use Rattle.flow.specs.Flow.{row_ok}
use Rattle.flow.specs.Gap.{Triple, first_gap, gap_told}
use Rattle.flow.proofs.GapLaws.{gap_same}
use Rattle.table.specs.Threads.{field_count, fields_in, thread_of, none}
use Rattle.table.specs.Ranges.{within, versions, domain_counts, thread_counts, field_range}
use Rattle.table.specs.declared.Range.{Range}
use Rattle.table.specs.declared.Thread.{Thread}
use Rattle.table.proofs.RangeLaws.{within_low, within_high, fields_in-most, fields_in_least}
use Rattle.reader.specs.Reader.{Cursor, RowsRead, FieldsRead, ThreadsRead, ranged, row_from, put_row, rows_from, free, field_from, put_field, fields_from, put_thread, threads_from, ended, whole_or_gap, after_rows, version_from, domains_from, count_from, reading}
use Rattle.numeral.specs.Number.{encode_all}
use Rattle.codec.specs.Judging.{fault, row_gap, wanted, Judgment}
use Rattle.numeral.specs.NumberRules.{Bytes}
use Rattle.codec.proofs.BeforeLaws.{before_nil, before_counts}
use Rattle.codec.proofs.JudgedSteps.{Good, Stopped, Tested, gap-objection, stopped-judged, stopped_row, stopped-ranged, stopped-rows, stopped-field, stopped-fields, objected_by, test_step, one-step, ended-judged, stopped-ended, stopped-after, passed}
use Rattle.codec.proofs.JudgedRules.{version_fault, row_fault, no_row_gap, last-row_gap, wanted-is, wanted_no, place_under, Agree, field_fault-is, thread-fault}

-- The rows so far: i were read, and stand in the array.
record RowsGood (s : List ℕ) (x d n i : ℕ) (r : RowsRead) : Type 0 where
  read : List ℕ
  good : Good s (x ∷ d ∷ n ∷ read) r.cursor
  long : length read ≡ i
  filled : r.rows ≡ read ++ replicate (16 - i) 0

-- The fields of a thread so far: k were read after the fields fs, and stand in the array.
record FieldsGood (s : List ℕ) (x d n : ℕ) (rs fs : List ℕ) (k : ℕ) (f : FieldsRead) : Type 0 where
  read : List ℕ
  good : Good s (x ∷ d ∷ n ∷ (rs ++ (fs ++ read))) f.cursor
  long : length read ≡ k
  filled : f.fields ≡ read ++ replicate (field_count - k) 0

-- The threads so far: i were read, and their priorities stand in the array.
record ThreadsGood (s : List ℕ) (x d n : ℕ) (rs : List ℕ) (i : ℕ) (t : ThreadsRead) : Type 0 where
  read : List ℕ
  good : Good s (x ∷ d ∷ n ∷ (rs ++ read)) t.cursor
  agree : Agree x t.threads i read
  places : length t.threads ≡ 32

module _ (s : List ℕ) (hs : Bytes s) where
  module _ (x d n : ℕ) (hd : d ≤ 16) where
    -- One more row: it is read and tested, and stored.
    row_step : (i : ℕ) (r : RowsRead) → i < d → (b : RowsGood s x d n i r)
        → (Tested s (x ∷ d ∷ n ∷ b.read) (λ v. 0) (row_from s d i r.cursor)) ⊎ (Stopped s (row_from s d i r.cursor))
    unfolding row_from
    row_step i r h b =
        one-step s (row_ok d i) (λ v. 0) 6 (omega arith)
        (λ v. rw (row_fault x d n b.read v (rw b.long h), b.long))
        b.good (wanted-is x d n b.read (rw b.long (omega arith)))

    row_filled : (i : ℕ) (r : RowsRead) (v : ℕ) → i < d → (b : RowsGood s x d n i r)
        → set r.rows i v ≡ (b.read ++ (v ∷ [])) ++ replicate (16 - suc i) 0
    row_filled i r v h b = rw b.filled (fill_next b.read i 16 v 0 b.long (omega arith))

    row_next : (i : ℕ) (r : RowsRead) (e : Cursor) → suc i < d → (b : RowsGood s x d n i r) → Tested s (x ∷ d ∷ n ∷ b.read) (λ v. 0) e
        → RowsGood s x d n (suc i) (put_row i r.rows e)
    row_next i r e h b t = record {
      read = b.read ++ (e.value ∷ []);
      good = passed s hs t (no_row_gap x d n b.read e.value (λ z. omega (arith, b.long)));
      long = rw (length-append b.read (e.value ∷ []), b.long) (omega arith);
      filled = row_filled i r e.value (omega arith) b;
    }

    -- All rows but the last, which the gap test follows.
    rows-good : (c : Cursor) → Good s (x ∷ d ∷ n ∷ []) c → (i : ℕ) → i < d
        → (RowsGood s x d n i (rows_from s d c i)) ⊎ (Stopped s (rows_from s d c i).cursor)
    unfolding rows_from
    rows-good c g zero h = inl (record { read = []; good = g; long = refl; filled = refl })
    rows-good c g (suc i) h =
        ⊎_elim (λ b. ⊎_elim (λ t. inl (row_next i _ _ h b t)) inr (row_step i _ (omega arith) b))
        (λ t. inr (stopped_row s d i _ t))
        (rows-good c g i (omega arith))

  module _ (x d n : ℕ) (rs : List ℕ) (hr : length rs ≡ d) where
    module _ (ths : List Thread) (i : ℕ) (fs : List ℕ) (hi : i < n) (a : Agree x ths i fs) where
      fields-length : (gs : List ℕ) (k : ℕ) → length gs ≡ k → length (rs ++ (fs ++ gs)) ≡ d + (fields_in x * i + k)
      fields-length gs k e = length-append rs (fs ++ gs) ∙ rw (length-append fs gs, hr, a.long, e)

      -- One more field of thread i: its range, then whether it is taken.
      field_step : (k : ℕ) (f : FieldsRead) → k < fields_in x → (b : FieldsGood s x d n rs fs k f)
          → (Tested s (x ∷ d ∷ n ∷ (rs ++ (fs ++ b.read))) (λ v. 0) (field_from s x d ths i f.fields k f.cursor))
          ⊎ (Stopped s (field_from s x d ths i f.fields k f.cursor))
      unfolding field_from ranged
      field_step k f h b =
          ⊎_elim (λ t. test_step s (free ths i k) 9 (omega arith) t) (λ t. inr (stopped-judged s _ _ 9 t))
          (one-step s (within (field_range x d f.fields k)) (λ v. pick (free ths i k v) 0 9) 8 (omega arith)
          (λ v. thread-fault x d n rs (fs ++ b.read) v hr ∙ field_fault-is x d ths i k fs b.read f.fields v a b.long h b.filled)
          b.good (wanted-is x d n (rs ++ (fs ++ b.read)) (omega (arith, fields-length b.read k b.long, place_under x i n k hi h))))

      field_next : (k : ℕ) (f : FieldsRead) (e : Cursor) → k < fields_in x → (b : FieldsGood s x d n rs fs k f)
          → Tested s (x ∷ d ∷ n ∷ (rs ++ (fs ++ b.read))) (λ v. 0) e → FieldsGood s x d n rs fs (suc k) (put_field k f.fields e)
      field_next k f e h b t = record {
        read = b.read ++ (e.value ∷ []);
        good = rw (← append_assoc fs b.read (e.value ∷ []), ← append_assoc rs (fs ++ b.read) (e.value ∷ []))
            (passed s hs t (no_row_gap x d n (rs ++ (fs ++ b.read)) e.value (λ z. omega (arith, fields-length b.read k b.long))));
        long = rw (length-append b.read (e.value ∷ []), b.long) (omega arith);
        filled = rw b.filled (fill_next b.read k field_count e.value 0 b.long (omega (arith, fields_in-most x)));
      }

      fields-good : (c : Cursor) → Good s (x ∷ d ∷ n ∷ (rs ++ fs)) c → (k : ℕ) → k ≤ fields_in x
          → (FieldsGood s x d n rs fs k (fields_from s x d ths i c k)) ⊎ (Stopped s (fields_from s x d ths i c k).cursor)
      unfolding fields_from
      fields-good c g zero h = inl (record { read = []; good = rw (append-nil fs) g; long = refl; filled = refl })
      fields-good c g (suc k) h =
          ⊎_elim (λ b. ⊎_elim (λ t. inl (field_next k _ _ h b t)) inr (field_step k _ h b))
          (λ t. inr (stopped-field s x d ths i _ k _ t))
          (fields-good c g k (omega arith))

    -- One more thread.
    thread-next : (i : ℕ) (t : ThreadsRead) (f : FieldsRead) → i < 32 → (b : ThreadsGood s x d n rs i t) → FieldsGood s x d n rs b.read (fields_in x) f
        → ThreadsGood s x d n rs (suc i) (put_thread i t.threads f)
    thread-next i t f h b u = record {
      read = b.read ++ u.read;
      good = u.good;
      agree = record {
        long = rw (length-append b.read u.read, b.agree.long, u.long) (sym (mul-suc (fields_in x) i));
        priorities = λ j l. ⊎_elim
            (λ (q : j ≡ i). rw (q, get_or-set_same t.threads i (thread_of f.fields) none (rw b.places h), u.filled, padded u.read (field_count - fields_in x) 1 0)
            (sym (rw b.agree.long at (get_or-append-add b.read u.read 1 0))))
            (λ (q : j < i). rw (
              get_or-set_other t.threads i j (thread_of f.fields) none (λ z. omega arith),
              get_or-append b.read u.read 0 (fields_in x * j + 1)
                  (omega (arith, b.agree.long, place_under x j i 1 q (omega (arith, fields_in_least x)))),
            ) (b.agree.priorities j q))
            (eq-or-lt_of_le (omega arith));
      };
      places = length-set t.threads i (thread_of f.fields) ∙ b.places;
    }

    module _ (c : Cursor) (g : Good s (x ∷ d ∷ n ∷ rs) c) (hn : n ≤ 32) where
      threads_good : (i : ℕ) → i ≤ n → (ThreadsGood s x d n rs i (threads_from s x d c i)) ⊎ (Stopped s (threads_from s x d c i).cursor)
      unfolding threads_from
      threads_good zero h = inl (record {
        read = [];
        good = rw (append-nil rs) g;
        agree = record { long = omega arith; priorities = λ j l. absurd (omega arith) };
        places = refl;
      })
      threads_good (suc i) h =
          ⊎_elim (λ b. ⊎_elim (λ u. inl (thread-next i _ _ (omega arith) b u)) inr (fields-good _ i b.read h b.agree _ b.good (fields_in x) (omega arith)))
          (λ t. inr (stopped-fields s x d _ i _ (fields_in x) t))
          (threads_good i (omega arith))

      threads_judged : (rows : List ℕ) → Judgment s (ended s x d n rows (threads_from s x d c n)).told
      threads_judged rows =
          ⊎_elim
          (λ b. ended-judged s _ x d n rows _
          (wanted_no x d n (rs ++ b.read) (omega (arith, length-append rs b.read, b.agree.long))) b.good)
          (λ t. stopped-ended s x d n rows _ t)
          (threads_good n (omega arith))

  -- After the last row the first gap is objected to it, or the threads follow.
  last_row : (x d n i : ℕ) → d ≤ 16 → n ≤ 32 → suc i ≡ d → (r : RowsRead) (e : Cursor) (b : RowsGood s x d n i r)
      → Tested s (x ∷ d ∷ n ∷ b.read) (λ v. 0) e → Judgment s (after_rows s x d n (put_row i r.rows e)).told
  unfolding after_rows pick
  last_row x d n i hd hn hi r e b t = rw (eq-eqb e.refusal 0 t.well) (go (first_gap rows d) refl)
    where
      rows : List ℕ
      rows = set r.rows i e.value

      read : List ℕ
      read = b.read ++ (e.value ∷ [])

      same : rows ≡ read ++ replicate (16 - suc i) 0
      same = row_filled x d n hd i r e.value (omega arith) b

      gap : row_gap (x ∷ d ∷ n ∷ b.read) e.value ≡ gap_told (first_gap rows d)
      gap = last-row_gap x d n b.read e.value (omega (arith, b.long))
          ∙ ap gap_told (gap_same read rows d (λ j. rw same (sym (padded read (16 - suc i) j 0))))

      go : (f : Sought Triple) → first_gap rows d ≡ f
          → Judgment s (whole_or_gap e.start f (ended s x d n rows (threads_from s x d e n))).told
      go nothing q =
          threads_judged x d n read (rw (length-append b.read (e.value ∷ []), b.long) (omega arith)) e
          (passed s hs t (gap ∙ ap gap_told q)) hn rows
      go (found g) q = objected_by s (gap_told (found g)) t (gap-objection _ _ t.left ∙ gap ∙ ap gap_told q) (omega arith)

  rows-judged : (x d n : ℕ) (c : Cursor) → 1 ≤ d → d ≤ 16 → n ≤ 32 → Good s (x ∷ d ∷ n ∷ []) c
      → Judgment s (after_rows s x d n (rows_from s d c d)).told
  unfolding rows_from
  rows-judged x zero n c h hd hn g = absurd (omega arith)
  rows-judged x (suc i) n c h hd hn g =
      ⊎_elim
      (λ b. ⊎_elim (λ t. last_row x (suc i) n i hd hn refl _ _ b t) (λ t. stopped-after s x (suc i) n _ t)
      (row_step x (suc i) n hd i _ (omega arith) b))
      (λ t. stopped-after s x (suc i) n _ (stopped_row s (suc i) i _ t))
      (rows-good x (suc i) n hd c g i (omega arith))

  -- The three numbers of the head: each is judged for its range alone.
  head_step : {vs : List ℕ} {c : Cursor} (r : Range) (why : ℕ) → 0 < why → ((v : ℕ) → fault vs v ≡ pick (within r v) 0 why)
      → wanted vs ≡ true → ((v : ℕ) → row_gap vs v ≡ answered []) → (Good s vs c) ⊎ (Stopped s c)
      → (Good s (vs ++ ((ranged s c r why).value ∷ [])) (ranged s c r why)) ⊎ (Stopped s (ranged s c r why))
  unfolding ranged
  head_step {vs} {c} r why h f w e =
      ⊎_elim
      (λ g. ⊎_elim (λ t. inl (passed s hs t (e _))) inr (one-step s (within r) (λ v. 0) why h f g w))
      (λ t. inr (stopped-ranged s c r why t))

  head_good : (Good s ((version_from s).value ∷ (domains_from s).value ∷ (count_from s).value ∷ []) (count_from s)) ⊎ (Stopped s (count_from s))
  unfolding version_from domains_from count_from fault wanted row_gap encode_all
  head_good =
      head_step thread_counts 5 (omega arith) (λ v. refl) refl (λ v. refl)
      (head_step domain_counts 5 (omega arith) (λ v. refl) refl (λ v. refl)
      (head_step versions 4 (omega arith) version_fault refl (λ v. refl)
      (inl (record { well = refl; stands = refl; before = before_nil s }))))

  -- The reader's answer is a judgment.
  pub judged : Judgment s (reading s).told
  unfolding reading
  judged =
      ⊎_elim
      (λ g. let k = before_counts _ _ _ g.before in
      rows-judged _ _ _ (count_from s) (within_low domain_counts _ k.0) (omega (arith, within_high domain_counts (domains_from s).value k.0))
      (omega (arith, within_high thread_counts (count_from s).value k.1)) g)
      (λ t. stopped-after s _ _ _ _ (stopped-rows s _ _ _ t))
      head_good
