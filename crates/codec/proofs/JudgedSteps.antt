-- One step of the reader against the rules: a number that passes its tests is one more, one that fails stops the reader with a judgment, and a stopped reader stays so.
use Prim.Native.Nat.{ℕ, zero, suc, ◌<◌}
use mathlib.Core.Path.{◌≡◌, refl, ap, sym, ◌∙◌}
use mathlib.Core.Bool.{Bool, true, false}
use mathlib.Core.List.{List, [], ◌∷◌, ◌++◌}
use mathlib.Core.Logic.{◌⊎◌, inl, inr, ⊎_elim}
use native.Mathlib.Omega.{arith}
use lib.ListN.{length, drop, length-append, length-take}
use lib.Dec.{eqb, ltb}
use borrow.Author.Tests.{eq-eqb, ne_eqb, ltb-true, ltb-false}
use Rattle.basis.specs.Tests.{pick}
use Rattle.basis.specs.Told.{Told, answered, refused}
use Rattle.basis.proofs.TestLaws.{by_test}
use Rattle.table.specs.declared.Range.{Range}
use Rattle.table.specs.declared.Thread.{Thread}
use Rattle.numeral.specs.Number.{Number, Value, Refused, number_at, encode, encode_all}
use Rattle.reader.specs.Reader.{Cursor, RowsRead, ThreadsRead, took, number_from, judged, ranged, row_from, rows_from, field_from, fields_from, ended, after_rows}
use Rattle.codec.specs.Judging.{fault, row_gap, objection, wanted, Before, place, Judgment, no_number, objected, extra, all_read}
use Rattle.numeral.specs.NumberRules.{Bytes}
use Rattle.numeral.proofs.NumberLaws.{ToldWhy, number_why, encode_all-last}
use Rattle.numeral.proofs.Runs.{number_reads}
use Rattle.numeral.proofs.RuleLaws.{number_exactly}
use Rattle.codec.proofs.BeforeLaws.{before-next}

-- The reader has read vs, and stands after them.
pub record Good (s vs : List ℕ) (c : Cursor) : Type 0 where
  pub well : c.refusal ≡ 0
  pub stands : c.next ≡ place vs
  pub before : Before s vs

-- The reader has refused as the rules say.
pub record Stopped (s : List ℕ) (c : Cursor) : Type 0 where
  pub refuses : 0 < c.refusal
  pub judgment : Judgment s (record { number = c.refusal; values = c.start ∷ [] })

-- The number after vs was read, and x gives the fault that is left to test.
pub record Tested (s vs : List ℕ) (x : ℕ → ℕ) (c : Cursor) : Type 0 where
  pub before : Before s vs
  pub wants : wanted vs ≡ true
  pub well : c.refusal ≡ 0
  pub starts : c.start ≡ place vs
  pub reads : number_at s (place vs) ≡ Value c.value c.next
  pub left : fault vs c.value ≡ x c.value

-- Without a fault of its own a number is objected to by the gap alone.
pub gap-objection : (vs : List ℕ) (v : ℕ) → fault vs v ≡ 0 → objection vs v ≡ row_gap vs v
unfolding objection pick
gap-objection vs v e = rw (eq-eqb (fault vs v) 0 e)

module _ (s : List ℕ) where
  stopped_test : {c : Cursor} → Stopped s c → eqb c.refusal 0 ≡ false
  stopped_test {c} h = ne_eqb c.refusal 0 (λ e. omega (arith, h.refuses))

  -- After a refusal nothing more is read.
  stopped-number : (c : Cursor) → Stopped s c → Stopped s (number_from s c)
  unfolding number_from pick
  stopped-number c h = rw (stopped_test h) (record { refuses = h.refuses; judgment = h.judgment })

  pub stopped-judged : (c : Cursor) (ok : Bool) (why : ℕ) → Stopped s c → Stopped s (judged c ok why)
  unfolding judged pick
  stopped-judged c ok why h = rw (stopped_test h) (record { refuses = h.refuses; judgment = h.judgment })

  pub stopped_row : (d i : ℕ) (c : Cursor) → Stopped s c → Stopped s (row_from s d i c)
  unfolding row_from
  stopped_row d i c h = stopped-judged _ _ 6 (stopped-number c h)

  pub stopped-ranged : (c : Cursor) (r : Range) (why : ℕ) → Stopped s c → Stopped s (ranged s c r why)
  unfolding ranged
  stopped-ranged c r why h = stopped-judged _ _ why (stopped-number c h)

  pub stopped-rows : (d : ℕ) (c : Cursor) (i : ℕ) → Stopped s c → Stopped s (rows_from s d c i).cursor
  unfolding rows_from
  stopped-rows d c zero h = h
  stopped-rows d c (suc i) h = stopped_row d i _ (stopped-rows d c i h)

  pub stopped-field : (x d : ℕ) (ths : List Thread) (i : ℕ) (vs : List ℕ) (k : ℕ) (c : Cursor) → Stopped s c → Stopped s (field_from s x d ths i vs k c)
  unfolding field_from
  stopped-field x d ths i vs k c h = stopped-judged _ _ 9 (stopped-ranged c _ 8 h)

  pub stopped-fields : (x d : ℕ) (ths : List Thread) (i : ℕ) (c : Cursor) (k : ℕ) → Stopped s c → Stopped s (fields_from s x d ths i c k).cursor
  unfolding fields_from
  stopped-fields x d ths i c zero h = h
  stopped-fields x d ths i c (suc k) h = stopped-field x d ths i _ k _ (stopped-fields x d ths i c k h)

  -- What is objected to the number after vs is judged so.
  pub objected_by : {vs : List ℕ} {x : ℕ → ℕ} {c : Cursor} (o : Told) → Tested s vs x c → objection vs c.value ≡ o → 0 < o.number
      → Judgment s (record { number = o.number; values = c.start ∷ o.values })
  objected_by {vs} {x} {c} o t e h =
      let n = (number_exactly s (place vs) (Value c.value c.next)).0 t.reads in
      rw (t.starts, ← e) (objected vs c.value c.next t.before t.wants n (rw e h))

  retested : {vs : List ℕ} {x y : ℕ → ℕ} {c : Cursor} → ((v : ℕ) → x v ≡ y v) → Tested s vs x c → Tested s vs y c
  retested {c = c} e t = record {
    before = t.before;
    wants = t.wants;
    well = t.well;
    starts = t.starts;
    reads = t.reads;
    left = t.left ∙ e c.value;
  }

  -- A test that passes leaves the rest, and one that fails stops the reader.
  pub test_step : {vs : List ℕ} {x : ℕ → ℕ} {c : Cursor} (ok : ℕ → Bool) (why : ℕ) → 0 < why → Tested s vs (λ v. pick (ok v) (x v) why) c
      → (Tested s vs x (judged c (ok c.value) why)) ⊎ (Stopped s (judged c (ok c.value) why))
  unfolding judged pick objection
  test_step {vs} {x} {c} ok why h t = go (ok c.value) t.left
    where
      go : (b : Bool) → fault vs c.value ≡ pick b (x c.value) why → (Tested s vs x (judged c b why)) ⊎ (Stopped s (judged c b why))
      go true e = rw (eq-eqb c.refusal 0 t.well) (inl (record {
        before = t.before;
        wants = t.wants;
        well = t.well;
        starts = t.starts;
        reads = t.reads;
        left = e;
      }))
      go false e = rw (eq-eqb c.refusal 0 t.well) (inr (record {
        refuses = h;
        judgment = objected_by (refused why) t (rw (e, ne_eqb why 0 (λ z. omega arith))) h;
      }))

  number_step : {vs : List ℕ} {c : Cursor} → Good s vs c → wanted vs ≡ true → (Tested s vs (fault vs) (number_from s c)) ⊎ (Stopped s (number_from s c))
  unfolding number_from number_at pick
  number_step {vs} {c} g w = rw (eq-eqb c.refusal 0 g.well, g.stands) (go (number_at s (place vs)) refl (number_why (place vs) (drop (place vs) s)))
    where
      go : (n : Number) → number_at s (place vs) ≡ n → ToldWhy n → (Tested s vs (fault vs) (took (place vs) n)) ⊎ (Stopped s (took (place vs) n))
      go (Value v q) e h = inl (record { before = g.before; wants = w; well = refl; starts = refl; reads = e; left = refl })
      go (Refused why) e h = inr (record { refuses = h; judgment = no_number vs why g.before w ((number_exactly s (place vs) (Refused why)).0 e) })

  -- One number with one test.
  pub one-step : {vs : List ℕ} {c : Cursor} (ok : ℕ → Bool) (x : ℕ → ℕ) (why : ℕ) → 0 < why → ((v : ℕ) → fault vs v ≡ pick (ok v) (x v) why)
      → Good s vs c → wanted vs ≡ true
      → (Tested s vs x (judged (number_from s c) (ok (number_from s c).value) why)) ⊎ (Stopped s (judged (number_from s c) (ok (number_from s c).value) why))
  one-step ok x why h e g w =
      ⊎_elim (λ t. test_step ok why h (retested e t)) (λ t. inr (stopped-judged _ _ why t)) (number_step g w)

  -- The end of a reading: what is left of the bytes, if no number is wanted.
  pub ended-judged : (vs : List ℕ) (x d n : ℕ) (rows : List ℕ) (t : ThreadsRead) → wanted vs ≡ false → Good s vs t.cursor
      → Judgment s (ended s x d n rows t).told
  unfolding ended pick
  ended-judged vs x d n rows t w g =
      rw (eq-eqb t.cursor.refusal 0 g.well, g.stands) (by_test (ltb (place vs) (length s))
      (λ l. rw l (extra vs g.before w (ltb-true _ _ l)))
      (λ l. rw l (all_read vs g.before w (omega (arith, ltb-false (place vs) (length s) l, sym (length-take (place vs) s) ∙ ap length g.before.stands)))))

  pub stopped-ended : (x d n : ℕ) (rows : List ℕ) (t : ThreadsRead) → Stopped s t.cursor → Judgment s (ended s x d n rows t).told
  unfolding ended pick
  stopped-ended x d n rows t h = rw (stopped_test h) h.judgment

  pub stopped-after : (x d n : ℕ) (r : RowsRead) → Stopped s r.cursor → Judgment s (after_rows s x d n r).told
  unfolding after_rows pick
  stopped-after x d n r h = rw (stopped_test h) h.judgment

  -- A number that passed all its tests is one more.
  pub passed : Bytes s → {vs : List ℕ} {c : Cursor} → Tested s vs (λ v. 0) c → row_gap vs c.value ≡ answered [] → Good s (vs ++ (c.value ∷ [])) c
  passed hs {vs} {c} t e =
      let r = number_reads s (place vs) c.value c.next hs t.reads in
      record {
        well = t.well;
        stands = rw (encode_all-last vs c.value, length-append (encode_all vs) (encode c.value)) r.1.ends;
        before = before-next c.value t.before t.wants r.1 (gap-objection vs c.value t.left ∙ e);
      }
