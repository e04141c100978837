-- The law `scan_reads`: the numbers of a text, judged all at once by the byte form and joined with the text's own fault, come to what the
-- reader of the comma form answers. By induction over the fields that pass, up to the first that does not.
use Prim.Native.Nat.{ℕ, zero, suc, ◌+◌, ◌≤◌, ◌<◌}
use mathlib.Core.Path.{◌≡◌, refl, ap, sym, ◌∙◌, subst}
use mathlib.Core.Bool.{true, false}
use mathlib.Core.List.{List, [], ◌∷◌, ◌++◌}
use native.Mathlib.Omega.{arith}
use lib.ListN.{length, take, drop, length-append}
use lib.Seq.{append_snoc}
use lib.Dec.{eqb, ltb}
use borrow.Author.Tests.{ltb-true, ltb-false, lt-ltb, eqb-true, eqb-false, eq-eqb, ne_eqb}
use Rattle.basis.specs.Tests.{pick}
use Rattle.basis.specs.Told.{Told, answered, refused}
use Rattle.basis.specs.Search.{found}
use Rattle.basis.proofs.TestLaws.{by_test, refuted, and-of, and-false}
use Rattle.flow.specs.Gap.{Triple, gap_told}
use Rattle.table.specs.declared.Table.{Table}
use Rattle.numeral.specs.Number.{encode_all}
use Rattle.numeral.specs.Number.{Number}
use Rattle.numeral.specs.Number.{Value, Refused}
use Rattle.reader.specs.Reader.{Read, accepted, refused_at, gapped_at, reading}
use Rattle.codec.specs.Judging.{fault, row_gap, objection, wanted, place}
use Rattle.codec.proofs.JudgedSteps.{gap-objection}
use Rattle.sheet.specs.Field.{field_at}
use Rattle.sheet.specs.Text.{line_over, text_part}
use Rattle.sheet.specs.Sheet.{placed, end_fault, behind, most_numbers, table_by, sheet_reading}
use Rattle.sheet.specs.SheetJudging.{SheetBefore, sheet_place, FieldValue, NoField, SheetJudgment, no_field, out_of_range, wrong_end, gap-found, extra}
use Rattle.sheet.specs.Scan.{Cutting, Verdict, Accepted, No, Intransitive, verdict_told, cut_numbers, number_cut, none_cut, field_cut, goes_on, turned, scanned, cut_bytes, numbers_in, ends_wrong, passed_by, start_of, objected_by, gapped_by, joined}
use Rattle.sheet.proofs.FieldRuns.{field_back, end_stands}
use Rattle.sheet.proofs.FieldRules.{field_value_exactly, no_field_exactly}
use Rattle.sheet.proofs.EndLaws.{wrong_end_by}
use Rattle.sheet.proofs.TextLaws.{sheet_before_nil, sheet_before_next}
use Rattle.sheet.proofs.SheetJudged.{begins_inside, above, unobjected, full, no_field_why}
use Rattle.sheet.proofs.SheetReaderLaws.{sheet_refused, sheet_accepted}
use Rattle.sheet.proofs.CutLaws.{Kept, Going, kept-count, cut-next, scan_kept, Grown, scan_grown, scan_rests, Past, scan_past}
use Rattle.sheet.proofs.ByteVerdicts.{Passing, passing_before, passing_next, all_pass, one_objected, count-before}
use Rattle.sheet.proofs.JoinLaws.{Comes, comes_by, OwnFault, own-fault, own_comes, not-one, Three, gap-three}

-- The text cut into as many fields as there are numbers in vs.
abbrev so_far : List ℕ → List ℕ → Cutting
so_far s vs = scanned s (length vs)

-- One field more.
abbrev one_more : List ℕ → List ℕ → Cutting
one_more s vs = scanned s (suc (length vs))

-- So many fields were cut, and what was cut is the numbers vs, which pass.
record Good (s vs : List ℕ) : Type 0 where
  before : SheetBefore s vs
  same : cut_numbers (so_far s vs) ≡ vs
  fine : (so_far s vs).refusal ≡ 0
  next : (so_far s vs).next ≡ sheet_place vs

good_nil : (s : List ℕ) → Good s []
unfolding scanned text_part
good_nil s = record { before = sheet_before_nil s; same = refl; fine = refl; next = refl }

-- Why the end at e of the number v behind vs is refused.
abbrev end_why : List ℕ → List ℕ → ℕ → ℕ → ℕ
end_why s vs v e = end_fault s e (line_over (vs ++ (v ∷ [])))

-- The cutting d has one number more than vs, with its end.
record Next (s vs : List ℕ) (v e : ℕ) (d : Cutting) : Type 0 where
  numbers : cut_numbers d ≡ vs ++ (v ∷ [])
  refusal : d.refusal ≡ end_why s vs v e
  place : d.place ≡ e
  ended : d.ended ≡ true
  next : d.next ≡ behind e (line_over (vs ++ (v ∷ [])))
  count : d.count ≡ length vs + 1

module _ {s vs : List ℕ} (g : Good s vs) where
  kept : Kept (so_far s vs)
  kept = scan_kept s (length vs)

  good-count : (so_far s vs).count ≡ length vs
  good-count = sym (kept-count kept) ∙ ap length g.same

  passing : Passing vs
  passing = passing_before g.before

  -- No number is wanted: the end of the text, or what stands behind the last line.
  good_stops : wanted vs ≡ false → goes_on (so_far s vs) ≡ false
  unfolding goes_on
  good_stops w =
      rw (subst (λ (us : List ℕ). wanted us ≡ false) (sym g.same) w, and-false (ltb (so_far s vs).count most_numbers)) (and-false (eqb (so_far s vs).refusal 0))

  finished_comes : wanted vs ≡ false → Comes s (so_far s vs)
  unfolding passed_by pick table_by
  finished_comes w =
      let told-so : (reading (cut_bytes (so_far s vs))).told ≡ answered []
      = subst (λ (us : List ℕ). (reading (encode_all us)).told ≡ answered []) (sym g.same) (all_pass vs passing w) in
      comes_by s (so_far s vs) Accepted told-so
      (λ t f. rw (eq-eqb (so_far s vs).refusal 0 g.fine)
      (by_test (ltb (so_far s vs).next (length s))
      (λ u. let l : sheet_place vs < length s = subst (λ (p : ℕ). p < length s) g.next (ltb-true _ _ u) in
      rw u (ap (refused_at 10) g.next ∙ sym (sheet_refused s _ (extra vs g.before w l) (omega arith))))
      (λ u. let l : length s ≤ sheet_place vs = subst (λ (p : ℕ). length s ≤ p) g.next (ltb-false _ _ u) in
      let m : length s ≡ sheet_place vs = omega (arith, l, begins_inside g.before) in
      let q : t ≡ table_by vs = f ∙ ap (λ (us : List ℕ). (reading (encode_all us)).table) g.same in
      rw u (ap accepted q ∙ sym (sheet_accepted s vs (record { before = g.before; whole = w; long = m }))))))

  module _ (w : wanted vs ≡ true) where
    room : length vs < most_numbers
    room =
        by_test (ltb (length vs) most_numbers) (λ t. ltb-true _ _ t)
        (λ t. refuted w (full s vs g.before (ltb-false _ _ t)))

    going_here : Going (so_far s vs)
    going_here = record { fine = g.fine; room = omega (arith, good-count, room); wants = subst (λ (us : List ℕ). wanted us ≡ true) (sym g.same) w }

    good-goes : goes_on (so_far s vs) ≡ true
    unfolding goes_on
    good-goes = and-of (eq-eqb _ _ going_here.fine) (and-of (lt-ltb _ _ going_here.room) going_here.wants)

    cut_field : (x : Number) → field_at s (sheet_place vs) ≡ x → one_more s vs ≡ field_cut s (so_far s vs) x
    unfolding scanned turned pick
    cut_field x f = rw good-goes (ap (field_cut s (so_far s vs)) (ap (field_at s) g.next ∙ f))

    -- The field there is no number.
    refused_comes : (why : ℕ) → field_at s (sheet_place vs) ≡ Refused why → Comes s (none_cut (so_far s vs) why)
    refused_comes why f =
        let r : NoField (drop (sheet_place vs) s) why = (no_field_exactly s (sheet_place vs) why).0 f in
        own_comes s (none_cut (so_far s vs) why) (subst Passing (sym g.same) passing)
        (record {
          some = no_field_why _ why r;
          judged = subst (λ (p : ℕ). SheetJudgment s (placed (refused why) p)) (sym g.next) (no_field vs why g.before w r);
        })

    number-next : (v e : ℕ) → Next s vs v e (number_cut s (so_far s vs) v e)
    unfolding number_cut
    number-next v e =
        let q : cut_numbers (number_cut s (so_far s vs) v e) ≡ vs ++ (v ∷ [])
        = cut-next s (so_far s vs) v e kept going_here ∙ ap (λ (us : List ℕ). us ++ (v ∷ [])) g.same in
        record {
          numbers = q;
          refusal = ap (λ (us : List ℕ). end_fault s e (line_over us)) q;
          place = refl;
          ended = refl;
          next = ap (λ (us : List ℕ). behind e (line_over us)) q;
          count = ap (λ (n : ℕ). n + 1) good-count;
        }

    module _ (v e : ℕ) (f : field_at s (sheet_place vs) ≡ Value v e) where
      there : Next s vs v e (one_more s vs)
      there = subst (Next s vs v e) (sym (cut_field (Value v e) f)) (number-next v e)

      reads : FieldValue (sheet_place vs) (drop (sheet_place vs) s) v e
      reads = (field_value_exactly s (sheet_place vs) v e).0 f

      -- A number is objected to, in the bytes of it and whatever stands behind it.
      module _ (c : Cutting) (k : Kept c) (rest : List ℕ) (q : cut_numbers c ≡ vs ++ v ∷ rest) where
        counted : numbers_in (take (place vs) (cut_bytes c)) ≡ length vs
        counted = count-before (cut_numbers c) vs v rest k.low q passing

        start : start_of s (cut_bytes c) (place vs) ≡ sheet_place vs
        unfolding start_of
        start = ap (λ (n : ℕ). (scanned s n).next) counted ∙ g.next

        objection-told : (o : Told) → objection vs v ≡ o → 0 < o.number → (reading (cut_bytes c)).told ≡ placed o (place vs)
        objection-told o r h =
            one_objected (cut_numbers c) vs v rest k.low q passing w (subst (λ (p : Told). 0 < p.number) (sym r) h) ∙ ap (λ (p : Told). placed p (place vs)) r

        fault_comes : 0 < fault vs v → Comes s c
        unfolding objection objected_by pick
        fault_comes h =
            let r : objection vs v ≡ refused (fault vs v) = rw (ne_eqb (fault vs v) 0 (λ z. omega (arith, h, z))) in
            comes_by s c (No (fault vs v) (place vs)) (objection-told (refused (fault vs v)) r h)
            (λ t u. rw (ne_eqb (fault vs v) 1 (not-one vs v))
            (ap (refused_at (fault vs v)) start ∙ sym (sheet_refused s _ (out_of_range vs v e g.before w reads h) h)))

        gap_comes : fault vs v ≡ 0 → 0 < (row_gap vs v).number
            → ((x : Triple) → row_gap vs v ≡ gap_told (found x) → gapped_by s c (cut_bytes c) (place vs) x ≡ sheet_reading s) → Comes s c
        gap_comes z h go =
            let x : Three (row_gap vs v) = gap-three vs v h in
            let y : Triple = x.triple in
            let r : objection vs v ≡ gap_told (found y) = gap-objection vs v z ∙ x.tells in
            comes_by s c (Intransitive (place vs) y.a y.b y.c) (objection-told (gap_told (found y)) r (omega arith)) (λ t u. go y x.tells)

        -- The end behind the last row is as due.
        right-gap : fault vs v ≡ 0 → end_why s vs v e ≡ 0 → 0 < (row_gap vs v).number → Past (length vs) c → Comes s c
        unfolding gapped_by pick
        right-gap z y h p =
            gap_comes z h
            (λ x r. let n : ends_wrong c (numbers_in (take (place vs) (cut_bytes c))) ≡ false = ap (ends_wrong c) counted ∙ p.right in
            let j : SheetJudgment s (placed (gap_told (found x)) (sheet_place vs))
            = subst (λ (o : Told). SheetJudgment s (placed o (sheet_place vs))) r (gap-found vs v e g.before w reads z y h) in
            rw n (ap (λ (p : ℕ). gapped_at p x) start ∙ sym (sheet_refused s _ j (omega arith))))

        -- It is wrong, and goes before the gap.
        wrong_gap : fault vs v ≡ 0 → 0 < (row_gap vs v).number → ends_wrong c (length vs) ≡ true → OwnFault s c → Comes s c
        unfolding gapped_by pick
        wrong_gap z h n o =
            gap_comes z h
            (λ x r. let m : ends_wrong c (numbers_in (take (place vs) (cut_bytes c))) ≡ true = ap (ends_wrong c) counted ∙ n in rw m (own-fault o))

      wrong : fault vs v ≡ 0 → 0 < end_why s vs v e → OwnFault s (one_more s vs)
      wrong z h = record {
        some = subst (λ (n : ℕ). 0 < n) (sym there.refusal) h;
        judged = subst (λ (n : ℕ). SheetJudgment s (placed (refused n) (one_more s vs).place)) (sym there.refusal)
            (subst (λ (p : ℕ). SheetJudgment s (placed (refused (end_why s vs v e)) p)) (sym there.place)
            (wrong_end vs v e (end_why s vs v e) g.before w reads z (wrong_end_by s e (line_over (vs ++ (v ∷ []))) h)));
      }

      unlike : 0 < end_why s vs v e → eqb (one_more s vs).refusal 0 ≡ false
      unlike h = ne_eqb (one_more s vs).refusal 0 (λ z. omega (arith, there.refusal, h, z))

      ends_so : 0 < end_why s vs v e → ends_wrong (one_more s vs) (length vs) ≡ true
      unfolding ends_wrong
      ends_so h = rw (unlike h) (and-of there.ended (eq-eqb (one_more s vs).count (length vs + 1) there.count))

      past : end_why s vs v e ≡ 0 → Past (length vs) (one_more s vs)
      unfolding ends_wrong
      past z = record {
        cut = omega (arith, there.count);
        right = rw (eq-eqb (one_more s vs).refusal 0 (there.refusal ∙ z)) (and-false (one_more s vs).ended);
      }

      good-next : end_why s vs v e ≡ 0 → objection vs v ≡ answered [] → Good s (vs ++ (v ∷ []))
      good-next z o =
          let d = field_back s (sheet_place vs) v e f in
          let b = sheet_before_next v g.before w d.digits (end_stands s e (line_over (vs ++ (v ∷ []))) d.inside d.ends z) o in
          let n : suc (length vs) ≡ length (vs ++ (v ∷ [])) = omega (arith, length-append vs (v ∷ [])) in
          record {
            before = b.0;
            same = subst (λ (k : ℕ). cut_numbers (scanned s k) ≡ vs ++ (v ∷ [])) n there.numbers;
            fine = subst (λ (k : ℕ). (scanned s k).refusal ≡ 0) n (there.refusal ∙ z);
            next = subst (λ (k : ℕ). (scanned s k).next ≡ sheet_place (vs ++ (v ∷ []))) n (there.next ∙ b.1);
          }

      -- A wrong end stops the cutting.
      wrong_comes : (m : ℕ) → 0 < end_why s vs v e → Comes s (one_more s vs) → Comes s (scanned s (suc (length vs) + m))
      unfolding goes_on
      wrong_comes m h r = subst (Comes s) (sym (scan_rests s (suc (length vs)) m (rw (unlike h)))) r

      number_comes : (m : ℕ) → (Good s (vs ++ (v ∷ [])) → Comes s (scanned s (suc (length vs) + m))) → Comes s (scanned s (suc (length vs) + m))
      number_comes m go =
          let n : ℕ = suc (length vs) in
          let c : Cutting = scanned s (n + m) in
          let r : Grown (one_more s vs) c = scan_grown s n m in
          let q : cut_numbers c ≡ vs ++ v ∷ r.rest = r.whole ∙ ap (λ (us : List ℕ). us ++ r.rest) there.numbers ∙ append_snoc vs v r.rest in
          by_test (eqb (fault vs v) 0)
          (λ t. let z : fault vs v ≡ 0 = eqb-true _ _ t in
          by_test (eqb (end_why s vs v e) 0)
          (λ u. let y : end_why s vs v e ≡ 0 = eqb-true _ _ u in
          by_test (eqb (row_gap vs v).number 0)
          (λ x. go (good-next y (unobjected vs v z (eqb-true _ _ x))))
          (λ x. right-gap c (scan_kept s (n + m)) r.rest q z y (above (eqb-false _ 0 x)) (scan_past s (length vs) n m (past y))))
          (λ u. let h : 0 < end_why s vs v e = above (eqb-false _ 0 u) in
          wrong_comes m h
          (by_test (eqb (row_gap vs v).number 0)
          (λ x. let o = unobjected vs v z (eqb-true _ _ x) in
          own_comes s (one_more s vs) (subst Passing (sym there.numbers) (passing_next vs v passing w o)) (wrong z h))
          (λ x. wrong_gap (one_more s vs) (scan_kept s n) [] there.numbers z (above (eqb-false _ 0 x)) (ends_so h) (wrong z h)))))
          (λ t. fault_comes c (scan_kept s (n + m)) r.rest q (above (eqb-false _ 0 t)))

    -- One field: it is no number, or a number with its end.
    field_comes : (m : ℕ) (x : Number) → field_at s (sheet_place vs) ≡ x
        → ((v : ℕ) → Good s (vs ++ (v ∷ [])) → Comes s (scanned s (suc (length vs) + m))) → Comes s (scanned s (suc (length vs) + m))
    unfolding goes_on
    field_comes m (Value v e) f go = number_comes v e f m (go v)
    field_comes m (Refused why) f go =
        let h : 0 < why = no_field_why _ why ((no_field_exactly s (sheet_place vs) why).0 f) in
        let c : one_more s vs ≡ none_cut (so_far s vs) why = cut_field (Refused why) f in
        let stop : goes_on (one_more s vs) ≡ false
        = subst (λ (d : Cutting). goes_on d ≡ false) (sym c) (rw (ne_eqb why 0 (λ z. omega (arith, h, z)))) in
        subst (Comes s) (sym (scan_rests s (suc (length vs)) m stop ∙ c)) (refused_comes why f)

all_comes : (m : ℕ) (s vs : List ℕ) → Good s vs → most_numbers ≤ m + length vs → Comes s (scanned s (length vs + m))
all_comes zero s vs g h =
    let w : wanted vs ≡ false = full s vs g.before (omega arith) in
    subst (Comes s) (sym (scan_rests s (length vs) zero (good_stops g w))) (finished_comes g w)
all_comes (suc m) s vs g h =
    by_test (wanted vs)
    (λ w. let e : suc (length vs) + m ≡ length vs + suc m = omega arith in
    subst (λ (n : ℕ). Comes s (scanned s n)) e
    (field_comes g w m (field_at s (sheet_place vs)) refl
    (λ v b. let l : length (vs ++ (v ∷ [])) ≡ suc (length vs) = omega (arith, length-append vs (v ∷ [])) in
    subst (λ (n : ℕ). Comes s (scanned s (n + m))) l (all_comes m s (vs ++ (v ∷ [])) b (omega (arith, h, l))))))
    (λ w. subst (Comes s) (sym (scan_rests s (length vs) (suc m) (good_stops g w))) (finished_comes g w))

-- What the byte form says of the numbers that were cut, joined with the text's own fault, is what the reader of the comma form answers.
pub scan_reads : (s : List ℕ) (v : Verdict) (t : Table) →
    let c = scanned s most_numbers in
    ◌≡◌ {A = Read} (record { told = verdict_told v; table = t }) (reading (cut_bytes c)) → joined s c (cut_bytes c) v t ≡ sheet_reading s
scan_reads s v t = (all_comes most_numbers s [] (good_nil s) (omega arith)).same v t
