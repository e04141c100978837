-- What the reader of the comma form answers is what the rules say: by induction over the fields it has read what passes, or has stopped.
use Prim.Native.Nat.{ℕ, zero, suc, ◌+◌, ◌*◌, ◌≤◌, ◌<◌}
use mathlib.Core.Path.{◌≡◌, refl, ap, sym, ◌∙◌, subst}
use mathlib.Core.Bool.{Bool, true, false}
use mathlib.Core.List.{List, [], ◌∷◌, ◌++◌}
use native.Mathlib.Omega.{arith}
use lib.ListN.{length, take, drop, length-append, take-append-drop}
use lib.Dec.{eqb, ltb}
use borrow.Author.Tests.{ltb-true, ltb-false, le-ltb, eqb-true, eqb-false}
use Rattle.basis.specs.Told.{Told, answered}
use Rattle.basis.proofs.TestLaws.{either}
use Rattle.basis.specs.Search.{Sought, nothing, found}
use Rattle.flow.specs.Gap.{Triple, first_gap, gap_told}
use Rattle.table.specs.Ranges.{domain_counts, thread_counts}
use Rattle.table.proofs.RangeLaws.{by_fields, within_high}
use Rattle.numeral.specs.Number.{Number}
use Rattle.numeral.specs.Number.{Value, Refused}
use Rattle.codec.specs.Judging.{fault, row_gap, objection, wanted}
use Rattle.codec.proofs.BeforeLaws.{before_counts}
use Rattle.codec.proofs.JudgedSteps.{gap-objection}
use Rattle.sheet.specs.Field.{field_at}
use Rattle.sheet.specs.Text.{line_over, text_part}
use Rattle.sheet.specs.Sheet.{Judged, placed, halted, end_fault, behind, finished, judged_field, by_field, judged_from, most_numbers, judged_text, sheet_reading}
use Rattle.sheet.specs.SheetJudging.{NoField, empty, text_ends, padded, strange, too_large, SheetBefore, sheet_place, FieldValue, SheetJudgment, no_field, out_of_range, wrong_end, gap-found, extra, all_read}
use Rattle.sheet.proofs.FieldRuns.{DigitsStand, field_back, end_stands}
use Rattle.sheet.proofs.FieldRules.{field_value_exactly, no_field_exactly}
use Rattle.sheet.proofs.EndLaws.{wrong_end_by}
use Rattle.sheet.proofs.TextLaws.{sheet_before_nil, sheet_before_next}
use Rattle.sheet.proofs.ByteVerdicts.{passing_before}

-- The text holds the numbers that it starts with.
pub begins_inside : {s vs : List ℕ} → SheetBefore s vs → sheet_place vs ≤ length s
begins_inside {s} {vs} b =
    omega (arith, ap length (sym (take-append-drop (sheet_place vs) s)), length-append (take (sheet_place vs) s) (drop (sheet_place vs) s), ap length b.begins)

-- All of the text is the text of the numbers vs, which pass, and no more are wanted.
pub record AllRead (s vs : List ℕ) : Type 0 where
  pub before : SheetBefore s vs
  pub whole : wanted vs ≡ false
  pub long : length s ≡ sheet_place vs

-- What is told is a judgment, and where it is no refusal the numbers are those of the text.
record Outcome (s : List ℕ) (j : Judged) : Type 0 where
  judged : SheetJudgment s j.told
  read : j.told.number ≡ 0 → AllRead s j.numbers

stopped : {s vs : List ℕ} {o : Told} {at : ℕ} → 0 < o.number → SheetJudgment s (placed o at) → Outcome s (halted vs o at)
stopped h j = record { judged = j; read = λ z. absurd (omega arith) }

-- No number is wanted: the end of the text, or what stands behind the last line.
finished-judged : (s vs : List ℕ) → SheetBefore s vs → wanted vs ≡ false → Outcome s (finished s vs (sheet_place vs))
unfolding finished
finished-judged s vs b w =
    let P : Told → Type 0 = λ o. SheetJudgment s o × (o.number ≡ 0 → AllRead s vs) in
    let p = either P (ltb (sheet_place vs) (length s))
    (λ t. (extra vs b w (ltb-true _ _ t), λ z. absurd (omega arith)))
    (λ t. let l : length s ≡ sheet_place vs = omega (arith, ltb-false (sheet_place vs) (length s) t, begins_inside b) in
    (all_read vs b w l, λ z. record { before = b; whole = w; long = l })) in
    record { judged = p.0; read = p.1 }

pub above : {n : ℕ} → (n ≡ 0 → ⊥) → 0 < n
above h = omega arith

-- The test that follows the last row finds nothing, or three domains.
pub row_gap_by : (P : Told → Type 0) → P (answered []) → ((g : Triple) → P (gap_told (found g))) → (vs : List ℕ) (v : ℕ) → P (row_gap vs v)
unfolding row_gap
row_gap_by P none some [] v = none
row_gap_by P none some (x ∷ []) v = none
row_gap_by P none some (x ∷ d ∷ []) v = none
row_gap_by P none some (x ∷ d ∷ n ∷ vs) v = either P (eqb (length vs + 1) d) (λ t. go (first_gap (vs ++ (v ∷ [])) d)) (λ t. none)
  where
    go : (g : Sought Triple) → P (gap_told g)
    go nothing = none
    go (found g) = some g

-- A number without a fault and without a gap is not objected to.
pub unobjected : (vs : List ℕ) (v : ℕ) → fault vs v ≡ 0 → (row_gap vs v).number ≡ 0 → objection vs v ≡ answered []
unobjected vs v e z =
    gap-objection vs v e ∙ row_gap_by (λ o. o.number ≡ 0 → o ≡ answered []) (λ q. refl) (λ g q. absurd (omega arith)) vs v z

-- No table has more numbers.
pub full : (s vs : List ℕ) → SheetBefore s vs → most_numbers ≤ length vs → wanted vs ≡ false
unfolding wanted
full s [] b h = absurd (omega arith)
full s (x ∷ []) b h = absurd (omega arith)
full s (x ∷ d ∷ []) b h = absurd (omega arith)
full s (x ∷ d ∷ n ∷ vs) b h =
    let c = before_counts x d n (passing_before b) in
    let few : d ≤ 16 = omega (arith, within_high domain_counts d c.0) in
    let many : n ≤ 32 = omega (arith, within_high thread_counts n c.1) in
    le-ltb (length vs) _ (by_fields (λ (w : ℕ). d + w * n ≤ length vs) x (omega arith) (omega arith))

pub no_field_why : (s : List ℕ) (why : ℕ) → NoField s why → 0 < why
no_field_why s why (empty _ c) = omega arith
no_field_why s why (text_ends _ f c) = omega arith
no_field_why s why (padded _ f left b c k) = omega arith
no_field_why s why (strange _ f left c h k d) = omega arith
no_field_why s why (too_large _ f left c h k d u v) = omega arith

-- One field: it is refused, or the numbers go on with it.
one_field : (s vs : List ℕ) → SheetBefore s vs → wanted vs ≡ true → (x : Number) → field_at s (sheet_place vs) ≡ x → (rest : ℕ → ℕ → Judged)
    → ((v e : ℕ) → SheetBefore s (vs ++ (v ∷ [])) → behind e (line_over (vs ++ (v ∷ []))) ≡ sheet_place (vs ++ (v ∷ [])) → Outcome s (rest v e))
    → Outcome s (by_field s vs (sheet_place vs) x rest)
unfolding judged_field
one_field s vs b w (Refused why) f rest go =
    let r = (no_field_exactly s (sheet_place vs) why).0 f in
    stopped (no_field_why _ why r) (no_field vs why b w r)
one_field s vs b w (Value v e) f rest go =
    let P : Judged → Type 0 = Outcome s in
    let last : Bool = line_over (vs ++ (v ∷ [])) in
    let r : FieldValue (sheet_place vs) (drop (sheet_place vs) s) v e = (field_value_exactly s (sheet_place vs) v e).0 f in
    let d : DigitsStand s (sheet_place vs) v e = field_back s (sheet_place vs) v e f in
    either P (eqb (fault vs v) 0)
    (λ t. let t' : fault vs v ≡ 0 = eqb-true _ _ t in
    either P (eqb (end_fault s e last) 0)
    (λ u. let u' : end_fault s e last ≡ 0 = eqb-true _ _ u in
    either P (eqb (row_gap vs v).number 0)
    (λ g. let o = unobjected vs v t' (eqb-true _ _ g) in
    let more = sheet_before_next v b w d.digits (end_stands s e last d.inside d.ends u') o in
    go v e more.0 more.1)
    (λ g. let n : 0 < (row_gap vs v).number = above (eqb-false _ 0 g) in stopped n (gap-found vs v e b w r t' u' n)))
    (λ u. let n : 0 < end_fault s e last = above (eqb-false _ 0 u) in stopped n (wrong_end vs v e (end_fault s e last) b w r t' (wrong_end_by s e last n))))
    (λ t. let n : 0 < fault vs v = above (eqb-false _ 0 t) in stopped n (out_of_range vs v e b w r n))

all_fields : (n : ℕ) (s vs : List ℕ) → SheetBefore s vs → most_numbers ≤ n + length vs → Outcome s (judged_from n s vs (sheet_place vs))
unfolding judged_from
all_fields zero s vs b h = finished-judged s vs b (full s vs b (omega arith))
all_fields (suc n) s vs b h =
    either (Outcome s) (wanted vs)
    (λ w. one_field s vs b w (field_at s (sheet_place vs)) refl (λ v e. judged_from n s (vs ++ (v ∷ [])) (behind e (line_over (vs ++ (v ∷ [])))))
    (λ v e c q. subst (λ (at : ℕ). Outcome s (judged_from n s (vs ++ (v ∷ [])) at)) (sym q)
    (all_fields n s (vs ++ (v ∷ [])) c (omega (arith, length-append vs (v ∷ []))))))
    (λ w. finished-judged s vs b w)

outcome : (s : List ℕ) → Outcome s (judged_text s)
unfolding judged_text text_part
outcome s = all_fields most_numbers s [] (sheet_before_nil s) (omega arith)

-- The answer is a judgment.
pub sheet_judged : (s : List ℕ) → SheetJudgment s (sheet_reading s).told
unfolding sheet_reading
sheet_judged s = (outcome s).judged

-- Where it is no refusal, all of the text is the text of the numbers read.
pub sheet_all_read : (s : List ℕ) → (judged_text s).told.number ≡ 0 → AllRead s (judged_text s).numbers
sheet_all_read s = (outcome s).read
