-- The rules of the comma form say one thing only: of two lists of numbers that a text starts with the longer goes on where the shorter
-- ends, and no list that ends a judgment goes on.
use Prim.Native.Nat.{ℕ, zero, suc, ◌+◌, ◌≤◌, ◌<◌}
use mathlib.Core.Path.{◌≡◌, refl, ap, sym, ◌∙◌, subst}
use mathlib.Core.Bool.{true, false}
use mathlib.Core.List.{List, [], ◌∷◌, ◌++◌}
use native.Mathlib.Omega.{arith}
use lib.ListN.{length, get_or, take}
use lib.Seq.{take-suc, take-length}
use lib.Dec.{ltb}
use borrow.Author.Tests.{ltb-true, ltb-false, lt-ltb, le-ltb, eq-eqb, ne_eqb}
use Rattle.basis.specs.Tests.{pick}
use Rattle.basis.specs.Told.{Told, answered}
use Rattle.basis.proofs.TestLaws.{by_test, refuted}
use Rattle.numeral.specs.Number.{Number}
use Rattle.numeral.specs.Number.{Value, Refused}
use Rattle.decimal.specs.Decimal.{decimal}
use Rattle.codec.specs.Judging.{fault, row_gap, objection, wanted}
use Rattle.codec.proofs.BeforeLaws.{unfaulted}
use Rattle.codec.proofs.JudgedSteps.{gap-objection}
use Rattle.sheet.specs.Field.{field_at}
use Rattle.sheet.specs.Text.{line_over}
use Rattle.sheet.specs.Sheet.{Judged, halted, end_fault, finished, judged_field, by_field}
use Rattle.sheet.specs.SheetJudging.{SheetBefore, sheet_place, SheetJudgment, no_field, out_of_range, wrong_end, gap-found, extra, all_read}
use Rattle.sheet.proofs.EndLaws.{wrong_end_number}
use Rattle.sheet.proofs.FieldRules.{field_value_exactly, no_field_exactly}
use Rattle.sheet.proofs.FieldRuns.{field_there, end_there}
use Rattle.sheet.proofs.TextLaws.{before-one}
use Rattle.sheet.proofs.ByteVerdicts.{passing_before, before_low}

-- The numbers go on after vs: another is wanted, stands there with its end, and is not objected to.
record GoesOn (s vs : List ℕ) : Type 0 where
  wants : wanted vs ≡ true
  value : ℕ
  end : ℕ
  reads : field_at s (sheet_place vs) ≡ Value value end
  ended : end_fault s end (line_over (vs ++ (value ∷ []))) ≡ 0
  passed : objection vs value ≡ answered []

value_same : {n : Number} {v w p q : ℕ} → n ≡ Value v p → n ≡ Value w q → (v ≡ w) × (p ≡ q)
value_same e f = (cc, cc)

no_value : {A : Type 0} {n : Number} {w v p : ℕ} → n ≡ Refused w → n ≡ Value v p → A
no_value e f = let z : ◌≡◌ {A = ℕ} 0 1 = cc in absurd (omega arith)

-- What is told at the end vs.
over : Judged
over = halted [] (answered []) 0

end_told : List ℕ → List ℕ → Told
end_told s vs =
    pick (wanted vs) (by_field s vs (sheet_place vs) (field_at s (sheet_place vs)) (λ v e. over)).told (finished s vs (sheet_place vs)).told

-- A judgment tells this of an end where the numbers do not go on.
record End (s : List ℕ) (o : Told) : Type 0 where
  numbers : List ℕ
  before : SheetBefore s numbers
  ends : GoesOn s numbers → ⊥
  told : o ≡ end_told s numbers

-- What goes on at a field has its value and its end.
module _ {s vs : List ℕ} {v e : ℕ} (f : field_at s (sheet_place vs) ≡ Value v e) (g : GoesOn s vs) where
  same_value : g.value ≡ v
  same_value = (value_same g.reads f).0

  goes-passed : objection vs v ≡ answered []
  goes-passed = subst (λ (x : ℕ). objection vs x ≡ answered []) same_value g.passed

  goes-ended : end_fault s e (line_over (vs ++ (v ∷ []))) ≡ 0
  goes-ended =
      subst (λ (x : ℕ). end_fault s e (line_over (vs ++ (x ∷ []))) ≡ 0) same_value
      (subst (λ (y : ℕ). end_fault s y (line_over (vs ++ (g.value ∷ []))) ≡ 0) (value_same g.reads f).1 g.ended)

end_of : (s : List ℕ) (o : Told) → SheetJudgment s o → End s o
unfolding end_told judged_field finished pick
end_of s o (no_field vs why b w r) =
    let f = (no_field_exactly s (sheet_place vs) why).1 r in
    record { numbers = vs; before = b; ends = λ g. no_value f g.reads; told = rw (w, f) }
end_of s o (out_of_range vs v e b w r h) =
    let f = (field_value_exactly s (sheet_place vs) v e).1 r in
    record {
      numbers = vs;
      before = b;
      ends = λ g. omega (arith, unfaulted vs v (goes-passed f g), h);
      told = rw (w, f, ne_eqb (fault vs v) 0 (λ z. omega arith));
    }
end_of s o (wrong_end vs v e why b w r t x) =
    let f = (field_value_exactly s (sheet_place vs) v e).1 r in
    let q = wrong_end_number s e (line_over (vs ++ (v ∷ []))) why x in
    record {
      numbers = vs;
      before = b;
      ends = λ g. omega (arith, goes-ended f g, q.0, q.1);
      told = rw (w, f, eq-eqb (fault vs v) 0 t, q.0, ne_eqb why 0 (λ z. omega (arith, q.1)));
    }
end_of s o (gap-found vs v e b w r t u h) =
    let f = (field_value_exactly s (sheet_place vs) v e).1 r in
    record {
      numbers = vs;
      before = b;
      ends = λ g. let q : row_gap vs v ≡ answered [] = sym (gap-objection vs v t) ∙ goes-passed f g in omega (arith, ap (λ (x : Told). x.number) q, h);
      told = rw (
        w,
        f,
        eq-eqb (fault vs v) 0 t,
        eq-eqb (end_fault s e (line_over (vs ++ (v ∷ [])))) 0 u,
        ne_eqb (row_gap vs v).number 0 (λ z. omega arith),
      );
    }
end_of s o (extra vs b w h) =
    record { numbers = vs; before = b; ends = λ g. refuted g.wants w; told = rw (w, lt-ltb (sheet_place vs) (length s) h) }
end_of s o (all_read vs b w e) =
    record { numbers = vs; before = b; ends = λ g. refuted g.wants w; told = rw (w, le-ltb (sheet_place vs) (length s) (omega arith)) }

-- Each number is read where it stands, and its end is as due.
before-field : {s vs : List ℕ} → SheetBefore s vs → (k : ℕ) → k < length vs →
    let at = sheet_place (take k vs) in
    let e = at + length (decimal (get_or vs k 0)) in
    (field_at s at ≡ Value (get_or vs k 0) e) × (end_fault s e (line_over (take (suc k) vs)) ≡ 0)
before-field {s} {vs} b k h =
    let v : ℕ = get_or vs k 0 in
    let at : ℕ = sheet_place (take k vs) in
    let p = before-one b k h in
    let q = end_there s (at + length (decimal v)) _ (line_over (take (suc k) vs)) p.1 in
    (field_there s at v _ (record { small = (before_low (passing_before b)).each k; digits = p.0; inside = q.0; ends = q.1 }), q.2)

module _ (s vs ws : List ℕ) (b : SheetBefore s vs) (c : SheetBefore s ws) where
  -- As far as both go, they are the same.
  same-front : (k : ℕ) → k ≤ length vs → k ≤ length ws → take k vs ≡ take k ws
  same-front zero h l = refl
  same-front (suc k) h l =
      let e : take k vs ≡ take k ws = same-front k (omega arith) (omega arith) in
      let f = subst (λ (us : List ℕ). field_at s (sheet_place us) ≡ Value (get_or vs k 0) (sheet_place us + length (decimal (get_or vs k 0)))) e (before-field b k h).0 in
      let v : get_or vs k 0 ≡ get_or ws k 0 = (value_same f (before-field c k l).0).0 in
      rw (take-suc vs k 0 h, take-suc ws k 0 l, e, v)

  -- The longer goes on where the shorter ends.
  goes_on : length vs < length ws → GoesOn s vs
  goes_on h =
      let n : ℕ = length vs in
      let v : ℕ = get_or ws n 0 in
      let e : take n ws ≡ vs = sym (same-front n (omega arith) (omega arith)) ∙ take-length vs in
      let f : take (suc n) ws ≡ vs ++ (v ∷ []) = take-suc ws n 0 h ∙ ap (λ (us : List ℕ). us ++ (v ∷ [])) e in
      let p = before-field c n h in
      record {
        wants = subst (λ (us : List ℕ). wanted us ≡ true) e (c.wants n h);
        value = v;
        end = sheet_place vs + length (decimal v);
        reads = subst (λ (us : List ℕ). field_at s (sheet_place us) ≡ Value v (sheet_place us + length (decimal v))) e p.0;
        ended = subst (λ (us : List ℕ). end_fault s (sheet_place vs + length (decimal v)) (line_over us) ≡ 0) f
            (subst (λ (us : List ℕ). end_fault s (sheet_place us + length (decimal v)) (line_over (take (suc n) ws)) ≡ 0) e p.1);
        passed = subst (λ (us : List ℕ). objection us v ≡ answered []) e (c.passed n h);
      }

same_end : (s vs ws : List ℕ) → SheetBefore s vs → SheetBefore s ws → (GoesOn s vs → ⊥) → (GoesOn s ws → ⊥) → vs ≡ ws
same_end s vs ws b c p q =
    by_test (ltb (length vs) (length ws)) (λ t. absurd (p (goes_on s vs ws b c (ltb-true _ _ t))))
    (λ t. by_test (ltb (length ws) (length vs)) (λ u. absurd (q (goes_on s ws vs c b (ltb-true _ _ u))))
    (λ u. let e : length vs ≡ length ws = omega (arith, ltb-false (length vs) (length ws) t, ltb-false (length ws) (length vs) u) in
    sym (take-length vs) ∙ same-front s vs ws b c (length vs) (omega arith) (omega arith) ∙ rw e (take-length ws)))

-- Two lists of which no more is wanted are the same.
pub same-all : (s vs ws : List ℕ) → SheetBefore s vs → wanted vs ≡ false → SheetBefore s ws → wanted ws ≡ false → vs ≡ ws
same-all s vs ws b w c u = same_end s vs ws b c (λ g. refuted g.wants w) (λ g. refuted g.wants u)

-- No second judgment fits.
pub sheet_judged_once : (s : List ℕ) (o p : Told) → SheetJudgment s o → SheetJudgment s p → o ≡ p
sheet_judged_once s o p f g =
    let x : End s o = end_of s o f in
    let y : End s p = end_of s p g in
    x.told ∙ ap (end_told s) (same_end s x.numbers y.numbers x.before y.before x.ends y.ends) ∙ sym y.told
