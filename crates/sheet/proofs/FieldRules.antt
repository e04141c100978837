-- A field is judged exactly as the rules say: no number, with 1, 2 or 3, or a number with its value and the place of its end.
use Prim.Native.Nat.{ℕ, zero, suc, ◌+◌, ◌<◌}
use mathlib.Core.Path.{◌≡◌, refl, sym, ◌∙◌, ap, subst}
use mathlib.Core.List.{List, [], ◌∷◌, ◌++◌}
use mathlib.Core.Bool.{Bool, true, false, not, false≢true}
use mathlib.Core.Logic.{◌↔◌}
use native.Mathlib.Omega.{arith}
use lib.ListN.{length, drop, length-append, length-drop, drop_of_length-le, take-append-drop}
use lib.Dec.{eqb, ltb}
use borrow.Author.Tests.{ltb-true, ltb-false, lt-ltb, le-ltb, eqb-true, eqb-false, eq-eqb, ne_eqb, not-true, not-false}
use Rattle.basis.specs.Tests.{pick, or}
use Rattle.basis.proofs.TestLaws.{by_test, either, or_left, or_right, or-true}
use Rattle.numeral.specs.Number.{Number}
use Rattle.numeral.specs.Number.{Value, Refused}
use Rattle.sheet.specs.Field.{field_ends, field, all_digits, zero_first, value_from, judged_digits, field_number, field_at}
use Rattle.sheet.specs.SheetJudging.{Cut, NoField, empty, text_ends, padded, strange, too_large, FieldValue, stands}
use Rattle.sheet.proofs.FieldLaws.{field_nil, field-front, field-short, field_stops}

-- A text is cut in one way.
cut-front : (f left : List ℕ) → ((i : ℕ) → i < length f → field_ends (drop i (f ++ left)) ≡ false) → field_ends left ≡ true → field (f ++ left) ≡ f
unfolding field pick
cut-front [] left h e = field_nil left e
cut-front (x ∷ f) left h e =
    let o : field_ends (x ∷ (f ++ left)) ≡ false = h 0 (omega arith) in
    rw o (ap (λ (g : List ℕ). x ∷ g) (cut-front f left (λ i k. h (suc i) (omega arith)) e))

cut_field : (s f left : List ℕ) → Cut s f left → field s ≡ f
cut_field s f left c =
    ap field c.whole ∙ cut-front f left (λ i k. subst (λ (l : List ℕ). field_ends (drop i l) ≡ false) c.whole (c.goes i k)) c.ends

cut_long : (s f left : List ℕ) → Cut s f left → length s ≡ length f + length left
cut_long s f left c = ap length c.whole ∙ length-append f left

field-held : (l : List ℕ) (i : ℕ) → i < length (field l) → field_ends (drop i l) ≡ false
unfolding field pick
field-held [] i h = absurd (omega arith)
field-held (b ∷ s) zero h = by_test (field_ends (b ∷ s)) (λ e. let z : 0 < 0 = rw e at h in absurd (omega arith)) (λ e. e)
field-held (b ∷ s) (suc i) h =
    by_test (field_ends (b ∷ s)) (λ e. let z : suc i < 0 = rw e at h in absurd (omega arith))
    (λ e. let z : suc i < suc (length (field s)) = rw e at h in field-held s i (omega arith))

field_cut : (l : List ℕ) → Cut l (field l) (drop (length (field l)) l)
field_cut l = record {
  whole = sym (take-append-drop (length (field l)) l) ∙ ap (λ (g : List ℕ). g ++ drop (length (field l)) l) (sym (field-front l));
  goes = field-held l;
  ends = field_stops l;
}

-- What an answer says of the text, of which the first character stands at a place.
abbrev FieldRule : ℕ → List ℕ → Number → Type 0
FieldRule at s (Value v e) = FieldValue at s v e
FieldRule at s (Refused why) = NoField s why

padded_rule : (s f left : List ℕ) → Cut s f left → 0 < length left → zero_first f ≡ true → NoField s 2
padded_rule s [] left c h e = absurd (false≢true e)
padded_rule s (b ∷ []) left c h e = absurd (false≢true e)
padded_rule s (b ∷ x ∷ f) left c h e = padded s f left x (subst (λ (y : ℕ). Cut s (y ∷ x ∷ f) left) (eqb-true b 48 e) c) h

unpadded_rule : (f : List ℕ) → zero_first f ≡ false → (b : ℕ) (g : List ℕ) → f ≡ 48 ∷ b ∷ g → ⊥
unpadded_rule f e b g q = let z : zero_first (48 ∷ b ∷ g) ≡ false = subst (λ (l : List ℕ). zero_first l ≡ false) q e in false≢true (sym z)

missing_rule : (s : List ℕ) → or (eqb (length (field s)) 0) (eqb (length (field s)) (length s)) ≡ true → NoField s 1
missing_rule s t =
    by_test (eqb (length (field s)) 0)
    (λ u. let z : length (field s) ≡ 0 = eqb-true _ _ u in
    empty s (record { whole = refl; goes = λ i k. absurd (omega arith); ends = subst (λ (n : ℕ). field_ends (drop n s) ≡ true) z (field_stops s) }))
    (λ u. let q : length (field s) ≡ length s = eqb-true _ _ (rw u at t) in
    let d : drop (length (field s)) s ≡ [] = drop_of_length-le s {i = length (field s)} (omega arith) in
    text_ends s (field s) (subst (λ (l : List ℕ). Cut s (field s) l) d (field_cut s)))

field_rule : (at : ℕ) (s : List ℕ) → FieldRule at s (field_number at (length s) (field s))
unfolding field_number judged_digits
field_rule at s =
    let f : List ℕ = field s in
    let left : List ℕ = drop (length f) s in
    let P : Number → Type 0 = FieldRule at s in
    let one : Bool = or (eqb (length f) 0) (eqb (length f) (length s)) in
    let some : one ≡ false → 0 < length f = λ t. let n = eqb-false (length f) 0 (or_left _ _ t) in omega arith in
    let more : one ≡ false → 0 < length left = λ t.
    let n = eqb-false (length f) (length s) (or_right (eqb (length f) 0) _ t) in omega (arith, field-short s, length-drop (length f) s) in
    either P one (missing_rule s)
    (λ t. either P (or (zero_first f) (not (all_digits f)))
    (λ u. by_test (zero_first f) (padded_rule s f left (field_cut s) (more t))
    (λ z. strange s f left (field_cut s) (some t) (more t) (not-true (all_digits f) (rw z at u))))
    (λ u. let z : zero_first f ≡ false = or_left (zero_first f) _ u in
    let d : all_digits f ≡ true = not-false (all_digits f) (or_right (zero_first f) _ u) in
    either P (ltb 65535 (value_from 0 f))
    (λ w. too_large s f left (field_cut s) (some t) (more t) d (unpadded_rule f z) (ltb-true _ _ w))
    (λ w. let l = ltb-false 65535 (value_from 0 f) w in
    stands s f left (field_cut s) (some t) (more t) d (unpadded_rule f z) (omega arith))))

-- Each rule gives its answer.
pub unpadded_by : (f : List ℕ) → ((b : ℕ) (g : List ℕ) → f ≡ 48 ∷ b ∷ g → ⊥) → zero_first f ≡ false
unpadded_by [] h = refl
unpadded_by (b ∷ []) h = refl
unpadded_by (b ∷ x ∷ f) h = ne_eqb b 48 (λ q. h x f (ap (λ (y : ℕ). y ∷ x ∷ f) q))

inside : (s f left : List ℕ) → Cut s f left → 0 < length f → 0 < length left → or (eqb (length f) 0) (eqb (length f) (length s)) ≡ false
inside s f left c h k =
    let a = ne_eqb (length f) 0 (λ z. omega arith) in
    let b = ne_eqb (length f) (length s) (λ z. omega (arith, cut_long s f left c)) in
    rw (a, b)

refused_by : (at : ℕ) (s : List ℕ) (why : ℕ) → NoField s why → field_number at (length s) (field s) ≡ Refused why
unfolding field_number judged_digits pick
refused_by at s why (empty _ c) = rw (cut_field s [] s c)
refused_by at s why (text_ends _ f c) =
    let e : length f ≡ length s = omega (arith, cut_long s f [] c) in
    rw (cut_field s f [] c, eq-eqb (length f) (length s) e, or-true (eqb (length f) 0))
refused_by at s why (padded _ f left b c k) = rw (cut_field s (48 ∷ b ∷ f) left c, inside s (48 ∷ b ∷ f) left c (omega arith) k)
refused_by at s why (strange _ f left c h k d) =
    rw (cut_field s f left c, inside s f left c h k, d, or-true (zero_first f))
refused_by at s why (too_large _ f left c h k d u v) =
    rw (cut_field s f left c, inside s f left c h k, unpadded_by f u, d, lt-ltb 65535 (value_from 0 f) v)

value_by : (at : ℕ) (s : List ℕ) (v e : ℕ) → FieldValue at s v e → field_number at (length s) (field s) ≡ Value v e
unfolding field_number judged_digits pick
value_by at s v e (stands _ f left c h k d u l) =
    rw (cut_field s f left c, inside s f left c h k, unpadded_by f u, d, le-ltb 65535 (value_from 0 f) (omega arith))

-- The answer at a place is the one that the rules give for the text from there on.
pub field_value_exactly : (s : List ℕ) (at v e : ℕ) → (field_at s at ≡ Value v e) ↔ FieldValue at (drop at s) v e
unfolding field_at
field_value_exactly s at v e =
    (λ h. subst (λ (n : Number). FieldRule at (drop at s) n) h (field_rule at (drop at s)), λ h. value_by at (drop at s) v e h)

pub no_field_exactly : (s : List ℕ) (at why : ℕ) → (field_at s at ≡ Refused why) ↔ NoField (drop at s) why
unfolding field_at
no_field_exactly s at why =
    (λ h. subst (λ (n : Number). FieldRule at (drop at s) n) h (field_rule at (drop at s)), λ h. refused_by at (drop at s) why h)
