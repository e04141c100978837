-- A number is read at a place exactly where its digits stand there with an end behind them, and an end is as due exactly where it stands.
use Prim.Native.Nat.{ℕ, ◌+◌, ◌<◌}
use mathlib.Core.Path.{◌≡◌, refl, sym, ◌∙◌, ap, subst}
use mathlib.Core.List.{List, [], ◌∷◌, ◌++◌}
use mathlib.Core.Bool.{Bool, true, false, false≢true}
use native.Mathlib.Omega.{arith}
use lib.ListN.{length, get_or, drop, length-append, length-drop}
use lib.Seq.{drop-append_seam, get_or-drop, drop-drop}
use lib.Dec.{eqb}
use borrow.Author.Tests.{le-ltb, eqb-true, ne_eqb}
use Rattle.basis.specs.Tests.{pick, and, or}
use Rattle.basis.proofs.TestLaws.{by_test, and_both}
use Rattle.basis.proofs.ListLaws.{drop-some}
use Rattle.numeral.specs.Number.{Number}
use Rattle.numeral.specs.Number.{Value, Refused}
use Rattle.numeral.proofs.Runs.{Reads}
use Rattle.decimal.specs.Decimal.{decimal}
use Rattle.sheet.specs.Field.{line_feeds, field_ends, field, value_from, judged_digits, field_number, field_at, Inside}
use Rattle.sheet.specs.Text.{ending}
use Rattle.sheet.specs.Sheet.{end_fault, behind}
use Rattle.sheet.specs.SheetJudging.{FieldValue, stands}
use Rattle.sheet.proofs.FieldRules.{unpadded_by, field_value_exactly}
use Rattle.sheet.proofs.DigitLaws.{decimal_value, decimal_unpadded, decimal-digits, decimal-some, decimal_back, field-digits}

-- The digits of v stand in s from a place up to e, and end there.
pub record DigitsStand (s : List ℕ) (at v e : ℕ) : Type 0 where
  pub small : v < 65536
  pub digits : Reads s at e (decimal v)
  pub inside : e < length s
  pub ends : field_ends (drop e s) ≡ true

digits_by : (s : List ℕ) (at v e : ℕ) → FieldValue at (drop at s) v e → DigitsStand s at v e
digits_by s at v e (stands _ f left c some more d u small) =
    let q : f ≡ decimal (value_from 0 f) = decimal_back f some d (unpadded_by f u) small in
    let rest : left ≡ drop (at + length f) s
    = sym (drop-append_seam f left) ∙ ap (drop (length f)) (sym c.whole) ∙ drop-drop (length f) at s in
    record {
      small = small;
      digits = record { stands = c.whole ∙ ap (λ (g : List ℕ). f ++ g) rest ∙ ap (λ (g : List ℕ). g ++ drop (at + length f) s) q; ends = ap (λ (g : List ℕ). at + length g) q };
      inside = omega (arith, more, ap length rest, length-drop (at + length f) s);
      ends = subst (λ (l : List ℕ). field_ends l ≡ true) rest c.ends;
    }

pub field_back : (s : List ℕ) (at v e : ℕ) → field_at s at ≡ Value v e → DigitsStand s at v e
field_back s at v e h = digits_by s at v e ((field_value_exactly s at v e).0 h)

pub field-within : (s : List ℕ) (at : ℕ) (n : Number) → n ≡ field_at s at → Inside n (length s)
field-within s at (Value v e) h = (field_back s at v e (sym h)).inside
field-within s at (Refused why) h = omega arith

pub field_there : (s : List ℕ) (at v e : ℕ) → DigitsStand s at v e → field_at s at ≡ Value v e
unfolding field_at field_number judged_digits pick
field_there s at v e h =
    let r = h.digits in
    let f : field (drop at s) ≡ decimal v = ap field r.stands ∙ field-digits (decimal v) (drop e s) (decimal-digits v) h.ends in
    let more : length (drop at s) ≡ length (decimal v) + length (drop e s) = ap length r.stands ∙ length-append (decimal v) (drop e s) in
    let q : at + length (decimal v) ≡ e = sym r.ends in
    rw (
      f,
      ne_eqb (length (decimal v)) 0 (λ z. omega (arith, decimal-some v)),
      ne_eqb (length (decimal v)) (length (drop at s)) (λ z. omega (arith, more, length-drop e s, h.inside)),
      decimal_unpadded v h.small,
      decimal-digits v,
      decimal_value v h.small,
      le-ltb 65535 v (omega (arith, h.small)),
      q,
    )

-- The character at a place, by what stands from there on.
first_there : (s : List ℕ) (e x : ℕ) (r : List ℕ) → drop e s ≡ x ∷ r → (e < length s) × (get_or s e 0 ≡ x)
first_there s e x r h =
    let z : e + 0 ≡ e = omega arith in
    let g : get_or (drop e s) 0 0 ≡ get_or s (e + 0) 0 = get_or-drop e s 0 0 in
    let k : get_or (x ∷ r) 0 0 ≡ get_or s e 0 = rw (h, z) at g in
    (omega (arith, ap length h, length-drop e s), sym k)

feed_there : (l : List ℕ) → line_feeds l ≡ true → (0 < length l) × (get_or l 0 0 ≡ 10)
feed_there [] h = absurd (false≢true h)
feed_there (x ∷ r) h = (omega arith, eqb-true x 10 h)

-- An end is as due exactly where it stands.
pub end_stands : (s : List ℕ) (e : ℕ) (last : Bool) → e < length s → field_ends (drop e s) ≡ true → end_fault s e last ≡ 0 → Reads s e (behind e last) (ending last)
unfolding end_fault ending pick field_ends
end_stands s e false h f z =
    by_test (eqb (get_or s e 0) 44)
    (λ t. record { stands = drop-some s e 44 (sym (eqb-true _ _ t)) h; ends = refl })
    (λ t. let o : ◌≡◌ {A = ℕ} 1 0 = rw t at z in absurd (omega arith))
end_stands s e true h f z =
    by_test (eqb (get_or s e 0) 44)
    (λ t. let o : ◌≡◌ {A = ℕ} 10 0 = rw t at z in absurd (omega arith))
    (λ t. let c : ℕ = get_or s e 0 in
    let d : drop e s ≡ c ∷ drop (e + 1) s = drop-some s e c refl h in
    let g : or (eqb c 44) (and (eqb c 13) (line_feeds (drop (e + 1) s))) ≡ true = rw d at f in
    let b = and_both (eqb c 13) (line_feeds (drop (e + 1) s)) (rw t at g) in
    let m = feed_there (drop (e + 1) s) b.1 in
    let l : e + 1 < length s = omega (arith, m.0, length-drop (e + 1) s) in
    let z : e + 1 + 0 ≡ e + 1 = omega arith in
    let x : get_or s (e + 1 + 0) 0 ≡ 10 = sym (get_or-drop (e + 1) s 0 0) ∙ m.1 in
    let n : drop (e + 1) s ≡ 10 ∷ drop (e + 1 + 1) s = drop-some s (e + 1) 10 (sym (rw z at x)) l in
    let two : e + 1 + 1 ≡ e + 2 = omega arith in
    record { stands = d ∙ rw (eqb-true c 13 b.0, n, two); ends = refl })

pub end_there : (s : List ℕ) (e q : ℕ) (last : Bool) → Reads s e q (ending last) → (e < length s) × (field_ends (drop e s) ≡ true) × (end_fault s e last ≡ 0)
unfolding end_fault ending pick field_ends
end_there s e q false r =
    let p = first_there s e 44 (drop q s) r.stands in
    (p.0, rw r.stands, rw p.1)
end_there s e q true r =
    let p = first_there s e 13 (10 ∷ drop q s) r.stands in
    (p.0, rw r.stands, rw p.1)
