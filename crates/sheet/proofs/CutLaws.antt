-- Cutting a text into numbers, field by field: what is cut stays, and after a fault nothing more is cut.
use Prim.Native.Nat.{ℕ, zero, suc, ◌+◌, ◌*◌, ◌≤◌, ◌<◌}
use mathlib.Core.Path.{◌≡◌, refl, ap, sym, ◌∙◌, subst}
use mathlib.Core.Bool.{true, false, not}
use mathlib.Core.List.{List, [], ◌∷◌, ◌++◌, append-nil, append_assoc}
use native.Mathlib.Omega.{arith}
use native.Mathlib.Nat.{add-zero, add-suc}
use native.Mathlib.Numerals.{add-one}
use lib.ListN.{length, length-set}
use lib.Seq.{length-take-le, take-suc-set}
use lib.Dec.{eqb, ltb}
use borrow.Author.Tests.{eqb-true, ltb-true, ne_eqb}
use Rattle.basis.specs.Tests.{pick}
use Rattle.basis.proofs.TestLaws.{either, and_both, and-false}
use Rattle.numeral.specs.Number.{Number}
use Rattle.numeral.specs.Number.{Value, Refused}
use Rattle.codec.specs.Judging.{wanted}
use Rattle.sheet.specs.Field.{field_at}
use Rattle.sheet.specs.Sheet.{most_numbers}
use Rattle.sheet.specs.Scan.{Cutting, told_cut, cut_numbers, number_cut, none_cut, field_cut, goes_on, turned, scanned, cut_bytes, ends_wrong}
use Rattle.sheet.proofs.FieldRuns.{field_back}
use Rattle.sheet.proofs.EncodeLaws.{Low, low_none, low_next, all_short}

-- There is room for what was cut, and each number is below 65,536.
pub record Kept (c : Cutting) : Type 0 where
  pub long : length c.numbers ≡ most_numbers
  pub short : c.count ≤ most_numbers
  pub low : Low (cut_numbers c)

-- One field more is wanted.
pub record Going (c : Cutting) : Type 0 where
  pub fine : c.refusal ≡ 0
  pub room : c.count < most_numbers
  pub wants : wanted (cut_numbers c) ≡ true

pub going : (c : Cutting) → goes_on c ≡ true → Going c
unfolding goes_on
going c e =
    let p = and_both (eqb c.refusal 0) _ e in
    let q = and_both (ltb c.count most_numbers) _ p.1 in
    record { fine = eqb-true _ _ p.0; room = ltb-true _ _ q.0; wants = q.1 }

pub kept-count : {c : Cutting} → Kept c → length (cut_numbers c) ≡ c.count
kept-count {c} k = length-take-le c.count c.numbers (omega (arith, k.long, k.short))

-- A number more stands behind those that were cut.
pub cut-next : (s : List ℕ) (c : Cutting) (v e : ℕ) → Kept c → Going c → cut_numbers (number_cut s c v e) ≡ cut_numbers c ++ (v ∷ [])
unfolding number_cut
cut-next s c v e k g = rw add-one (take-suc-set c.numbers c.count v (omega (arith, k.long, g.room)))

-- What holds of a cutting, and after a field more if there is one to be cut, holds after a turn.
turned_by : (P : Cutting → Type 0) (s : List ℕ) (c : Cutting) → P c → ((why : ℕ) → Going c → P (none_cut c why))
    → ((v e : ℕ) → Going c → field_at s c.next ≡ Value v e → P (number_cut s c v e)) → P (turned s c)
unfolding turned
turned_by P s c here none number =
    either P (goes_on c) (λ t. go (field_at s c.next) refl (going c t)) (λ t. here)
  where
    go : (x : Number) → field_at s c.next ≡ x → Going c → P (field_cut s c x)
    go (Value v e) f g = number v e g f
    go (Refused why) f g = none why g

number-kept : (s : List ℕ) (c : Cutting) (v e : ℕ) → Kept c → Going c → v < 65536 → Kept (number_cut s c v e)
unfolding number_cut
number-kept s c v e k g l = record {
  long = length-set c.numbers c.count v ∙ k.long;
  short = omega (arith, g.room);
  low = subst Low (sym (cut-next s c v e k g)) (low_next (cut_numbers c) v k.low l);
}

turned-kept : (s : List ℕ) (c : Cutting) → Kept c → Kept (turned s c)
turned-kept s c k =
    turned_by Kept s c k (λ why g. record { long = k.long; short = k.short; low = k.low })
    (λ v e g f. number-kept s c v e k g (field_back s c.next v e f).small)

pub scan_kept : (s : List ℕ) (n : ℕ) → Kept (scanned s n)
unfolding scanned
scan_kept s zero = record { long = refl; short = omega arith; low = low_none }
scan_kept s (suc n) = turned-kept s (scanned s n) (scan_kept s n)

-- The numbers that were cut stay the first.
pub record Grown (c d : Cutting) : Type 0 where
  pub rest : List ℕ
  pub whole : cut_numbers d ≡ cut_numbers c ++ rest

turned-grown : (s : List ℕ) (b c : Cutting) → Kept c → Grown b c → Grown b (turned s c)
turned-grown s b c k g =
    turned_by (Grown b) s c g (λ why o. record { rest = g.rest; whole = g.whole })
    (λ v e o f. record {
      rest = g.rest ++ (v ∷ []);
      whole = cut-next s c v e k o ∙ ap (λ (l : List ℕ). l ++ (v ∷ [])) g.whole ∙ append_assoc (cut_numbers b) g.rest (v ∷ []);
    })

pub scan_grown : (s : List ℕ) (n m : ℕ) → Grown (scanned s n) (scanned s (n + m))
unfolding scanned
scan_grown s n zero = rw add-zero (record { rest = []; whole = sym (append-nil (cut_numbers (scanned s n))) })
scan_grown s n (suc m) = rw (add-suc n m) (turned-grown s (scanned s n) (scanned s (n + m)) (scan_kept s (n + m)) (scan_grown s n m))

-- Where nothing more is to be cut, nothing is.
pub scan_rests : (s : List ℕ) (n m : ℕ) → goes_on (scanned s n) ≡ false → scanned s (n + m) ≡ scanned s n
unfolding scanned turned pick
scan_rests s n zero e = ap (scanned s) (add-zero n)
scan_rests s n (suc m) e =
    let r = scan_rests s n m e in
    ap (scanned s) (add-suc n m) ∙ ap (turned s) r ∙ rw e

-- The end of number n is as due, once it is cut.
pub record Past (n : ℕ) (c : Cutting) : Type 0 where
  pub cut : n < c.count
  pub right : ends_wrong c n ≡ false

turned_past : (s : List ℕ) (n : ℕ) (c : Cutting) → Past n c → Past n (turned s c)
unfolding number_cut ends_wrong
turned_past s n c p =
    turned_by (Past n) s c p (λ why g. record { cut = p.cut; right = refl })
    (λ v e g f. record { cut = omega (arith, p.cut); right = rw (ne_eqb (c.count + 1) (n + 1) (λ z. omega (arith, p.cut, z))) (and-false (not (eqb (number_cut s c v e).refusal 0))) })

pub scan_past : (s : List ℕ) (k n m : ℕ) → Past k (scanned s n) → Past k (scanned s (n + m))
unfolding scanned
scan_past s k n zero p = rw add-zero p
scan_past s k n (suc m) p = rw (add-suc n m) (turned_past s k (scanned s (n + m)) (scan_past s k n m p))

-- The bytes of what was cut have room in three for each number.
pub cut_short : (s : List ℕ) (c : Cutting) → c ≡ told_cut (scanned s most_numbers) → Kept c × (length (cut_bytes c) ≤ 3 * most_numbers)
cut_short s c e =
    let m : Kept (scanned s most_numbers) = scan_kept s most_numbers in
    let k : Kept c = subst Kept (sym e) (record { long = m.long; short = m.short; low = m.low }) in
    (k, omega (arith, all_short (cut_numbers c), kept-count k, k.short))
