-- A field character by character: where it ends, whether it is digits, and its value.
use Prim.Native.Nat.{ℕ, suc, ◌+◌, ◌-◌, ◌*◌, ◌≤◌, ◌<◌, max}
use mathlib.Core.Path.{◌≡◌, refl, sym, ◌∙◌, ap}
use mathlib.Core.List.{List, [], ◌∷◌}
use mathlib.Core.Bool.{true, false, true≢false}
use native.Mathlib.Omega.{arith}
use lib.ListN.{length, get_or, take, drop, length-drop, drop_of_length-le}
use lib.Seq.{take-length}
use lib.Dec.{eqb, ltb, leb}
use borrow.Author.Tests.{le-leb, leb-true, ltb-true, ltb-false, lt-ltb, le-ltb, eq-eqb, ne_eqb}
use Rattle.std.specs.List.{list_all}
use Rattle.std.specs.Char.{is_ascii_digit}
use Rattle.basis.specs.Tests.{pick, and}
use Rattle.basis.proofs.TestLaws.{by_test, and_both, or-true}
use Rattle.basis.proofs.ListLaws.{drop-some}
use Rattle.std.specs.Prelude.{Result, Ok, Err}
use Rattle.std.specs.Result.{IsErrAnd}
use Rattle.basis.specs.Refusals.{number}
use Rattle.basis.specs.declared.refusal.Refusal.{Refusal}
use Rattle.numeral.specs.declared.Numeral.{Numeral}
use Rattle.numeral.specs.Number.{Number, Value, Refused, given}
use Rattle.sheet.specs.Field.{field_ends, field, is_digit, all_digits, zero_first, value_from, judged_digits, field_number, field_at}

-- The end of a text ends a field.
pub ends_last : (s : List ℕ) (at : ℕ) → length s ≤ at → field_ends (drop at s) ≡ true
unfolding field_ends
ends_last s at h = rw (drop_of_length-le s h)

-- A field that ends at once is empty; another has the character there, and goes on behind it.
pub field_nil : (l : List ℕ) → field_ends l ≡ true → field l ≡ []
unfolding field pick
field_nil [] e = refl
field_nil (b ∷ s) e = rw e

field-goes : (b : ℕ) (s : List ℕ) → field_ends (b ∷ s) ≡ false → length (field (b ∷ s)) ≡ suc (length (field s))
unfolding field pick
field-goes b s e = rw e

field-inside : (s : List ℕ) (at : ℕ) → field_ends (drop at s) ≡ false → at < length s
field-inside s at e =
    by_test (ltb at (length s)) (λ t. ltb-true _ _ t)
    (λ t. absurd (true≢false (sym (ends_last s at (ltb-false _ _ t)) ∙ e)))

field_open : (s : List ℕ) (at : ℕ) → field_ends (drop at s) ≡ false → length (field (drop at s)) ≡ length (field (drop (at + 1) s)) + 1
field_open s at e =
    let d : drop at s ≡ get_or s at 0 ∷ drop (at + 1) s = drop-some s at (get_or s at 0) refl (field-inside s at e) in
    let f : field_ends (get_or s at 0 ∷ drop (at + 1) s) ≡ false = rw d at e in
    rw d (omega (arith, field-goes (get_or s at 0) (drop (at + 1) s) f))

-- A field stands at the front of its text, and ends there.
pub field-front : (l : List ℕ) → field l ≡ take (length (field l)) l
unfolding field pick
field-front [] = refl
field-front (b ∷ s) =
    by_test (field_ends (b ∷ s)) (λ e. rw e) (λ e. rw e (ap (λ (f : List ℕ). b ∷ f) (field-front s)))

pub field-short : (l : List ℕ) → length (field l) ≤ length l
unfolding field pick
field-short [] = omega arith
field-short (b ∷ s) =
    by_test (field_ends (b ∷ s)) (λ e. rw e (omega arith)) (λ e. rw e (omega (arith, field-short s)))

pub field_stops : (l : List ℕ) → field_ends (drop (length (field l)) l) ≡ true
unfolding field pick
field_stops [] = ends_last [] 0 (omega arith)
field_stops (b ∷ s) = by_test (field_ends (b ∷ s)) (λ e. rw e e) (λ e. rw e (field_stops s))

-- Digits, one after the other.
digits-next : (f : List ℕ) (i b : ℕ) → b ≡ get_or f i 0 → i < length f → all_digits (drop i f) ≡ and (is_digit b) (all_digits (drop (i + 1) f))
unfolding all_digits
digits-next f i b e h = rw (drop-some f i b e h)

pub is_digit-within : (b : ℕ) → 48 ≤ b → b ≤ 57 → is_digit b ≡ true
is_digit-within b h k = rw (le-leb 48 b h) (le-leb b 57 k)

-- A digit of digits, and the digits behind it.
pub digit_at : (f : List ℕ) (i b : ℕ) → b ≡ get_or f i 0 → i < length f → all_digits (drop i f) ≡ true
    → (48 ≤ b) × (b ≤ 57) × (all_digits (drop (i + 1) f) ≡ true)
digit_at f i b e h a =
    let p = and_both (is_digit b) (all_digits (drop (i + 1) f)) (sym (digits-next f i b e h) ∙ a) in
    let q = and_both (leb 48 b) (leb b 57) p.0 in
    (leb-true 48 b q.0, leb-true b 57 q.1, p.1)

-- The value, one digit more, and that it only grows.
value_next : (f : List ℕ) (i b v : ℕ) → b ≡ get_or f i 0 → i < length f → value_from v (drop i f) ≡ value_from (v * 10 + (b - 48)) (drop (i + 1) f)
unfolding value_from
value_next f i b v e h = rw (drop-some f i b e h)

value_end : (f : List ℕ) (i v : ℕ) → length f ≤ i → value_from v (drop i f) ≡ v
unfolding value_from
value_end f i v h = rw (drop_of_length-le f h)

pub value_grows : (f : List ℕ) (v : ℕ) → v ≤ value_from v f
unfolding value_from
value_grows [] v = omega arith
value_grows (b ∷ f) v = omega (arith, value_grows f (v * 10 + (b - 48)))

-- A zero before another character, by the length.
pub padded_long : (f : List ℕ) → 2 ≤ length f → zero_first f ≡ eqb (get_or f 0 0) 48
padded_long [] h = absurd (omega arith)
padded_long (b ∷ []) h = absurd (omega arith)
padded_long (b ∷ c ∷ f) h = refl

-- The field at a place, by its end.
module _ (s : List ℕ) (at end : ℕ) (e : end ≡ at + length (field (drop at s))) where
  pub field-empty : end ≡ at → Refused 1 ≡ field_at s at
  unfolding field_at field_number pick
  field-empty q =
      let z : length (field (drop at s)) ≡ 0 = omega arith in
      rw (eq-eqb (length (field (drop at s))) 0 z)

  pub field_cut-short : length s ≤ end → Refused 1 ≡ field_at s at
  unfolding field_at field_number pick
  field_cut-short l =
      let z : length (field (drop at s)) ≡ length (drop at s) = omega (arith, field-short (drop at s), length-drop at s) in
      rw (eq-eqb (length (field (drop at s))) (length (drop at s)) z, or-true (eqb (length (field (drop at s))) 0))

  pub field-judged : (end ≡ at → ⊥) → end < length s → judged_digits end (take (end - at) (drop at s)) ≡ field_at s at
  unfolding field_at field_number pick
  field-judged p l =
      let f : List ℕ = field (drop at s) in
      let q : end - at ≡ length f = omega arith in
      let a = ne_eqb (length f) 0 (λ z. omega arith) in
      let b = ne_eqb (length f) (length (drop at s)) (λ z. omega (arith, length-drop at s)) in
      rw (q, ← field-front (drop at s), a, b, e)

-- The number of digits by its tests.
module _ (end : ℕ) (f : List ℕ) where
  pub judged-padded : zero_first f ≡ true → Refused 2 ≡ judged_digits end f
  unfolding judged_digits pick
  judged-padded z = rw z

  module _ (z : zero_first f ≡ false) where
    pub judged_strange : all_digits f ≡ false → Refused 2 ≡ judged_digits end f
    unfolding judged_digits pick
    judged_strange d = rw (z, d)

    module _ (d : all_digits f ≡ true) where
      pub judged_over : {n : ℕ} → n ≡ 3 → 65535 < value_from 0 f → Refused n ≡ judged_digits end f
      unfolding judged_digits pick
      judged_over e h = rw (e, z, d, lt-ltb 65535 (value_from 0 f) h)

      pub judged_value : {v : ℕ} → v ≡ value_from 0 f → v ≤ 65535 → Value v end ≡ judged_digits end f
      unfolding judged_digits pick
      judged_value {v} e h = rw (z, d, ← e, le-ltb 65535 v h)

-- The walk along a field stands at end.
module _ (s : List ℕ) (at end : ℕ) (e : end + length (field (drop end s)) ≡ at + length (field (drop at s))) where
  pub along_open : field_ends (drop end s) ≡ false → end + 1 + length (field (drop (end + 1) s)) ≡ at + length (field (drop at s))
  along_open o = omega (arith, e, field_open s end o)

  pub along_shut : field_ends (drop end s) ≡ true → end ≡ at + length (field (drop at s))
  along_shut t = omega (arith, e, ap length (field_nil (drop end s) t))

  pub along_end : length s ≤ end → end ≡ at + length (field (drop at s))
  along_end h = along_shut (ends_last s end h)

-- Behind the end of a text a field is empty.
pub field_past : (s : List ℕ) (at : ℕ) → length s ≤ at → length (field (drop at s)) ≡ 0
field_past s at h = ap length (field_nil (drop at s) (ends_last s at h))

pub end_so : (s : List ℕ) (at end m : ℕ) → end + length (field (drop end s)) ≡ at + length (field (drop at s)) → length s ≤ end → (at ≤ length s → end ≤ length s)
    → m ≡ max at (length s) → m ≡ at + length (field (drop at s))
end_so s at end m e h k q =
    by_test (ltb (length s) at)
    (λ t. omega (arith, q, field_past s at (omega (arith, ltb-true (length s) at t)), ltb-true (length s) at t))
    (λ t. omega (arith, q, h, k (ltb-false (length s) at t), along_end s at end e h, ltb-false (length s) at t))

-- What `?` hands on is the refusal that it was given.
pub handed_on : {x : Number} (r : Result Numeral Refusal) (why : Refusal) → IsErrAnd r (λ y. y ≡ why) → Refused (number why) ≡ x → given r ≡ x
handed_on (Ok n) why h p = absurd h
handed_on (Err y) why h p = ap (λ (z : Refusal). Refused (number z)) h ∙ p

-- All that is left of a text from a place on.
pub drop_all : (s : List ℕ) (i : ℕ) → take (length s - i) (drop i s) ≡ drop i s
drop_all s i = ap (λ (n : ℕ). take n (drop i s)) (sym (length-drop i s)) ∙ take-length (drop i s)

-- Digits, as the library tests them.
ascii : (b : ℕ) → is_ascii_digit b ≡ is_digit b
ascii b = by_test (leb 48 b) (λ e. rw e) (λ e. rw e)

pub digits-all : (f : List ℕ) → list_all is_ascii_digit f ≡ all_digits f
unfolding all_digits
digits-all [] = refl
digits-all (b ∷ f) = by_test (is_digit b) (λ e. rw (ascii b, e) (digits-all f)) (λ e. rw (ascii b, e))

-- One turn over the digits of a value, and the last.
module _ (f : List ℕ) (i v : ℕ) (e : value_from v (drop i f) ≡ value_from 0 f) where
  pub value_over : (b : ℕ) → b ≡ get_or f i 0 → i < length f → 65535 < v * 10 + (b - 48) → 65535 < value_from 0 f
  value_over b q h l = omega (arith, e, value_next f i b v q h, value_grows (drop (i + 1) f) (v * 10 + (b - 48)))

  pub value_on : (b : ℕ) → b ≡ get_or f i 0 → i < length f → value_from (v * 10 + (b - 48)) (drop (i + 1) f) ≡ value_from 0 f
  value_on b q h = sym (value_next f i b v q h) ∙ e

  pub value_done : length f ≤ i → v ≡ value_from 0 f
  value_done h = sym (value_end f i v h) ∙ e
