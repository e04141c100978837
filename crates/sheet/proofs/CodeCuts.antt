-- What a cutting of the code tells, turn by turn, and that what stops it has no values of its own.
use Prim.Native.Nat.{ℕ, zero, suc, ◌+◌}
use mathlib.Core.Path.{◌≡◌, refl, ap, sym, ◌∙◌, subst}
use mathlib.Core.Bool.{Bool, true, false}
use mathlib.Core.List.{List}
use native.Mathlib.Omega.{arith}
use lib.ListN.{get_or, set, take}
use lib.Dec.{eqb}
use borrow.Author.Tests.{ne_eqb}
use Rattle.std.specs.Prelude.{Option, None, Some}
use Rattle.basis.specs.Tests.{pick}
use Rattle.basis.specs.Refusals.{number}
use Rattle.basis.specs.declared.refusal.Refusal.{Refusal}
use Rattle.basis.proofs.RefusalLaws.{number-positive}
use Rattle.basis.proofs.TestLaws.{by_test, either}
use Rattle.numeral.specs.Number.{Number, Value, Refused}
use Rattle.sheet.specs.declared.Stop.{Stop}
use Rattle.sheet.specs.declared.Stop.TheVariants.{NoNumber, WrongEnd}
use Rattle.sheet.specs.declared.Cutting.{Cutting as TheCutting}
use Rattle.sheet.specs.Field.{field_at}
use Rattle.sheet.specs.Text.{line_over}
use Rattle.sheet.specs.Sheet.{end_fault, behind}
use Rattle.sheet.specs.SheetJudging.{NoField, empty, text_ends, padded, strange, too_large}
use Rattle.sheet.specs.Scan.{Cutting, stop_why, stop_place, stop_ended, cut_of, told_cut, number_cut, field_cut, goes_on, turned, scanned}
use Rattle.sheet.proofs.FieldRules.{no_field_exactly}

positive-not : (why : Refusal) → eqb (number why) 0 ≡ false
positive-not why = ne_eqb (number why) 0 (λ z. omega (arith, z, number-positive why))

-- What tells, told again, tells the same.
pub told_twice : (c : Cutting) → told_cut (told_cut c) ≡ told_cut c
unfolding pick
told_twice c = by_test (eqb c.refusal 0) (λ e. rw e) (λ e. rw e)

-- A cutting of the code tells all that it is.
told_stop : (n k : ℕ) (ns : List ℕ) (stop : Option Stop) →
    told_cut (cut_of (record { stop = stop; next = n; count = k; numbers = ns })) ≡ cut_of (record { stop = stop; next = n; count = k; numbers = ns })
unfolding pick
told_stop n k ns None = refl
told_stop n k ns (Some (NoNumber why)) = rw (positive-not why)
told_stop n k ns (Some (WrongEnd f)) = rw (positive-not f.why)

pub told_all : (c : TheCutting) → told_cut (cut_of c) ≡ cut_of c
told_all c = told_stop c.next c.count c.numbers c.stop

-- A number more, with its end.
pub number-so : (s : List ℕ) (c : Cutting) (v e : ℕ) {last : Bool} → last ≡ line_over (take (c.count + 1) (set c.numbers c.count v))
    → (stop : Option Stop) → stop_why stop ≡ end_fault s e last → ((n : ℕ) → stop_place n stop ≡ pick (eqb (end_fault s e last) 0) 0 e)
    → stop_ended stop ≡ pick (eqb (end_fault s e last) 0) false true → (next : ℕ) → next ≡ behind e last
    → cut_of (record { stop = stop; next = next; count = c.count + 1; numbers = set c.numbers c.count v }) ≡ told_cut (number_cut s c v e)
unfolding number_cut
number-so s c v e {last} l stop w p d next n =
    let P : Bool → Type 0 = λ b.
    ◌≡◌ {A = Cutting} (record { refusal = end_fault s e last; place = pick (eqb (end_fault s e last) 0) 0 e; ended = pick (eqb (end_fault s e last) 0) false true; next = behind e last; count = c.count + 1; numbers = set c.numbers c.count v })
    (record { refusal = end_fault s e b; place = pick (eqb (end_fault s e b) 0) 0 e; ended = pick (eqb (end_fault s e b) 0) false true; next = behind e b; count = c.count + 1; numbers = set c.numbers c.count v }) in
    (λ i. record { refusal = w i; place = p next i; ended = d i; next = n i; count = c.count + 1; numbers = set c.numbers c.count v }) ∙ subst P l refl

-- One turn of the code: it rests, cuts a number, or stops at a field that is none.
module _ (s : List ℕ) (c : TheCutting) where
  pub turn_rests : goes_on (cut_of c) ≡ false → cut_of c ≡ told_cut (turned s (cut_of c))
  unfolding turned pick
  turn_rests e = rw e (sym (told_all c))

  module _ (g : goes_on (cut_of c) ≡ true) where
    pub turn_cuts : {v e : ℕ} {d : Cutting} → Value v e ≡ field_at s c.next → d ≡ told_cut (number_cut s (cut_of c) v e) → d ≡ told_cut (turned s (cut_of c))
    unfolding turned pick
    turn_cuts f q = rw (g, ← f) q

    pub turn-stops : (why : Refusal) → Refused (number why) ≡ field_at s c.next
        → cut_of (record { stop = Some (NoNumber why); next = c.next; count = c.count; numbers = c.numbers }) ≡ told_cut (turned s (cut_of c))
    unfolding turned pick
    turn-stops why f = rw (g, ← f, positive-not why)

-- A turn tells what it would from what is told.
told-field : (s : List ℕ) (c : Cutting) (x : Number) → field_cut s (told_cut c) x ≡ field_cut s c x
unfolding number_cut
told-field s c (Value v e) = refl
told-field s c (Refused why) = refl

pick-told : (b : Bool) (x y z w : Cutting) → told_cut x ≡ told_cut y → told_cut z ≡ told_cut w → told_cut (pick b x z) ≡ told_cut (pick b y w)
unfolding pick
pick-told true x y z w p q = p
pick-told false x y z w p q = q

pub told-turned : (s : List ℕ) (c : Cutting) → told_cut (turned s (told_cut c)) ≡ told_cut (turned s c)
unfolding turned goes_on
told-turned s c = pick-told (goes_on c) _ _ _ _ (ap told_cut (told-field s c (field_at s c.next))) (told_twice c)

pub scan-next : {c : Cutting} (s : List ℕ) (d : TheCutting) (i : ℕ) → c ≡ told_cut (turned s (cut_of d)) → cut_of d ≡ told_cut (scanned s i) → c ≡ told_cut (scanned s (i + 1))
unfolding scanned
scan-next s d i e f =
    let q : suc i ≡ i + 1 = omega arith in
    e ∙ ap (λ (x : Cutting). told_cut (turned s x)) f ∙ told-turned s (scanned s i) ∙ ap (λ (n : ℕ). told_cut (scanned s n)) q

-- Nothing that stops the cutting is 7.
pub no_field-few : (s : List ℕ) (why : ℕ) → NoField s why → why ≡ 7 → ⊥
no_field-few s why (empty _ c) z = omega arith
no_field-few s why (text_ends _ f c) z = omega arith
no_field-few s why (padded _ f left b c k) z = omega arith
no_field-few s why (strange _ f left c h k d) z = omega arith
no_field-few s why (too_large _ f left c h k d u v) z = omega arith

end-few : (s : List ℕ) (e : ℕ) (last : Bool) → end_fault s e last ≡ 7 → ⊥
unfolding end_fault pick
end-few s e true = either (λ (n : ℕ). n ≡ 7 → ⊥) (eqb (get_or s e 0) 44) (λ t z. omega arith) (λ t z. omega arith)
end-few s e false = either (λ (n : ℕ). n ≡ 7 → ⊥) (eqb (get_or s e 0) 44) (λ t z. omega arith) (λ t z. omega arith)

field-few : (s : List ℕ) (c : Cutting) (x : Number) → field_at s c.next ≡ x → (field_cut s c x).refusal ≡ 7 → ⊥
unfolding number_cut
field-few s c (Value v e) f = end-few s e _
field-few s c (Refused why) f = no_field-few _ why ((no_field_exactly s c.next why).0 f)

pub no_seven : (s : List ℕ) (n : ℕ) → (scanned s n).refusal ≡ 7 → ⊥
unfolding scanned turned
no_seven s zero = λ z. omega arith
no_seven s (suc n) =
    either (λ (c : Cutting). c.refusal ≡ 7 → ⊥) (goes_on (scanned s n)) (λ e. field-few s (scanned s n) _ refl) (λ e. no_seven s n)
