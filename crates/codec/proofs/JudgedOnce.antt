-- The rules say one thing only: of two lists of numbers that the bytes start with the longer goes on where the shorter ends, and no list that ends a judgment goes on.
use Prim.Native.Nat.{ℕ, zero, suc, ◌≤◌, ◌<◌}
use mathlib.Core.Path.{◌≡◌, refl, ap, sym, ◌∙◌}
use mathlib.Core.Bool.{true}
use mathlib.Core.List.{List, [], ◌∷◌}
use native.Mathlib.Omega.{arith}
use lib.ListN.{length, get_or, take}
use lib.Seq.{take-suc, take-length}
use lib.Dec.{ltb}
use borrow.Author.Tests.{ltb-true, ltb-false, lt-ltb, le-ltb}
use Rattle.basis.specs.Tests.{pick}
use Rattle.basis.specs.Told.{Told, answered}
use Rattle.basis.proofs.TestLaws.{by_test, refuted}
use Rattle.numeral.specs.Number.{Number, Value, Refused, number_at}
use Rattle.numeral.proofs.RuleLaws.{number_exactly}
use Rattle.codec.specs.Judging.{objection, wanted, Before, place, Judgment, no_number, objected, extra, all_read}
use Rattle.codec.proofs.BeforeLaws.{before-number}

-- The numbers go on after vs: another is wanted, stands there and is not objected to.
record GoesOn (s vs : List ℕ) : Type 0 where
  wants : wanted vs ≡ true
  value : ℕ
  next : ℕ
  reads : number_at s (place vs) ≡ Value value next
  passed : objection vs value ≡ answered []

value_same : {n : Number} {v w p q : ℕ} → n ≡ Value v p → n ≡ Value w q → v ≡ w
value_same e f = cc

no_value : {A : Type 0} {n : Number} {w v p : ℕ} → n ≡ Refused w → n ≡ Value v p → A
no_value e f = let z : ◌≡◌ {A = ℕ} 0 1 = cc in absurd (omega arith)

-- What is told at the end vs.
number-told : List ℕ → Number → Told
number-told vs (Value v next) = record { number = (objection vs v).number; values = place vs ∷ (objection vs v).values }
number-told vs (Refused why) = record { number = why; values = place vs ∷ [] }

end_told : List ℕ → List ℕ → Told
end_told s vs =
    pick (wanted vs) (number-told vs (number_at s (place vs)))
    (pick (ltb (place vs) (length s)) (record { number = 10; values = place vs ∷ [] }) (answered []))

-- A judgment tells this of an end where the numbers do not go on.
record End (s : List ℕ) (o : Told) : Type 0 where
  numbers : List ℕ
  before : Before s numbers
  ends : GoesOn s numbers → ⊥
  told : o ≡ end_told s numbers

end_of : (s : List ℕ) (o : Told) → Judgment s o → End s o
unfolding end_told number-told pick
end_of s o (no_number vs why b w e) =
    let f : number_at s (place vs) ≡ Refused why = (number_exactly s (place vs) (Refused why)).1 e in
    record { numbers = vs; before = b; ends = λ g. no_value f g.reads; told = rw (w, f) }
end_of s o (objected vs v next b w e h) =
    let f : number_at s (place vs) ≡ Value v next = (number_exactly s (place vs) (Value v next)).1 e in
    record {
      numbers = vs;
      before = b;
      ends = λ g.
          let q : objection vs v ≡ answered [] = rw (value_same f g.reads) g.passed in
          omega (arith, ap (λ (t : Told). t.number) q);
      told = rw (w, f);
    }
end_of s o (extra vs b w h) = record {
  numbers = vs;
  before = b;
  ends = λ g. refuted g.wants w;
  told = rw (w, lt-ltb (place vs) (length s) h);
}
end_of s o (all_read vs b w e) = record {
  numbers = vs;
  before = b;
  ends = λ g. refuted g.wants w;
  told = rw (w, le-ltb (place vs) (length s) (omega arith));
}

module _ (s vs ws : List ℕ) (b : Before s vs) (c : Before s ws) where
  -- As far as both go, they are the same.
  same-front : (k : ℕ) → k ≤ length vs → k ≤ length ws → take k vs ≡ take k ws
  same-front zero h l = refl
  same-front (suc k) h l =
      let e : take k vs ≡ take k ws = same-front k (omega arith) (omega arith) in
      let v : get_or vs k 0 ≡ get_or ws k 0 = value_same (rw e at (before-number b k h)) (before-number c k l) in
      rw (take-suc vs k 0 h, take-suc ws k 0 l, e, v)

  -- The longer goes on where the shorter ends.
  goes_on : length vs < length ws → GoesOn s vs
  goes_on h =
      let e : take (length vs) ws ≡ vs = sym (same-front (length vs) (omega arith) (omega arith)) ∙ take-length vs in
      record {
        wants = rw e at (c.wants (length vs) h);
        value = get_or ws (length vs) 0;
        next = _;
        reads = rw e at (before-number c (length vs) h);
        passed = rw e at (c.passed (length vs) h);
      }

same_end : (s vs ws : List ℕ) → Before s vs → Before s ws → (GoesOn s vs → ⊥) → (GoesOn s ws → ⊥) → vs ≡ ws
same_end s vs ws b c p q =
    by_test (ltb (length vs) (length ws)) (λ t. absurd (p (goes_on s vs ws b c (ltb-true _ _ t))))
    (λ t. by_test (ltb (length ws) (length vs)) (λ u. absurd (q (goes_on s ws vs c b (ltb-true _ _ u))))
    (λ u. let e : length vs ≡ length ws = omega (arith, ltb-false (length vs) (length ws) t, ltb-false (length ws) (length vs) u) in
    sym (take-length vs) ∙ same-front s vs ws b c (length vs) (omega arith) (omega arith) ∙ rw e (take-length ws)))

-- No second judgment fits.
pub judged-once : (s : List ℕ) (o p : Told) → Judgment s o → Judgment s p → o ≡ p
judged-once s o p f g =
    let x : End s o = end_of s o f in
    let y : End s p = end_of s p g in
    x.told ∙ ap (end_told s) (same_end s x.numbers y.numbers x.before y.before x.ends y.ends) ∙ sym y.told
