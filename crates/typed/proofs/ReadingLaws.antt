-- A word is read as people read it: a number where it has a character and each one is a digit, and its value is that of its digits.
use Prim.Native.Nat.{ℕ, ◌+◌, ◌-◌, ◌*◌, ◌≤◌, ◌<◌, min}
use mathlib.Core.Path.{◌≡◌, refl, sym, ◌∙◌, ap}
use mathlib.Core.List.{List, [], ◌∷◌}
use mathlib.Core.Bool.{Bool, true, false, not, true≢false}
use native.Mathlib.Omega.{arith}
use native.Mathlib.Nat.{min-eq_left, min-eq_right}
use lib.Dec.{eqb, ltb}
use borrow.Author.Tests.{eqb-true, eqb-false, ltb-true, ltb-false, lt-ltb, le-ltb, ne_eqb}
use Rattle.basis.specs.Tests.{pick, and, or}
use Rattle.basis.proofs.TestLaws.{by_test, both_ways, and_both, and-of, and-false, or-true}
use Rattle.typed.specs.Fields.{Field, most, is_digit, grown, is_strange, blank, taken}
use Rattle.typed.specs.Numbers.{Number, NoNumber, is_plain, spelt, plain, argument, all_digits, value_from, argument_read}
use Rattle.typed.proofs.FieldLaws.{pick_first, pick_second, digit_low, digit_small}

-- The value grows as the digits' own, and stays at the largest that is told.
grown_small : (v b : ℕ) → is_digit b ≡ true → v < 100000000000000000 → grown (min v most) b ≡ min (v * 10 + (b - 48)) most
unfolding grown pick
grown_small v b e h =
    let m : min v most ≡ v = min-eq_left (omega arith) in
    let n : min (v * 10 + (b - 48)) most ≡ v * 10 + (b - 48) = min-eq_left (omega (arith, digit_small b e)) in
    rw (e, m, lt-ltb v 100000000000000000 h) (sym n)

grown-large : (v b : ℕ) → is_digit b ≡ true → 100000000000000000 ≤ v → grown (min v most) b ≡ min (v * 10 + (b - 48)) most
unfolding grown pick
grown-large v b e h =
    let l : 100000000000000000 ≤ min v most = by_test (ltb v most)
    (λ t. rw (min-eq_left {n = v} {m = most} (omega (arith, ltb-true v most t))) h)
    (λ t. rw (min-eq_right {n = most} {m = v} (ltb-false v most t)) (omega arith)) in
    let n : min (v * 10 + (b - 48)) most ≡ most = min-eq_right (omega arith) in
    rw (e, le-ltb (min v most) 100000000000000000 l) (sym n)

pub grown-drawn : (v b : ℕ) → is_digit b ≡ true → grown (min v most) b ≡ min (v * 10 + (b - 48)) most
grown-drawn v b e =
    by_test (ltb v 100000000000000000) (λ t. grown_small v b e (ltb-true _ _ t)) (λ t. grown-large v b e (ltb-false _ _ t))

-- A field of digits only, whose own value is v.
record Digits (f : Field) (v : ℕ) : Type 0 where
  some : 0 < f.size
  only : f.strange ≡ false
  unsigned : eqb f.first 0x2D ≡ false
  value : f.value ≡ min v most

or-first : (a b : Bool) → a ≡ true → or a b ≡ true
or-first a b p = rw p

or-none : {a b : Bool} → a ≡ false → b ≡ false → or a b ≡ false
or-none p q = rw (p, q)

and_first : (a b : Bool) → a ≡ false → and a b ≡ false
and_first a b p = rw p

and_last : (a b : Bool) → b ≡ false → and a b ≡ false
and_last a b p = rw p (and-false a)

-- A character makes a field longer than none.
some-taken : (f : Field) (b : ℕ) → 0 < (taken f b).size
unfolding taken
some-taken f b = both_ways (λ (n : ℕ). 0 < n) (eqb f.size 0) 1 2 (omega arith) (omega arith)

unsized : (f : Field) → 0 < f.size → eqb f.size 0 ≡ false
unsized f h = ne_eqb f.size 0 (λ e. absurd (omega arith))

-- A digit is no strange character, wherever it stands; any other is one behind the first.
digit-fits : (n b : ℕ) → is_digit b ≡ true → is_strange n b ≡ false
unfolding is_strange
digit-fits n b e = rw e

other_strange : (n b : ℕ) → is_digit b ≡ false → and (eqb b 45) (eqb n 0) ≡ false → is_strange n b ≡ true
unfolding is_strange
other_strange n b e z = rw (e, z)

digits-first : (b : ℕ) → is_digit b ≡ true → Digits (taken (blank 0) b) (0 * 10 + (b - 48))
unfolding taken pick
digits-first b e = record {
  some = omega arith;
  only = digit-fits 0 b e;
  unsigned = ne_eqb b 45 (λ q. omega (arith, digit_low b e));
  value = grown-drawn 0 b e;
}

digits-next : {f : Field} {v : ℕ} (b : ℕ) → is_digit b ≡ true → Digits f v → Digits (taken f b) (v * 10 + (b - 48))
unfolding taken
digits-next {f} {v} b e d = record {
  some = some-taken f b;
  only = or-none d.only (digit-fits f.size b e);
  unsigned = ap (λ (n : ℕ). eqb n 45) (pick_second b f.first (unsized f d.some)) ∙ d.unsigned;
  value = ap (λ (n : ℕ). grown n b) d.value ∙ grown-drawn v b e;
}

digits-spelt : (s : List ℕ) {f : Field} {v : ℕ} → all_digits s ≡ true → Digits f v → Digits (spelt f s) (value_from v s)
unfolding all_digits spelt value_from
digits-spelt [] e d = d
digits-spelt (b ∷ s) e d = let p = and_both (is_digit b) (all_digits s) e in digits-spelt s p.1 (digits-next b p.0 d)

-- A strange character is not forgotten, and the first one stays the first.
sticks : (s : List ℕ) (f : Field) → f.strange ≡ true → (spelt f s).strange ≡ true
unfolding spelt taken
sticks [] f e = e
sticks (b ∷ s) f e = sticks s (taken f b) (or-first f.strange (is_strange f.size b) e)

spoils : (s : List ℕ) (f : Field) → 0 < f.size → all_digits s ≡ false → (spelt f s).strange ≡ true
unfolding spelt taken all_digits
spoils [] f h e = absurd (true≢false e)
spoils (b ∷ s) f h e =
    by_test (is_digit b) (λ p. let q : all_digits s ≡ false = rw p at e in spoils s (taken f b) (some-taken f b) q)
    (λ p. sticks s (taken f b) (ap (λ (t : Bool). or f.strange t) (other_strange f.size b p (and_last (eqb b 45) (eqb f.size 0) (unsized f h))) ∙ or-true f.strange))

first_stays : (s : List ℕ) (f : Field) → 0 < f.size → (spelt f s).first ≡ f.first
unfolding spelt taken
first_stays [] f h = refl
first_stays (b ∷ s) f h = first_stays s (taken f b) (some-taken f b) ∙ pick_second b f.first (unsized f h)

-- What a field comes to.
plain-digits : {f : Field} {v : ℕ} → Digits f v → plain f ≡ Number (min v most)
unfolding plain is_plain
plain-digits {f} {v} d = pick_first _ _ (and-of (ap not d.only) (and-of (lt-ltb 0 f.size d.some) (ap not d.unsigned))) ∙ ap Number d.value

plain_strange : (f : Field) → f.strange ≡ true → plain f ≡ NoNumber
unfolding plain is_plain
plain_strange f e = pick_second _ _ (and_first (not f.strange) (and (ltb 0 f.size) (not (eqb f.first 45))) (ap not e))

plain-minus : (f : Field) → f.first ≡ 45 → plain f ≡ NoNumber
unfolding plain is_plain
plain-minus f e = pick_second _ _ (and_last (not f.strange) (and (ltb 0 f.size) (not (eqb f.first 45))) (and_last (ltb 0 f.size) (not (eqb f.first 45)) (ap (λ (n : ℕ). not (eqb n 45)) e)))

-- The cases of a word.
word_empty : argument [] ≡ argument_read []
unfolding argument argument_read spelt plain is_plain pick
word_empty = refl

module _ (b : ℕ) (s : List ℕ) where
  word_digits : is_digit b ≡ true → all_digits s ≡ true → argument (b ∷ s) ≡ argument_read (b ∷ s)
  unfolding argument argument_read spelt all_digits value_from
  word_digits p q = plain-digits (digits-spelt s q (digits-first b p)) ∙ sym (pick_first _ _ (and-of p q))

  word_spoilt : all_digits s ≡ false → argument (b ∷ s) ≡ argument_read (b ∷ s)
  unfolding argument argument_read spelt all_digits
  word_spoilt q = plain_strange _ (spoils s (taken (blank 0) b) (some-taken (blank 0) b) q) ∙ sym (pick_second _ _ (and_last (is_digit b) (all_digits s) q))

  word_minus : is_digit b ≡ false → b ≡ 45 → argument (b ∷ s) ≡ argument_read (b ∷ s)
  unfolding argument argument_read spelt all_digits taken pick
  word_minus p e = plain-minus _ (first_stays s (taken (blank 0) b) (some-taken (blank 0) b) ∙ e) ∙ sym (pick_second _ _ (and_first (is_digit b) (all_digits s) p))

  word_strange : is_digit b ≡ false → (b ≡ 45 → ⊥) → argument (b ∷ s) ≡ argument_read (b ∷ s)
  unfolding argument argument_read spelt all_digits taken
  word_strange p n = plain_strange _ (sticks s (taken (blank 0) b) (other_strange 0 b p (and_first (eqb b 45) (eqb 0 0) (ne_eqb b 45 n)))) ∙ sym (pick_second _ _ (and_first (is_digit b) (all_digits s) p))

-- The definition that the code computes is the plain reading.
pub argument_reads : (word : List ℕ) → argument word ≡ argument_read word
argument_reads [] = word_empty
argument_reads (b ∷ s) =
    by_test (is_digit b) (λ p. by_test (all_digits s) (λ q. word_digits b s p q) (λ q. word_spoilt b s q))
    (λ p. by_test (eqb b 45) (λ t. word_minus b s p (eqb-true b 45 t)) (λ t. word_strange b s p (eqb-false b 45 t)))
