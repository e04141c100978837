-- The digits of a number are read back as that number, and a field that is read as a number is its digits.
use Prim.Native.Nat.{ℕ, zero, suc, ◌+◌, ◌-◌, ◌*◌, ◌/◌, ◌%◌, ◌^◌, ◌≤◌, ◌<◌}
use mathlib.Core.Path.{◌≡◌, refl, sym, ◌∙◌, ap, subst}
use mathlib.Core.List.{List, [], ◌∷◌, ◌++◌}
use mathlib.Core.Bool.{Bool, true, false}
use native.Mathlib.Omega.{arith}
use native.Mathlib.Nat.{pow-suc}
use lib.ListN.{length, get_or, take, length-append, get_or-append}
use lib.Seq.{take-suc, take-length, length-take-le}
use lib.Dec.{eqb, ltb, leb}
use borrow.Author.Tests.{leb-true, ltb-true, ltb-false, lt-ltb, le-ltb, eqb-false, ne_eqb}
use Rattle.basis.specs.Tests.{pick, and}
use Rattle.basis.proofs.TestLaws.{by_test, and_both, and-of}
use Rattle.decimal.specs.Decimal.{digit, decimal_in, decimal}
use Rattle.sheet.specs.Field.{field_ends, field, is_digit, all_digits, zero_first, value_from}
use Rattle.sheet.proofs.FieldLaws.{is_digit-within, value_grows, padded_long}

-- One digit more at the end.
value_last : (f : List ℕ) (v b : ℕ) → value_from v (f ++ (b ∷ [])) ≡ value_from v f * 10 + (b - 48)
unfolding value_from
value_last [] v b = refl
value_last (x ∷ f) v b = value_last f (v * 10 + (x - 48)) b

and-true : (a : Bool) → and a true ≡ a
and-true true = refl
and-true false = refl

and_assoc : (a b c : Bool) → and a (and b c) ≡ and (and a b) c
and_assoc true b c = refl
and_assoc false b c = refl

digits_last : (f : List ℕ) (b : ℕ) → all_digits (f ++ (b ∷ [])) ≡ and (all_digits f) (is_digit b)
unfolding all_digits
digits_last [] b = and-true (is_digit b)
digits_last (x ∷ f) b = ap (and (is_digit x)) (digits_last f b) ∙ and_assoc (is_digit x) (all_digits f) (is_digit b)

-- The digits of a number that has at most k have its value, are digits, and start with no zero.
value_in : (k n : ℕ) → n < 10 ^ k → value_from 0 (decimal_in k n) ≡ n
unfolding decimal_in pick value_from
value_in zero n h = let l : n < 1 = h in omega arith
value_in (suc k) n h =
    by_test (ltb n 10)
    (λ e. rw e (omega arith))
    (λ e. let most : n < 10 ^ k * 10 = rw (pow-suc 10 k) at h in
    rw e (value_last (decimal_in k (n / 10)) 0 (digit (n % 10)) ∙ rw (value_in k (n / 10) (omega arith)) (omega arith)))

digits_in : (k n : ℕ) → all_digits (decimal_in k n) ≡ true
unfolding decimal_in pick all_digits
digits_in zero n = refl
digits_in (suc k) n =
    by_test (ltb n 10)
    (λ e. rw e (and-of (is_digit-within (digit n) (omega arith) (omega (arith, ltb-true n 10 e))) refl))
    (λ e. rw e (digits_last (decimal_in k (n / 10)) (digit (n % 10))
    ∙ and-of (digits_in k (n / 10)) (is_digit-within (digit (n % 10)) (omega arith) (omega arith))))

first_in : (k n : ℕ) → 1 ≤ n → n < 10 ^ k → (0 < length (decimal_in k n)) × (48 < get_or (decimal_in k n) 0 0)
unfolding decimal_in pick
first_in zero n l h = let z : n < 1 = h in absurd (omega arith)
first_in (suc k) n l h =
    by_test (ltb n 10)
    (λ e. rw e (omega arith, omega arith))
    (λ e. let most : n < 10 ^ k * 10 = rw (pow-suc 10 k) at h in
    let m : 10 ≤ n = ltb-false n 10 e in
    let r = first_in k (n / 10) (omega arith) (omega arith) in
    rw e (
      omega (arith, length-append (decimal_in k (n / 10)) (digit (n % 10) ∷ [])),
      rw (get_or-append (decimal_in k (n / 10)) (digit (n % 10) ∷ []) 0 0 r.0) r.1,
    ))

unpadded_in : (k n : ℕ) → n < 10 ^ k → zero_first (decimal_in k n) ≡ false
unfolding decimal_in pick
unpadded_in zero n h = refl
unpadded_in (suc k) n h =
    by_test (ltb n 10)
    (λ e. rw e)
    (λ e. let most : n < 10 ^ k * 10 = rw (pow-suc 10 k) at h in
    let m : 10 ≤ n = ltb-false n 10 e in
    let x : List ℕ = decimal_in k (n / 10) in
    let r = first_in k (n / 10) (omega arith) (omega arith) in
    let two : 2 ≤ length (x ++ (digit (n % 10) ∷ [])) = omega (arith, length-append x (digit (n % 10) ∷ []), r.0) in
    rw e (padded_long (x ++ (digit (n % 10) ∷ [])) two
    ∙ ne_eqb (get_or (x ++ (digit (n % 10) ∷ [])) 0 0) 48 (λ z. omega (arith, z, get_or-append x (digit (n % 10) ∷ []) 0 0 r.0, r.1))))

some_in : (k n : ℕ) → 0 < k → 0 < length (decimal_in k n)
unfolding decimal_in pick
some_in zero n h = absurd (omega arith)
some_in (suc k) n h =
    by_test (ltb n 10) (λ e. rw e (omega arith))
    (λ e. rw e (omega (arith, length-append (decimal_in k (n / 10)) (digit (n % 10) ∷ []))))

module _ (v : ℕ) (h : v < 65536) where
  pub decimal_value : value_from 0 (decimal v) ≡ v
  unfolding decimal
  decimal_value = value_in 20 v (omega arith)

  pub decimal_unpadded : zero_first (decimal v) ≡ false
  unfolding decimal
  decimal_unpadded = unpadded_in 20 v (omega arith)

pub decimal-digits : (v : ℕ) → all_digits (decimal v) ≡ true
unfolding decimal
decimal-digits v = digits_in 20 v

pub decimal-some : (v : ℕ) → 0 < length (decimal v)
unfolding decimal
decimal-some v = some_in 20 v (omega arith)

-- Digits do not end a field, so that digits up to an end are one.
digit_open : (b : ℕ) (s : List ℕ) → is_digit b ≡ true → field_ends (b ∷ s) ≡ false
unfolding field_ends
digit_open b s e =
    let p = and_both (leb 48 b) (leb b 57) e in
    let l : 48 ≤ b = leb-true 48 b p.0 in
    rw (ne_eqb b 44 (λ z. omega arith), ne_eqb b 13 (λ z. omega arith))

pub field-digits : (f l : List ℕ) → all_digits f ≡ true → field_ends l ≡ true → field (f ++ l) ≡ f
unfolding field pick all_digits
field-digits [] [] a e = refl
field-digits [] (b ∷ l) a e = rw e
field-digits (b ∷ f) l a e =
    let p = and_both (is_digit b) (all_digits f) a in
    rw (digit_open b (f ++ l) p.0) (ap (λ (g : List ℕ). b ∷ g) (field-digits f l p.1 e))

-- The other way: a list of digits is taken apart at its last.
last_of : (l : List ℕ) → 0 < length l → take (length l - 1) l ++ (get_or l (length l - 1) 0 ∷ []) ≡ l
last_of l h =
    let e : suc (length l - 1) ≡ length l = omega arith in
    sym (take-suc l (length l - 1) 0 (omega arith)) ∙ subst (λ (n : ℕ). take n l ≡ l) (sym e) (take-length l)

last_long : (l : List ℕ) → 0 < length l → length (take (length l - 1) l) ≡ length l - 1
last_long l h = length-take-le (length l - 1) l (omega arith)

digit-of : (g : List ℕ) (b : ℕ) → all_digits (g ++ (b ∷ [])) ≡ true → (all_digits g ≡ true) × (48 ≤ b) × (b ≤ 57)
digit-of g b a =
    let p = and_both (all_digits g) (is_digit b) (sym (digits_last g b) ∙ a) in
    let q = and_both (leb 48 b) (leb b 57) p.1 in
    (p.0, leb-true 48 b q.0, leb-true b 57 q.1)

-- Digits have a value below the power of ten of their number.
below_in : (k : ℕ) (g : List ℕ) (b : ℕ) → length g < k → all_digits (g ++ (b ∷ [])) ≡ true → value_from 0 (g ++ (b ∷ [])) < 10 ^ suc (length g)
unfolding value_from
below_in zero g b h a = absurd (omega arith)
below_in (suc k) [] b h a = let p = digit-of [] b a in omega arith
below_in (suc k) (x ∷ g) b h a =
    let l : List ℕ = x ∷ g in
    let n : ℕ = length l - 1 in
    let p = digit-of l b a in
    let e = last_of l (omega arith) in
    let less : value_from 0 l < 10 ^ suc (length (take n l))
    = subst (λ (m : List ℕ). value_from 0 m < 10 ^ suc (length (take n l))) e
    (below_in k (take n l) (get_or l n 0) (omega (arith, last_long l (omega arith))) (subst (λ (m : List ℕ). all_digits m ≡ true) (sym e) p.0)) in
    let long : suc (length (take n l)) ≡ suc (length g) = omega (arith, last_long l (omega arith)) in
    let below : value_from 0 l < 10 ^ suc (length g) = subst (λ (m : ℕ). value_from 0 l < 10 ^ m) long less in
    rw (value_last l 0 b, pow-suc 10 (suc (length g))) (omega arith)

unpadded : (x : ℕ) (g : List ℕ) → eqb x 48 ≡ false → zero_first (x ∷ g) ≡ false
unpadded x [] e = refl
unpadded x (y ∷ g) e = e

-- Digits that start with no zero before another are those of their value.
back_in : (k : ℕ) (g : List ℕ) (b : ℕ) → length g < k → all_digits (g ++ (b ∷ [])) ≡ true → zero_first (g ++ (b ∷ [])) ≡ false
    → decimal_in k (value_from 0 (g ++ (b ∷ []))) ≡ g ++ (b ∷ [])
unfolding decimal_in pick value_from all_digits
back_in zero g b h a z = absurd (omega arith)
back_in (suc k) [] b h a z =
    let p = digit-of [] b a in
    let e : 48 + (0 * 10 + (b - 48)) ≡ b = omega arith in
    rw (lt-ltb (0 * 10 + (b - 48)) 10 (omega arith), e)
back_in (suc k) (x ∷ g) b h a z =
    let l : List ℕ = x ∷ g in
    let n : ℕ = length l - 1 in
    let w : ℕ = value_from 0 l in
    let p = digit-of l b a in
    let e = last_of l (omega arith) in
    let nz : eqb x 48 ≡ false = sym (padded_long (l ++ (b ∷ [])) (omega (arith, length-append l (b ∷ [])))) ∙ z in
    let x-digit : 48 ≤ x = leb-true 48 x (and_both (leb 48 x) (leb x 57) (and_both (is_digit x) (all_digits g) p.0).0).0 in
    let some : 1 ≤ w = omega (arith, value_grows g (0 * 10 + (x - 48)), eqb-false x 48 nz) in
    let ih : decimal_in k w ≡ l
    = subst (λ (m : List ℕ). decimal_in k (value_from 0 m) ≡ m) e
    (back_in k (take n l) (get_or l n 0) (omega (arith, last_long l (omega arith)))
    (subst (λ (m : List ℕ). all_digits m ≡ true) (sym e) p.0)
    (subst (λ (m : List ℕ). zero_first m ≡ false) (sym e) (unpadded x g nz))) in
    let d : (w * 10 + (b - 48)) / 10 ≡ w = omega arith in
    let m : 48 + (w * 10 + (b - 48)) % 10 ≡ b = omega arith in
    rw (value_last l 0 b, le-ltb (w * 10 + (b - 48)) 10 (omega arith), d, m, ih)

-- How many places there are makes no difference, where they hold the number.
same_in : (k j n : ℕ) → n < 10 ^ k → n < 10 ^ j → 0 < k → 0 < j → decimal_in k n ≡ decimal_in j n
unfolding decimal_in pick
same_in zero j n h l a b = absurd (omega arith)
same_in (suc k) zero n h l a b = absurd (omega arith)
same_in (suc k) (suc j) n h l a b =
    by_test (ltb n 10) (λ e. rw e)
    (λ e. let m : 10 ≤ n = ltb-false n 10 e in
    let hk : n < 10 ^ k * 10 = rw (pow-suc 10 k) at h in
    let hj : n < 10 ^ j * 10 = rw (pow-suc 10 j) at l in
    let more : (i : ℕ) → n < 10 ^ i * 10 → 0 < i = λ i q. by_test (ltb 0 i) (λ t. ltb-true 0 i t)
    (λ t. let z : i ≡ 0 = omega (arith, ltb-false 0 i t) in
    let o : n < 10 ^ 0 * 10 = subst (λ (y : ℕ). n < 10 ^ y * 10) z q in
    absurd (omega arith)) in
    rw (e, same_in k j (n / 10) (omega arith) (omega arith) (more k hk) (more j hj)))

-- A field that is digits, starts with no zero before another and has a small value is the digits of that value.
pub decimal_back : (f : List ℕ) → 0 < length f → all_digits f ≡ true → zero_first f ≡ false → value_from 0 f < 65536 → f ≡ decimal (value_from 0 f)
unfolding decimal
decimal_back f h a z v =
    let n : ℕ = length f - 1 in
    let e = last_of f h in
    let g : List ℕ = take n f in
    let b : ℕ = get_or f n 0 in
    let long : length g ≡ n = last_long f h in
    let a' = subst (λ (m : List ℕ). all_digits m ≡ true) (sym e) a in
    let z' = subst (λ (m : List ℕ). zero_first m ≡ false) (sym e) z in
    let back : decimal_in (suc (length g)) (value_from 0 f) ≡ f
    = subst (λ (m : List ℕ). decimal_in (suc (length g)) (value_from 0 m) ≡ m) e (back_in (suc (length g)) g b (omega arith) a' z') in
    let below : value_from 0 f < 10 ^ suc (length g)
    = subst (λ (m : List ℕ). value_from 0 m < 10 ^ suc (length g)) e (below_in (suc (length g)) g b (omega arith) a') in
    sym back ∙ same_in (suc (length g)) 20 (value_from 0 f) below (omega arith) (omega arith) (omega arith)
