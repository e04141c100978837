-- Laws of the tests that compute: how `every` and `some` grow with a loop, and what they say of each number.
use Prim.Native.Nat.{ℕ, zero, suc, ◌+◌, ◌≤◌, ◌<◌}
use mathlib.Core.Path.{◌≡◌, refl, sym, ◌∙◌}
use mathlib.Core.Bool.{Bool, true, false, true≢false, false≢true}
use mathlib.Core.Logic.{⊎_elim}
use native.Mathlib.Numerals.{add-one}
use native.Mathlib.Decide.{le_ind}
use native.Mathlib.Nat.{eq-or-lt_of_le}
use native.Mathlib.Omega.{arith}
use borrow.Author.Tests.{not-true, not-false}
use Rattle.basis.specs.Tests.{pick, and, or, every, some}

-- A test has two cases, each with its equation.
pub by_test : {C : Type 0} (t : Bool) → (t ≡ true → C) → (t ≡ false → C) → C
by_test true f g = f refl
by_test false f g = g refl

-- A choice has a property if both values have it.
pub either : {A : Type 0} (P : A → Type 0) (b : Bool) {x y : A} → (b ≡ true → P x) → (b ≡ false → P y) → P (pick b x y)
unfolding pick
either P true f g = f refl
either P false f g = g refl

pub both_ways : {A : Type 0} (P : A → Type 0) (b : Bool) (x y : A) → P x → P y → P (pick b x y)
unfolding pick
both_ways P true x y p q = p
both_ways P false x y p q = q

-- Two choices by equal tests are related if the values are.
pub both : {A : Type 0} (R : A → A → Type 0) (b c : Bool) {x x' y y' : A} → b ≡ c
    → (b ≡ true → R x x') → (b ≡ false → R y y') → R (pick b x y) (pick c x' y')
unfolding pick
both R true true e f g = f refl
both R true false e f g = absurd (true≢false e)
both R false true e f g = absurd (false≢true e)
both R false false e f g = g refl

pub refuted : {A : Type 0} {b : Bool} → b ≡ true → b ≡ false → A
refuted p q = absurd (true≢false (sym p ∙ q))

-- A test that cannot pass fails.
pub fails : (b : Bool) → (b ≡ true → ⊥) → b ≡ false
fails true f = absurd (f refl)
fails false f = refl

pub and_both : (a b : Bool) → and a b ≡ true → (a ≡ true) × (b ≡ true)
and_both true b e = (refl, e)
and_both false b e = absurd (false≢true e)

pub and-of : {a b : Bool} → a ≡ true → b ≡ true → and a b ≡ true
and-of p q = rw (p, q)

-- What a test says of the tests that it joins, for `search`.
pub and_left : (a b : Bool) → and a b ≡ true → a ≡ true
and_left a b e = (and_both a b e).0

pub and_right : (a b : Bool) → and a b ≡ true → b ≡ true
and_right a b e = (and_both a b e).1

pub or_left : (a b : Bool) → or a b ≡ false → a ≡ false
or_left false b e = refl
or_left true b e = absurd (true≢false e)

pub or_right : (a b : Bool) → or a b ≡ false → b ≡ false
or_right false b e = e
or_right true b e = absurd (true≢false e)

pub ruleset joined = (and_left, and_right, or_left, or_right, not-true, not-false)

pub and-false : (a : Bool) → and a false ≡ false
and-false true = refl
and-false false = refl

pub or-true : (a : Bool) → or a true ≡ true
or-true true = refl
or-true false = refl

pub or-false : (a : Bool) → or a false ≡ a
or-false true = refl
or-false false = refl

-- The steps of a loop over `every`: none yet, one more, the end, and the first that fails.
pub every-none : (f : ℕ → Bool) → every 0 f ≡ true
unfolding every
every-none f = refl

pub every-next : (f : ℕ → Bool) (i : ℕ) → every i f ≡ true → f i ≡ true → every (i + 1) f ≡ true
unfolding every
every-next f i e h = rw (add-one, e) h

pub every_end : (f : ℕ → Bool) (i n : ℕ) → every i f ≡ true → i ≤ n → n ≤ i → every n f ≡ true
every_end f i n e h k = let q : n ≡ i = omega arith in rw q e

pub every_fails : (f : ℕ → Bool) (i n : ℕ) → f i ≡ false → i < n → every n f ≡ false
unfolding every
every_fails f i n e = le_ind (λ (m : ℕ). every m f ≡ false) (rw e (and-false (every i f))) (λ m h r. rw r) n

-- `every` says that each number passes.
pub every-at : (f : ℕ → Bool) (n i : ℕ) → every n f ≡ true → i < n → f i ≡ true
unfolding every
every-at f zero i e h = absurd (omega arith)
every-at f (suc n) i e h =
    let b = and_both (every n f) (f n) e in
    ⊎_elim (λ (q : i ≡ n). rw q b.1) (λ (q : i < n). every-at f n i b.0 q) (eq-or-lt_of_le (omega arith))

pub every-all : (f : ℕ → Bool) (n : ℕ) → ((i : ℕ) → i < n → f i ≡ true) → every n f ≡ true
unfolding every
every-all f zero h = refl
every-all f (suc n) h = rw (every-all f n (λ i k. h i (omega arith))) (h n (omega arith))

-- The steps of a loop over `some`.
pub some-none : (f : ℕ → Bool) → some 0 f ≡ false
unfolding some
some-none f = refl

pub some_next : (f : ℕ → Bool) (i : ℕ) → some i f ≡ false → f i ≡ false → some (i + 1) f ≡ false
unfolding some
some_next f i e h = rw (add-one, e) h

pub some_end : (f : ℕ → Bool) (i n : ℕ) → some i f ≡ false → i ≤ n → n ≤ i → some n f ≡ false
some_end f i n e h k = let q : n ≡ i = omega arith in rw q e

pub some_hit : (f : ℕ → Bool) (i n : ℕ) → f i ≡ true → i < n → some n f ≡ true
unfolding some
some_hit f i n e = le_ind (λ (m : ℕ). some m f ≡ true) (rw e (or-true (some i f))) (λ m h r. rw r) n

-- `some` says that a number passes.
pub record Passing (f : ℕ → Bool) (n : ℕ) : Type 0 where
  pub number : ℕ
  pub below : number < n
  pub passes : f number ≡ true

pub some-found : (f : ℕ → Bool) (n : ℕ) → some n f ≡ true → Passing f n
unfolding some
some-found f zero e = absurd (false≢true e)
some-found f (suc n) e = go (some-found f n) (some n f) refl e
  where
    go : (some n f ≡ true → Passing f n) → (b : Bool) → some n f ≡ b → or b (f n) ≡ true → Passing f (suc n)
    go before true p e =
        let r : Passing f n = before p in
        record { number = r.number; below = omega arith; passes = r.passes }
    go before false p e = record { number = n; below = omega arith; passes = e }

pub some-false : (f : ℕ → Bool) (n i : ℕ) → some n f ≡ false → i < n → f i ≡ false
some-false f n i e h = fails (f i) (λ p. true≢false (sym (some_hit f i n p h) ∙ e))

-- Tests that agree below n agree there in `some`.
pub some_same : (f g : ℕ → Bool) (n : ℕ) → ((i : ℕ) → i < n → f i ≡ g i) → some n f ≡ some n g
unfolding some
some_same f g zero h = refl
some_same f g (suc n) h = rw (h n (omega arith), some_same f g n (λ i l. h i (omega arith)))
