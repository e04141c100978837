-- Laws of a search in order: how it grows with a loop, and what it answers.
use Prim.Native.Nat.{ℕ, zero, suc, ◌+◌, ◌-◌, ◌≤◌, ◌<◌}
use mathlib.Core.Path.{◌≡◌, refl, sym, ◌∙◌}
use mathlib.Core.List.{List, [], ◌∷◌, ◌++◌, append-nil}
use mathlib.Core.Logic.{⊎_elim}
use native.Mathlib.Numerals.{add-one}
use native.Mathlib.Decide.{le_ind}
use native.Mathlib.Nat.{eq-or-lt_of_le, sub-zero}
use native.Mathlib.Omega.{arith}
use lib.ListN.{length, get_or, set, replicate, length-append, get_or-eq_default}
use lib.Seq.{set_at, get_or_at, append_snoc, ext_get_or}
use Rattle.basis.specs.Search.{Sought, nothing, found, or_else, first, listed}
use Rattle.basis.proofs.ListLaws.{padded}

-- The steps of a loop over `first`: none yet, one more that finds nothing, the end, and the first that is found.
pub first-none : {A : Type 0} (f : ℕ → Sought A) → first 0 f ≡ nothing
unfolding first
first-none f = refl

pub first_next : {A : Type 0} (f : ℕ → Sought A) (i : ℕ) → first i f ≡ nothing → f i ≡ nothing → first (i + 1) f ≡ nothing
unfolding first
first_next f i e h = rw (add-one, e) h

pub first_end : {A : Type 0} (f : ℕ → Sought A) (i n : ℕ) → first i f ≡ nothing → i ≤ n → n ≤ i → first n f ≡ nothing
first_end f i n e h k = let q : n ≡ i = omega arith in rw q e

pub first_hit : {A : Type 0} (f : ℕ → Sought A) (i n : ℕ) (a : A) → first i f ≡ nothing → f i ≡ found a → i < n → first n f ≡ found a
unfolding first
first_hit f i n a e h l = le_ind (λ (m : ℕ). first m f ≡ found a) (rw e h) (λ m k r. rw r) n l

-- Nothing was found exactly where each number answers nothing.
or_else-nothing : {A : Type 0} (s r : Sought A) → or_else s r ≡ nothing → (s ≡ nothing) × (r ≡ nothing)
or_else-nothing nothing r e = (refl, e)
or_else-nothing (found a) r e = let z : ◌≡◌ {A = ℕ} 0 1 = cc in absurd (omega arith)

pub first-nothing : {A : Type 0} (f : ℕ → Sought A) (n k : ℕ) → first n f ≡ nothing → k < n → f k ≡ nothing
unfolding first
first-nothing f zero k e h = absurd (omega arith)
first-nothing f (suc n) k e h =
    let b = or_else-nothing (first n f) (f n) e in
    ⊎_elim (λ (q : k ≡ n). rw q b.1) (λ (l : k < n). first-nothing f n k b.0 l) (eq-or-lt_of_le (omega arith))

pub first-all : {A : Type 0} (f : ℕ → Sought A) (n : ℕ) → ((k : ℕ) → k < n → f k ≡ nothing) → first n f ≡ nothing
unfolding first
first-all f zero h = refl
first-all f (suc n) h = rw (first-all f n (λ k l. h k (omega arith))) (h n (omega arith))

-- What was found was found at the first number that answers.
pub record FoundAt {A : Type 0} (f : ℕ → Sought A) (n : ℕ) (a : A) : Type 0 where
  pub number : ℕ
  pub below : number < n
  pub answers : f number ≡ found a
  pub earlier : first number f ≡ nothing

pub first_found : {A : Type 0} (f : ℕ → Sought A) (n : ℕ) (a : A) → first n f ≡ found a → FoundAt f n a
unfolding first
first_found f zero a e = let z : ◌≡◌ {A = ℕ} 0 1 = cc in absurd (omega arith)
first_found {A} f (suc n) a e = go (first n f) refl (λ q. first_found f n a q)
  where
    go : (g : Sought A) → first n f ≡ g → (first n f ≡ found a → FoundAt f n a) → FoundAt f (suc n) a
    go nothing q before = record { number = n; below = omega arith; answers = rw q at e; earlier = q }
    go (found b) q before =
        let r : FoundAt f n a = before (q ∙ (rw q at e)) in
        record { number = r.number; below = omega arith; answers = r.answers; earlier = r.earlier }

-- An array that is filled from the front.
pub length-listed : {A : Type 0} (n : ℕ) (f : ℕ → A) → length (listed n f) ≡ n
unfolding listed
length-listed zero f = refl
length-listed (suc n) f = length-append (listed n f) (f n ∷ []) ∙ rw (length-listed n f) (omega arith)

pub listed-none : {A : Type 0} (f : ℕ → A) (z : A) (n : ℕ) → replicate n z ≡ listed 0 f ++ replicate (n - 0) z
unfolding listed
listed-none f z n = rw sub-zero

pub listed_next : {A : Type 0} (f : ℕ → A) (z : A) (i n : ℕ) → i < n
    → set (listed i f ++ replicate (n - i) z) i (f i) ≡ listed (i + 1) f ++ replicate (n - (i + 1)) z
unfolding listed
listed_next f z i n h =
    let q : n - i ≡ suc (n - suc i) = omega arith in
    rw (q, add-one, set_at (listed i f) z (replicate (n - suc i) z) (f i) i (length-listed i f))
    (sym (append_snoc (listed i f) (f i) (replicate (n - suc i) z)))

-- What stands at a place of such an array: f of the place, and behind what was filled the value that it was filled up with.
pub listed_at : {A : Type 0} (f : ℕ → A) (n i : ℕ) (rest : List A) (d : A) → i < n → get_or (listed n f ++ rest) i d ≡ f i
unfolding listed
listed_at f zero i rest d h = absurd (omega arith)
listed_at f (suc n) i rest d h =
    rw (append_snoc (listed n f) (f n) rest)
    (⊎_elim (λ (q : i ≡ n). rw q (get_or_at (listed n f) (f n) rest d n (length-listed n f)))
    (λ (q : i < n). listed_at f n i (f n ∷ rest) d q) (eq-or-lt_of_le (omega arith)))

pub listed_past : {A : Type 0} (f : ℕ → A) (n m i : ℕ) (z : A) → n ≤ i → get_or (listed n f ++ replicate m z) i z ≡ z
listed_past f n m i z h = padded (listed n f) m i z ∙ get_or-eq_default (listed n f) z (rw (length-listed n f) h)

-- A list is the list of its elements.
pub listed-all : {A : Type 0} (l : List A) (a : A) → listed (length l) (λ i. get_or l i a) ≡ l
listed-all l a =
    ext_get_or a (listed (length l) (λ i. get_or l i a)) l (length-listed (length l) (λ i. get_or l i a))
    (λ i h. (rw (append-nil (listed (length l) (λ i. get_or l i a))) at (listed_at (λ i. get_or l i a) (length l) i [] a (rw (length-listed (length l) (λ i. get_or l i a)) at h))))
