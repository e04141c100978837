-- What `Spaced` says, read plainly, and how often at most such a thing happens: m + 1 times take m times p steps and one more.
use Prim.Native.Nat.{ℕ, zero, suc, ◌+◌, ◌-◌, ◌*◌, ◌≤◌, ◌<◌, zero-le}
use mathlib.Core.Path.{◌≡◌, refl}
use mathlib.Core.List.{List, [], ◌∷◌}
use mathlib.Core.Bool.{Bool, true, false, false≢true}
use native.Mathlib.Nat.{le_trans, suc-mul, lt_of_mul-lt-mul_right}
use native.Mathlib.Omega.{arith}
use lib.ListN.{length, get_or, take, drop}
use Rattle.basis.specs.Ceil.{ceil}
use Rattle.basis.specs.Spaced.{Spaced, happened}
use Rattle.basis.proofs.CeilLaws.{ceil_least, ceil_covers}

-- It happens at place w at the earliest, ..
pub spaced_first : (p : ℕ) (bs : List Bool) (w k : ℕ) → Spaced p w bs → get_or bs k false ≡ true → w ≤ k
spaced_first p [] w k s b = absurd (false≢true b)
spaced_first p (true ∷ bs) w k s b = omega (arith, s.0)
spaced_first p (false ∷ bs) w zero s b = absurd (false≢true b)
spaced_first p (false ∷ bs) w (suc k) s b = omega (arith, spaced_first p bs (w - 1) k s b)

-- .. and any two times are at least p apart.
pub spaced_apart : (p : ℕ) (bs : List Bool) (w j k : ℕ) → Spaced p w bs → j < k → get_or bs j false ≡ true → get_or bs k false ≡ true → j + p ≤ k
spaced_apart p [] w j k s l a b = absurd (false≢true a)
spaced_apart p (c ∷ bs) w j zero s l a b = absurd (omega arith)
spaced_apart p (true ∷ bs) w zero (suc k) s l a b = omega (arith, spaced_first p bs (p - 1) k s.1 b)
spaced_apart p (false ∷ bs) w zero (suc k) s l a b = absurd (false≢true a)
spaced_apart p (true ∷ bs) w (suc j) (suc k) s l a b = omega (arith, spaced_apart p bs (p - 1) j k s.1 (omega arith) a b)
spaced_apart p (false ∷ bs) w (suc j) (suc k) s l a b = omega (arith, spaced_apart p bs (w - 1) j k s (omega arith) a b)

-- It stays spaced from an earlier place on, behind any step, and up to any step.
pub spaced_sooner : (p : ℕ) (bs : List Bool) (w v : ℕ) → v ≤ w → Spaced p w bs → Spaced p v bs
spaced_sooner p [] w v l s = tt
spaced_sooner p (true ∷ bs) w v l s = (omega (arith, s.0), s.1)
spaced_sooner p (false ∷ bs) w v l s = spaced_sooner p bs (w - 1) (v - 1) (omega arith) s

pub spaced_drop : (p : ℕ) (bs : List Bool) (w j : ℕ) → Spaced p w bs → Spaced p 0 (drop j bs)
spaced_drop p bs w zero s = spaced_sooner p bs w 0 zero-le s
spaced_drop p [] w (suc j) s = tt
spaced_drop p (true ∷ bs) w (suc j) s = spaced_drop p bs (p - 1) j s.1
spaced_drop p (false ∷ bs) w (suc j) s = spaced_drop p bs (w - 1) j s

pub spaced_take : (p : ℕ) (bs : List Bool) (w n : ℕ) → Spaced p w bs → Spaced p w (take n bs)
spaced_take p bs w zero s = tt
spaced_take p [] w (suc n) s = tt
spaced_take p (true ∷ bs) w (suc n) s = (s.0, spaced_take p bs (p - 1) n s.1)
spaced_take p (false ∷ bs) w (suc n) s = spaced_take p bs (w - 1) n s

-- Where it happens m + 1 times, the last is at place w + m times p at the earliest.
last-late : (p : ℕ) → 1 ≤ p → (bs : List Bool) (w m : ℕ) → Spaced p w bs → happened bs ≡ suc m → m * p + w < length bs
unfolding happened
last-late p h [] w m s e = absurd (omega arith)
last-late p h (true ∷ bs) w zero s e = omega (arith, s.0)
last-late p h (true ∷ bs) w (suc m) s e = omega (arith, s.0, last-late p h bs (p - 1) m s.1 (omega arith), suc-mul m p)
last-late p h (false ∷ bs) w m s e = omega (arith, last-late p h bs (w - 1) m s e)

pub spaced_most : (p : ℕ) → 1 ≤ p → (bs : List Bool) (w : ℕ) → Spaced p w bs → happened bs ≤ ceil (length bs - w) p
spaced_most p h bs w s = go (happened bs) refl
  where
    go : (n : ℕ) → happened bs ≡ n → n ≤ ceil (length bs - w) p
    go zero e = zero-le
    go (suc m) e =
        let q : m * p < ceil (length bs - w) p * p = omega (arith, last-late p h bs w m s e, ceil_covers (length bs - w) p h) in
        omega (arith, lt_of_mul-lt-mul_right p q)

-- So in any n steps in a row it happens ceil(n / p) times at most.
take_short : (bs : List Bool) (n : ℕ) → length (take n bs) ≤ n
take_short bs zero = omega arith
take_short [] (suc n) = omega arith
take_short (b ∷ bs) (suc n) = omega (arith, take_short bs n)

pub spaced_most_in : (p : ℕ) → 1 ≤ p → (bs : List Bool) (w : ℕ) → Spaced p w bs → (j n : ℕ) → happened (take n (drop j bs)) ≤ ceil n p
spaced_most_in p h bs w s j n =
    let l : length (take n (drop j bs)) ≤ n = take_short (drop j bs) n in
    le_trans (spaced_most p h (take n (drop j bs)) 0 (spaced_take p (drop j bs) 0 n (spaced_drop p bs w j s)))
    (ceil_least _ p (ceil n p) h (omega (arith, ceil_covers n p h)))
