-- What keeps to the range: a number that is drawn into it, and a position that moves towards a command. A position in the range is a
-- level too: so many thousandths above -5,000.
use Rattle.std.proofs.Common.{ℕ, ◌+◌, ◌-◌, ◌≤◌, ltb, ◌≡◌, true, false, T, arith, ℤ, pos, negsuc, ◌-ℤ◌, SFits, w32}
use Rattle.std.proofs.lemmas.Int.{ints}
use lib.IntN.{sub_ℕ}
use lib.Signed.{non_neg, lt_z, le_z}
use Rattle.basis.specs.Tests.{pick}
use Rattle.basis.proofs.TestLaws.{by_test}
use Rattle.actuator.specs.Motion.{lowest, highest, in_range, ranged, drawn, distance, towards, way, moved}
use Rattle.actuator.specs.declared.Actuator.{Actuator}

-- The test of the range, one end after the other.
pub below_out : (z : ℤ) → lt_z z lowest ≡ true → in_range z ≡ false
unfolding in_range
below_out z e = grind (arith, ints)

pub not_below : (z : ℤ) → lt_z z lowest ≡ false → in_range z ≡ le_z z highest
unfolding in_range
not_below z e = grind (arith, ints)

-- The parts of an actuator that passes the test.
pub ranged_position : (a : Actuator) → ranged a ≡ true → in_range a.position ≡ true
unfolding ranged in_range
ranged_position a e = grind (arith, ints)

pub ranged-command : (a : Actuator) → ranged a ≡ true → in_range a.command ≡ true
unfolding ranged in_range
ranged-command a e = grind (arith, ints)

-- The position at a level.
abbrev pub at : ℕ → ℤ
at n = sub_ℕ n 5000

-- A position in the range has a level, and a level up to 100,000 a position in the range.
pub record Level (z : ℤ) : Type 0 where
  pub level : ℕ
  pub high : level ≤ 100000
  pub is : z ≡ at level

pub level_of : (z : ℤ) → in_range z ≡ true → Level z
unfolding in_range
level_of (pos k) e = record { level = k + 5000; high = grind (arith, ints); is = grind (arith, ints) }
level_of (negsuc k) e = record { level = 4999 - k; high = grind (arith, ints); is = grind (arith, ints) }

pub level_in : (n : ℕ) → n ≤ 100000 → in_range (at n) ≡ true
unfolding in_range
level_in n h = grind (arith, ints)

-- Positions in the range fit 32 bits, and so do their differences, which are not negative where the first is not below.
pub level_fits : (n : ℕ) → n ≤ 100000 → SFits w32 (at n)
level_fits n h = record { sfits = grind (arith, ints) }

pub in_fits : {z : ℤ} → in_range z ≡ true → SFits w32 z
unfolding in_range
in_fits {z} e = record { sfits = grind (arith, ints) }

pub minus-fits : (a b : ℤ) → in_range a ≡ true → in_range b ≡ true → SFits w32 (a -ℤ b)
unfolding in_range
minus-fits a b e f = record { sfits = grind (arith, ints) }

pub minus_not_negative : (a b : ℤ) → in_range a ≡ true → in_range b ≡ true → lt_z a b ≡ false → T (non_neg (a -ℤ b))
minus_not_negative a b e f t = grind (arith, ints)

-- It does not matter which way a distance is taken.
pub distance-turns : (a b : ℤ) → in_range a ≡ true → in_range b ≡ true → distance a b ≡ distance b a
unfolding distance
distance-turns a b e f = omega (arith, ints)

-- The distance by the levels.
pub distance-at : (m n : ℕ) → distance (at m) (at n) ≡ (m - n) + (n - m)
unfolding distance
distance-at m n = grind (arith, ints)

-- The level that a way towards another leads to: up, or down.
unfoldable pub level_towards : ℕ → ℕ → ℕ → ℕ
level_towards m n w = pick (ltb m n) (m + w) (m - w)

pub towards-at : (m n w : ℕ) → w ≤ (m - n) + (n - m) → towards (at m) (at n) w ≡ at (level_towards m n w)
unfolding towards level_towards pick
towards-at m n w h = by_test (ltb m n) (λ e. grind (arith, ints)) (λ e. grind (arith, ints))

-- A way is no longer than the distance, and than the rate; between positions in the range it is at most 100,000.
pub way_near : (rate : ℕ) (p c : ℤ) → way rate p c ≤ distance p c
unfolding way
way_near rate p c = omega arith

pub way-short : (rate : ℕ) (p c : ℤ) → way rate p c ≤ rate
unfolding way
way-short rate p c = omega arith

pub way_high : (rate : ℕ) (p c : ℤ) → in_range p ≡ true → in_range c ≡ true → way rate p c ≤ 100000
unfolding way distance in_range
way_high rate p c e f = grind (arith, ints)

pub drawn_in : (x : ℤ) → in_range (drawn x) ≡ true
unfolding drawn in_range pick
drawn_in x = grind (arith, ints)

-- No move leads out of the range.
pub moved_in : (rate : ℕ) (p c : ℤ) → in_range p ≡ true → in_range c ≡ true → in_range (moved rate p c) ≡ true
unfolding moved towards way distance in_range pick
moved_in rate p c e f = grind (arith, ints)
