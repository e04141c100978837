-- The actuator by itself: its range, the number that a command is drawn to, and one move. All in thousandths of a degree.
use Rattle.std.specs.Prelude.{ℕ, min, Bool, leb, ℤ, pos, neg_ℤ, nat_abs, ◌+ℤ◌, ◌-ℤ◌}
use Rattle.std.specs.Int.Signed.{lt_z, le_z}
use Rattle.basis.specs.Tests.{pick, and}
use Rattle.actuator.specs.declared.Actuator.{Actuator}

-- Positions and commands go from -5,000 to 95,000.
abbrev pub lowest : ℤ
lowest = neg_ℤ (pos 5000)

abbrev pub highest : ℤ
highest = pos 95000

unfoldable pub in_range : ℤ → Bool
in_range z = and (le_z lowest z) (le_z z highest)

-- The rate is 1 to 1,000 a step, and position and stored command are in their range.
unfoldable pub ranged : Actuator → Bool
ranged a = and (and (leb 1 a.rate) (leb a.rate 1000)) (and (in_range a.position) (in_range a.command))

-- A number drawn into the range: the end that it lies beyond, or itself.
unfoldable pub drawn : ℤ → ℤ
drawn x = pick (lt_z x lowest) lowest (pick (lt_z highest x) highest x)

-- How far apart two positions are.
unfoldable pub distance : ℤ → ℤ → ℕ
distance a b = nat_abs (a -ℤ b)

-- From p towards c, n thousandths far.
unfoldable pub towards : ℤ → ℤ → ℕ → ℤ
towards p c n = pick (lt_z p c) (p +ℤ pos n) (p -ℤ pos n)

-- The way of one step: the smaller of the rate and the distance.
unfoldable pub way : ℕ → ℤ → ℤ → ℕ
way rate p c = min rate (distance p c)

-- A position moves towards the command by that way.
unfoldable pub moved : ℕ → ℤ → ℤ → ℤ
moved rate p c = towards p c (way rate p c)

-- At first the command is the start position.
unfoldable pub start : ℤ → ℕ → ℕ → Actuator
start p rate i = record { position = p; command = p; rate = rate; thread = i }
