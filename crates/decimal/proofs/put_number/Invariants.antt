-- The digits before k are still to come: putting them would end in the whole number.
use Prim.Native.Nat.{◌-◌, ◌≤◌}
use mathlib.Core.Path.{◌≡◌}
use lib.Seq.{sets}
use Rattle.decimal.proofs.DecimalLaws.{last_digits}
use Rattle.decimal.proofs.put_number.Given as goal

abbrev pub invariant-loop-k : goal.invariant-loop-k
invariant-loop-k l = (l.at ≤ l.k) × (sets l.buf l.at (last_digits (l.k - l.at) l.rest) ≡ sets l.initial.buf l.at (last_digits (l.end - l.at) l.n))
