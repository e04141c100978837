use native.Mathlib.Omega.{arith}
use native.Mathlib.Nat.{min-eq_left, min-eq_right}
use mathlib.Core.Path.{◌≡◌, ◌∙◌, ap}
use Prim.Native.Nat.{ℕ, ◌≤◌, min}
use lib.Dec.{ltb}
use borrow.Author.Tests.{ltb-true, ltb-false, ne_eqb}
use Rattle.basis.specs.Tests.{pick}
use Rattle.basis.proofs.TestLaws.{by_test}
use Rattle.table.specs.Threads.{fields_in}
use Rattle.table.proofs.RangeLaws.{fields_in-most, fields_in_least}
use Rattle.sheet.proofs.scan.width.Goals as goal

-- 255 is no version either, and stands for those above.
fields-above : (v : ℕ) → 256 ≤ v → fields_in 255 ≡ fields_in v
unfolding fields_in pick
fields-above v h = rw (ne_eqb v 1 (λ z. omega arith))

drawn : (v : ℕ) → fields_in (min v 255) ≡ fields_in v
drawn v =
    by_test (ltb v 256)
    (λ t. ap fields_in (min-eq_left {n = v} {m = 255} (omega (arith, ltb-true v 256 t))))
    (λ t. ap fields_in (min-eq_right {n = 255} {m = v} (omega (arith, ltb-false v 256 t))) ∙ fields-above v (ltb-false v 256 t))

pub returns : goal.returns
returns c = (c.fields_in.ensures ∙ ap fields_in c.min.ensures ∙ drawn c.args.version, omega (arith, c.fields_in.ensures, fields_in-most c.min.result), omega (arith, c.fields_in.ensures, fields_in_least c.min.result))
