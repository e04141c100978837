-- Drawing a number that is too large to the largest that fits changes no test of a frame.
use Prim.Native.Nat.{ℕ, ◌≤◌, min}
use mathlib.Core.Path.{◌≡◌, sym, ◌∙◌}
use native.Mathlib.Omega.{arith}
use native.Mathlib.Nat.{min-eq_left, min-eq_right}
use lib.Dec.{ltb, leb}
use borrow.Author.Tests.{ltb-true, ltb-false, le-ltb, le-leb}
use Rattle.basis.specs.Tests.{and}
use Rattle.basis.proofs.TestLaws.{by_test}
use Rattle.table.specs.Ranges.{within}
use Rattle.frame.specs.Frame.{window_lengths, window_ok}

-- A limit within reach is passed by the number drawn exactly where the number itself passes it.
drawn_below : (v most limit : ℕ) → limit ≤ most → ltb (min v most) limit ≡ ltb v limit
drawn_below v most limit h =
    by_test (ltb v most)
    (λ t. let e : min v most ≡ v = min-eq_left (omega (arith, ltb-true v most t)) in rw e)
    (λ t. let e : min v most ≡ most = min-eq_right (ltb-false v most t) in
    rw e (le-ltb most limit h ∙ sym (le-ltb v limit (omega (arith, ltb-false v most t)))))

drawn-above : (v most : ℕ) → 1 ≤ most → leb 1 (min v most) ≡ leb 1 v
drawn-above v most h =
    by_test (ltb v most)
    (λ t. let e : min v most ≡ v = min-eq_left (omega (arith, ltb-true v most t)) in rw e)
    (λ t. let e : min v most ≡ most = min-eq_right (ltb-false v most t) in
    rw e (le-leb 1 most h ∙ sym (le-leb 1 v (omega (arith, ltb-false v most t)))))

-- A line's window passes with d domains exactly where its two numbers would.
pub window-drawn : (d x y : ℕ) → d ≤ 255 → window_ok d (record { domain = min x 255; length = min y 65535 }) ≡ and (ltb x d) (within window_lengths y)
unfolding window_ok within
window-drawn d x y h = rw (drawn_below x 255 d h, drawn-above y 65535 (omega arith), drawn_below y 65535 60001 (omega arith))
