use Rattle.state.specs.State.{progress, place_fits, fits}
use Rattle.state.specs.declared.State.{State}
use Rattle.table.specs.declared.Table.{Table}
use Rattle.basis.proofs.TestLaws.{and-false, every-none, every-next, every_fails}
use lib.Dec.{leb}
use borrow.Author.Tests.{lt-leb, le-leb}
use Prim.Native.Nat.{ℕ}
use mathlib.Core.Bool.{Bool, false}
use mathlib.Core.Path.{◌≡◌, sym, ◌∙◌}
use native.Mathlib.Nat.{le_antisymm}
use borrow.Author.Rules.{rules}
use Rattle.state.proofs.fit.fits.Goals as goal

-- The test of one place, in a turn.
abbrev test : Table → State → ℕ → Bool
test t s j = place_fits t s.clock j (progress s j)

pub returns-then-clock-gt-LAST_CLOCK : goal.returns-then-clock-gt-LAST_CLOCK
unfolding fits
returns-then-clock-gt-LAST_CLOCK c = simp (lt-leb _ _ c.if-clock-gt-LAST_CLOCK.true)

pub loop-i-init : goal.loop-i-init
loop-i-init c = (search rules, every-none _)

pub returns-then-not-place_fits : goal.returns-then-not-place_fits
unfolding fits place_fits
returns-then-not-place_fits c =
    let e : test c.args.t c.args.s c.loop-i.i ≡ false = sym c.place_fits.ensures ∙ c.if-not-place_fits.true in
    simp (every_fails (test c.args.t c.args.s) c.loop-i.i 32 e c.loop-i-test.true) (sym (and-false (leb c.args.s.clock 1000000000)))

pub loop-i-preserved : goal.loop-i-preserved
unfolding place_fits
loop-i-preserved c =
    (search rules, every-next (test c.args.t c.args.s) c.loop-i.i c.loop-i.invariant.1 (sym c.place_fits.ensures ∙ c.if-not-place_fits.false))

pub returns : goal.returns
unfolding fits
returns c =
    let e = le_antisymm c.loop-i.invariant.0 c.loop-i-test.false in
    simp (le-leb _ _ c.if-clock-gt-LAST_CLOCK.false) (sym (rw e at c.loop-i.invariant.1))
