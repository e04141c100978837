-- `cleaning::tally` meets its contract: what is counted and what is left are all, and the answer for the rest of the bytes is the answer for all of them.
use mathlib.Core.Path.{◌≡◌, refl, sym, ◌∙◌, ap}
use mathlib.Core.Bool.{Bool, true, false}
use native.Mathlib.Omega.{arith}
use Prim.Native.Nat.{ℕ, ◌+◌}
use lib.ListN.{length, get_or, drop}
use Rattle.basis.specs.Tests.{pick}
use Rattle.cleaning.specs.Cleanings.{cleaned, known, all_known}
use Rattle.cleaning.specs.Scan.{barred, scanned, tallied}
use Rattle.std.specs.Prelude.{Ok}
use Rattle.cleaning.proofs.ScanLaws.{at-due, at_none, at_end, at-known, known_end}
use Rattle.cleaning.proofs.tally.Goals as goal
use Rattle.cleaning.proofs.tally.Goals.{then-must_clean, else-must_clean}

pub loop-i-init : goal.loop-i-init
unfolding scanned
loop-i-init c = (omega arith, omega arith, refl)

pub returns-then-not-is_known : goal.returns-then-not-is_known
unfolding tallied pick
returns-then-not-is_known c =
    let unknown : known c.args.n (get_or c.args.trace.now c.loop-i.i 0) ≡ false = sym c.is_known.ensures ∙ c.if-not-is_known.true in
    let refused : all_known c.args.n c.args.trace.now ≡ false
    = sym c.loop-i.invariant.2 ∙ rw unknown at (at-known c.args.n c.args.trace.now c.loop-i.i c.loop-i-test.true) in
    rw refused

pub loop-i-preserved : goal.loop-i-preserved
loop-i-preserved c =
    let must : ℕ → ℕ → Bool = barred c.args.n c.args.w.now in
    let named : known c.args.n (get_or c.args.trace.now c.loop-i.i 0) ≡ true = sym c.is_known.ensures ∙ c.if-not-is_known.false in
    let rest : ℕ → ℕ = λ a. length (cleaned must c.args.n (c.loop-i.i + 1) a (drop (c.loop-i.i + 1) c.args.trace.now)) in (
      elim c.if-must_clean.branch [ then-must_clean w ↦ omega arith | else-must_clean w ↦ omega arith ],
      elim c.if-must_clean.branch [
        | then-must_clean w ↦ omega (arith, ap rest c.latest_of-a.ensures, c.loop-i.invariant.1, ap length (at-due must c.args.n c.args.trace.now c.loop-i.i c.loop-i.a c.loop-i-test.true (sym c.must_clean.ensures ∙ w.if-must_clean.true)))
        | else-must_clean w ↦ omega (arith, ap rest c.latest_of-a.ensures, c.loop-i.invariant.1, ap length (at_none must c.args.n c.args.trace.now c.loop-i.i c.loop-i.a c.loop-i-test.true (sym c.must_clean.ensures ∙ w.if-must_clean.false)))
      ],
      sym (rw named at (at-known c.args.n c.args.trace.now c.loop-i.i c.loop-i-test.true)) ∙ c.loop-i.invariant.2,
    )

pub returns : goal.returns
unfolding tallied pick
returns c =
    let done = at_end (barred c.args.n c.args.w.now) c.args.n c.args.trace.now c.loop-i.i c.loop-i.a c.loop-i-test.false in
    let named : all_known c.args.n c.args.trace.now ≡ true = sym c.loop-i.invariant.2 ∙ known_end c.args.n c.args.trace.now c.loop-i.i c.loop-i-test.false in
    rw named (ap Ok (omega (arith, rw done at c.loop-i.invariant.1)))
