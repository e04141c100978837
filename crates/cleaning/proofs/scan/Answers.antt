-- `cleaning::scan` meets its contract: what is left of the trace has the same first cleaning.
use mathlib.Core.Path.{refl, sym, ◌∙◌, ap}
use Prim.Native.Nat.{ℕ, ◌+◌}
use lib.ListN.{drop}
use Rattle.std.specs.Prelude.{Option}
use Rattle.cleaning.specs.Cleanings.{cleaned}
use Rattle.cleaning.specs.Scan.{first, barred}
use Rattle.cleaning.specs.declared.Cleaning.{Cleaning}
use Rattle.cleaning.proofs.ScanLaws.{at-due, at_none, at_end}
use Rattle.cleaning.proofs.scan.Goals as goal

pub loop-i-init : goal.loop-i-init
loop-i-init c = refl

pub returns-then-must_clean : goal.returns-then-must_clean
returns-then-must_clean c =
    sym (ap first (at-due (barred c.args.n c.args.w.now) c.args.n c.args.trace.now c.loop-i.i c.loop-i.a c.loop-i-test.true (sym c.must_clean.ensures ∙ c.if-must_clean.true)))
    ∙ c.loop-i.invariant

pub loop-i-preserved : goal.loop-i-preserved
loop-i-preserved c =
    let goes : ℕ → Option Cleaning = λ a. first (cleaned (barred c.args.n c.args.w.now) c.args.n (c.loop-i.i + 1) a (drop (c.loop-i.i + 1) c.args.trace.now)) in
    ap goes c.latest_of-a.ensures
    ∙ sym (ap first (at_none (barred c.args.n c.args.w.now) c.args.n c.args.trace.now c.loop-i.i c.loop-i.a c.loop-i-test.true (sym c.must_clean.ensures ∙ c.if-must_clean.false)))
    ∙ c.loop-i.invariant

pub returns : goal.returns
returns c =
    sym (ap first (at_end (barred c.args.n c.args.w.now) c.args.n c.args.trace.now c.loop-i.i c.loop-i.a c.loop-i-test.false)) ∙ c.loop-i.invariant
