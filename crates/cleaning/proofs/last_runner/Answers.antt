-- Who last ran in what is left is who last ran in the whole.
use mathlib.Core.Path.{refl, sym, ◌∙◌, ap}
use Prim.Native.Nat.{ℕ, ◌+◌}
use lib.ListN.{drop}
use Rattle.cleaning.specs.Cleanings.{last_run}
use Rattle.cleaning.proofs.ScanLaws.{last-at, last_at_end}
use Rattle.cleaning.proofs.last_runner.Goals as goal

pub loop-i-init : goal.loop-i-init
loop-i-init c = refl

pub loop-i-preserved : goal.loop-i-preserved
loop-i-preserved c =
    let goes : ℕ → ℕ = λ a. last_run c.args.t a (drop (c.loop-i.i + 1) c.args.trace.now) in
    ap goes c.latest_of-a.ensures ∙ sym (last-at c.args.t c.args.trace.now c.loop-i.i c.loop-i.a c.loop-i-test.true) ∙ c.loop-i.invariant

pub returns : goal.returns
returns c = sym (last_at_end c.args.t c.args.trace.now c.loop-i.i c.loop-i.a c.loop-i-test.false) ∙ c.loop-i.invariant
