use Rattle.cleaning.proofs.OutcomeLaws.{may_fill, outcome-is, refused-outcome, handed}
use Rattle.std.proofs.Common.{◌≡◌, false, Result, Ok, Err, is_ok, length, refl, sym, ap, ◌∙◌}
use Rattle.cleaning.proofs.clean.Goals as goal

pub returns-in_err-m : goal.returns-in_err-m
returns-in_err-m c =
    let same = handed _ _ _ c.from_residual.ensures.1 refl in
    refused-outcome _ _ _ _ (ap is_ok same) (same ∙ sym c.in_err-m.was ∙ c.judge.ensures)

pub fill-requires : goal.fill-requires
fill-requires c =
    rw (sym c.judge.ensures ∙ c.in_ok-m.was) at (may_fill c.args.t c.ways_of-w.result c.args.trace.now (length c.args.list.now) c.ways_of-w.ensures)

pub returns : goal.returns
returns c =
    outcome-is c.args.t c.ways_of-w.result c.args.trace.now _ _ _ c.ways_of-w.ensures (sym c.in_ok-m.was ∙ c.judge.ensures) c.fill.ensures
