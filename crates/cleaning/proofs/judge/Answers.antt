-- `cleaning::judge` meets its contract.
use mathlib.Core.Path.{◌≡◌, sym, ◌∙◌, ap}
use mathlib.Core.Bool.{true}
use native.Mathlib.Omega.{arith}
use Rattle.basis.specs.Tests.{pick}
use Rattle.basis.specs.Refusals.{given_or}
use Rattle.table.specs.Legal.{legal}
use Rattle.cleaning.specs.Scan.{reported}
use Rattle.cleaning.proofs.OutcomeLaws.{short-of, room_for, handed}
use Rattle.cleaning.proofs.judge.Goals as goal

pub returns-then-not-legal : goal.returns-then-not-legal
unfolding reported pick
returns-then-not-legal c = rw (sym c.legal.ensures ∙ c.if-not-legal.true)

pub returns-in_err-m : goal.returns-in_err-m
returns-in_err-m c =
    let ok : legal c.args.t ≡ true = sym c.legal.ensures ∙ c.if-not-legal.false in
    let e = c.in_err-m.was in
    handed _ _ _ c.from_residual.ensures.1
    (sym e ∙ c.tally.ensures
    ∙ room_for c.args.t _ c.args.trace.now ok c.ways_of-w.ensures c.args.places (rw (sym c.tally.ensures ∙ e) (omega arith)))

pub returns-then-places-m : goal.returns-then-places-m
returns-then-places-m c =
    let ok : legal c.args.t ≡ true = sym c.legal.ensures ∙ c.if-not-legal.false in
    short-of c.args.t _ c.args.trace.now ok c.ways_of-w.ensures c.args.places (rw (sym c.tally.ensures ∙ c.in_ok-m.was) c.if-places-m.true)

pub returns : goal.returns
returns c =
    let ok : legal c.args.t ≡ true = sym c.legal.ensures ∙ c.if-not-legal.false in
    sym c.in_ok-m.was ∙ c.tally.ensures
    ∙ room_for c.args.t _ c.args.trace.now ok c.ways_of-w.ensures c.args.places (rw (sym c.tally.ensures ∙ c.in_ok-m.was) c.if-places-m.false)
