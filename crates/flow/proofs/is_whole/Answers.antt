use Rattle.flow.proofs.GapLaws.{apart-whole, covered_whole}
use mathlib.Core.Path.{sym, ◌∙◌}
use Rattle.flow.proofs.is_whole.Goals as goal

pub returns-then-not-may_flow : goal.returns-then-not-may_flow
returns-then-not-may_flow c h k = apart-whole _ _ _ k (sym c.may_flow.ensures ∙ c.if-not-may_flow.true)

pub returns-else-not-may_flow : goal.returns-else-not-may_flow
returns-else-not-may_flow c h k =
    let e = sym c.covers.ensures ∙ h in covered_whole _ _ _ k (rw (c.row.ensures, c.row-else-not-may_flow.ensures) at e)
