use Rattle.sheet.proofs.CodeJoins.{passed-own, passed-extra, passed_all}
use Rattle.sheet.proofs.judge.passed.Goals as goal

pub returns-in-Some : goal.returns-in-Some
returns-in-Some c = passed-own _ _ c.requires c.in-Some.ensures _ _

pub returns-then-cut-s : goal.returns-then-cut-s
returns-then-cut-s c = passed-extra _ _ _ c.in_default.ensures c.if-cut-s.true

pub returns : goal.returns
returns c = passed_all _ _ _ c.in_default.ensures c.if-cut-s.false
