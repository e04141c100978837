use Rattle.walk.proofs.WalkLaws.{kept_counts, finish-each}
use Rattle.state.proofs.StateLaws.{finish_rested}
use Rattle.walk.specs.Walk.{visit, heard}
use Rattle.basis.specs.Tests.{pick}
use borrow.Author.Tests.{eq-eqb, ne_eqb}
use borrow.Author.Rules.{rules}
use Rattle.walk.proofs.visits.visit.Goals as goal

pub returns-then-p-eq0 : goal.returns-then-p-eq0
unfolding pick visit
returns-then-p-eq0 c = simp (eq-eqb _ _ c.if-p-eq0.true)

pub decide-requires : goal.decide-requires
decide-requires c = let k = finish-each 32 _ (kept_counts 32 999999999) c.args.i _ c.requires.0 c.requires.1 in (c.requires.0, rw c.finish.ensures (finish_rested _ c.args.i (search rules)), rw c.finish.ensures k)

pub returns-then-b-eq2 : goal.returns-then-b-eq2
unfolding pick visit heard
returns-then-b-eq2 c = simp (ne_eqb _ _ c.if-p-eq0.false, eq-eqb _ _ c.if-b-eq2.true) (cc)

pub returns : goal.returns
unfolding pick visit heard
returns c = simp (ne_eqb _ _ c.if-p-eq0.false, ne_eqb _ _ c.if-b-eq2.false) (cc)
