-- None without threads; else as many as there are masks and bytes for.
use Rattle.runs.specs.Playing.{steps_in}
use Rattle.runs.proofs.StepsLaws.{steps-none}
use Rattle.runs.proofs.judge.whole_steps.Goals as goal

pub returns-then-count-eq0 : goal.returns-then-count-eq0
returns-then-count-eq0 c = steps-none _ _ _ c.if-count-eq0.true

pub returns : goal.returns
unfolding steps_in
returns c = c.min.ensures
