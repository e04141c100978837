-- The bytes that were moved.
use Rattle.std.proofs.Common.{◌≡◌, ◌+◌, ◌-◌, take, drop, ap, ◌∙◌, arith, length-drop}
use lib.Seq.{paste}
use Rattle.std.proofs.lemmas.List.Edits.{take-paste}
use Rattle.bench.proofs.turn.carry.Goals as goal

pub returns : goal.returns
returns c =
    let all = c.args.steps.now in
    let n = c.args.n in
    let from = c.args.from in
    let many : from + n - from ≡ n = omega arith in
    let same : n ≡ 0 + n = omega arith in
    ap (take n) c.copy_within.ensures.after ∙ ap (λ j. take n (paste all 0 (drop from all) j)) many
    ∙ ap (λ k. take k (paste all 0 (drop from all) n)) same ∙ take-paste all 0 (drop from all) n (omega arith) (omega (arith, length-drop from all))
