-- 4,000 steps have room in the buffer, what is read stays within them, and what was there is kept.
use Prim.Native.Nat.{ℕ, ◌*◌, ◌≤◌}
use mathlib.Core.Path.{◌≡◌, sym, ◌∙◌}
use mathlib.Core.List.{List, ◌++◌}
use native.Mathlib.Omega.{arith}
use native.Mathlib.Nat.{div-add-mod'}
use lib.ListN.{length, take, drop, length-append}
use lib.Seq.{length-take-le, take-append-le, take-take}
use Rattle.bench.proofs.TurnLaws.{turned_none, turned-some}
use Rattle.bench.proofs.turn.take_turn.Goals as goal

-- The rest that was there stays.
kept : (have most : ℕ) (b d : List ℕ) → have ≤ length d → have ≤ most → take have d ≡ take have (take most b) → take have (d ++ drop most b) ≡ take have b
kept have most b d h k e = take-append-le have d (drop most b) h ∙ e ∙ take-take have most b k

pub slice_bounds-read_on-end-2 : goal.slice_bounds-read_on-end-2
slice_bounds-read_on-end-2 g c = sym (length-take-le _ _ (omega (arith, c.requires.0.count_high, c.requires.3)))

pub read_on-got-requires : goal.read_on-got-requires
read_on-got-requires g c =
    omega (arith, length-take-le (4000 * c.args.t.count) c.args.steps.now (omega (arith, c.requires.0.count_high, c.requires.3)), c.requires.2)

pub returns-then-n-have : goal.returns-then-n-have
returns-then-n-have g c = (
  c.requires.1,
  c.requires.2,
  turned_none c.args.t c.args.s c.args.have c.args.steps.now _ _ c.requires.2
      (kept c.args.have (4000 * c.args.t.count) c.args.steps.now c.read_on-got.new.buf (omega (arith, c.read_on-got.ensures.0, c.read_on-got.ensures.1)) (omega (arith, c.requires.2)) c.read_on-got.ensures.2),
)

pub answer_whole-requires : goal.answer_whole-requires
answer_whole-requires g c =
    let w : length c.read_on-got.new.buf ≡ 4000 * c.args.t.count =
    c.read_on-got.auto.buf ∙ length-take-le _ _ (omega (arith, c.requires.0.count_high, c.requires.3)) in (
      c.requires.0,
      c.requires.1,
      omega (arith, c.read_on-got.ensures.0, w),
      omega (arith, c.read_on-got.ensures.0, length-append c.read_on-got.new.buf (drop (4000 * c.args.t.count) c.args.steps.now)),
      c.requires.4,
    )

pub returns : goal.returns
returns g c =
    let n = length-append c.read_on-got.new.buf (drop (4000 * c.args.t.count) c.args.steps.now) in
    let k = kept c.args.have (4000 * c.args.t.count) c.args.steps.now c.read_on-got.new.buf (omega (arith, c.read_on-got.ensures.0, c.read_on-got.ensures.1)) (omega (arith, c.requires.2)) c.read_on-got.ensures.2 in (
      c.answer_whole.ensures.0,
      c.answer_whole.ensures.1,
      turned-some c.args.t c.args.s c.args.have c.read_on-got.result.count c.args.steps.now _ _ _ c.read_on-got.ensures.1 (omega (arith, c.read_on-got.ensures.0, n)) k
          (omega (arith, c.answer_whole.ensures.2.have, div-add-mod' c.read_on-got.result.count c.args.t.count)) c.answer_whole.ensures.2,
    )
