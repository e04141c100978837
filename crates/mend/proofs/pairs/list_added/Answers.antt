-- Of the first c pairs those added stand in the first n places, and the further places stay.
use Rattle.std.proofs.Common.{◌≡◌, ◌<◌, ◌+◌, ◌++◌, length, drop, sym, ◌∙◌, refl, arith}
use Rattle.mend.specs.Rows.{added}
use Rattle.mend.proofs.PairLaws.{room, put_next, pass_next}
use Rattle.mend.proofs.pairs.list_added.Goals as goal
use Rattle.mend.proofs.pairs.list_added.Goals.{Then-is_added, Joined-is_added, then-is_added, else-is_added}

-- The next pair has room.
has_room : (c : Then-is_added) → c.loop-c.n < length c.args.pairs.now
has_room c = room c.args.rows c.args.mended c.loop-c.c c.loop-c.n c.args.pairs.now (omega arith) c.requires c.loop-c.invariant.0 (sym c.is_added.ensures ∙ c.if-is_added.true)

-- What holds before the next pair.
next : (c : Joined-is_added) → (c.if-is_added.n ≡ length (added c.args.rows c.args.mended (c.loop-c.c + 1)))
    × (c.if-is_added.pairs ≡ added c.args.rows c.args.mended (c.loop-c.c + 1) ++ drop c.if-is_added.n c.args.pairs.now)
next c = elim c.if-is_added.branch [
  | then-is_added w ↦ rw (w.n-is, w.pairs-is) (put_next c.args.rows c.args.mended c.loop-c.c c.loop-c.n c.args.pairs.now c.loop-c.pairs c.loop-c.invariant.0 c.loop-c.invariant.1 (room c.args.rows c.args.mended c.loop-c.c c.loop-c.n c.args.pairs.now (omega arith) c.requires c.loop-c.invariant.0 (sym c.is_added.ensures ∙ w.if-is_added.true)) (sym c.is_added.ensures ∙ w.if-is_added.true))
  | else-is_added w ↦ rw (w.n-is, w.pairs-is) (pass_next c.args.rows c.args.mended c.loop-c.c c.loop-c.n c.args.pairs.now c.loop-c.pairs c.loop-c.invariant.0 c.loop-c.invariant.1 (sym c.is_added.ensures ∙ w.if-is_added.false))
]

pub loop-c-init : goal.loop-c-init
unfolding added
loop-c-init c = (refl, refl)

pub bounds-pairs-n : goal.bounds-pairs-n
bounds-pairs-n c = omega (arith, has_room c, c.loop-c.auto.pairs)

pub loop-c-preserved : goal.loop-c-preserved
loop-c-preserved c = next (goal.at.loop-c-preserved c).Joined-is_added

pub returns-after-is_added : goal.returns-after-is_added
returns-after-is_added c =
    let e : c.loop-c.c + 1 ≡ 256 = omega arith in
    let h = next (goal.at.returns-after-is_added c).Joined-is_added in
    rw (← (rw e at h.0)) (rw e at h.1)

pub returns : goal.returns
returns c = absurd (omega arith)
