-- n bits fit.
use Rattle.std.proofs.Common.{◌≡◌, ◌-◌, ◌+◌, ◌*◌, false, get_or, refl, arith}
use Rattle.mend.specs.Rows.{row_from}
use Rattle.mend.proofs.BitLaws.{row_from-fits, digit_small, digit-byte, row_from-next}
use Rattle.mend.proofs.grid.row_of.Goals as goal

pub loop-b-init : goal.loop-b-init
unfolding row_from
loop-b-init c = refl

pub overflow_mul-v : goal.overflow_mul-v
overflow_mul-v c = omega (arith, row_from-fits c.args.grid.now c.args.a (16 - c.loop-b.b) (omega arith), c.loop-b.invariant)

pub overflow_add-v : goal.overflow_add-v
overflow_add-v c = omega (arith, row_from-fits c.args.grid.now c.args.a (16 - c.loop-b.b) (omega arith), c.loop-b.invariant, c.from.ensures, digit-byte (get_or c.args.grid.now (16 * c.args.a + (c.loop-b.b - 1)) false), digit_small (get_or c.args.grid.now (16 * c.args.a + (c.loop-b.b - 1)) false))

pub loop-b-preserved : goal.loop-b-preserved
loop-b-preserved c = rw (c.from.ensures, c.loop-b.invariant) (row_from-next c.args.grid.now c.args.a c.loop-b.b (omega arith) (omega arith))

pub returns : goal.returns
returns c = let e : c.loop-b.b ≡ 0 = omega arith in rw e at c.loop-b.invariant
