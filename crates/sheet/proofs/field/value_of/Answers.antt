-- The digits so far have the value v, which is small.
use mathlib.Core.Path.{refl}
use native.Mathlib.Omega.{arith}
use Rattle.sheet.proofs.FieldLaws.{digit_at, value_over, value_on, value_done}
use Rattle.sheet.proofs.field.value_of.Goals as goal

pub loop-b-init : goal.loop-b-init
loop-b-init c = (omega arith, c.requires, refl)

pub overflow_sub-v : goal.overflow_sub-v
overflow_sub-v c = omega (arith, (digit_at _ _ _ refl c.loop-b-test.true c.loop-b.invariant.1).0)

pub overflow_mul-v : goal.overflow_mul-v
overflow_mul-v c = omega (arith, c.loop-b.invariant.0)

pub overflow_add-v : goal.overflow_add-v
overflow_add-v c = omega (arith, c.loop-b.invariant.0, (digit_at _ _ _ refl c.loop-b-test.true c.loop-b.invariant.1).1)

pub returns-then-v-gt65535 : goal.returns-then-v-gt65535
returns-then-v-gt65535 c = (refl, value_over _ _ _ c.loop-b.invariant.2 _ refl c.loop-b-test.true c.if-v-gt65535.true)

pub loop-b-preserved : goal.loop-b-preserved
loop-b-preserved c = (c.if-v-gt65535.false, (digit_at _ _ _ refl c.loop-b-test.true c.loop-b.invariant.1).2, value_on _ _ _ c.loop-b.invariant.2 _ refl c.loop-b-test.true)

pub overflow_cast-result : goal.overflow_cast-result
overflow_cast-result c = omega (arith, c.loop-b.invariant.0)

pub returns : goal.returns
returns c = (value_done _ _ _ c.loop-b.invariant.2 c.loop-b-test.false, c.loop-b.invariant.0)
