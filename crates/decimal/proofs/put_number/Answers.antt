-- The digits before k are still to come: putting them would end in the whole number.
use Prim.Native.Nat.{ℕ, ◌-◌, ◌/◌}
use mathlib.Core.Path.{refl, ◌∙◌, ap}
use native.Mathlib.Omega.{arith}
use lib.ListN.{set}
use lib.Seq.{sets}
use Rattle.decimal.proofs.DecimalLaws.{last_digits, digit-put, digits_end}
use Rattle.decimal.proofs.put_number.Goals as goal

pub overflow_add-end : goal.overflow_add-end
overflow_add-end c = omega (arith, c.requires.fits, c.places.ensures)

pub loop-k-init : goal.loop-k-init
loop-k-init c = (omega arith, refl)

pub bounds-buf-k : goal.bounds-buf-k
bounds-buf-k c = omega (arith, c.requires.fits, c.places.ensures)

pub loop-k-preserved : goal.loop-k-preserved
loop-k-preserved c = (
  omega arith,
  ap (λ (d : ℕ). sets (set c.loop-k.buf (c.loop-k.k - 1) d) c.args.at (last_digits (c.loop-k.k - 1 - c.args.at) (c.loop-k.rest / 10))) c.last_digit.ensures
      ∙ digit-put c.loop-k.buf c.args.at c.loop-k.k c.loop-k.rest c.loop-k-test.true ∙ c.loop-k.invariant.1,
)

pub returns : goal.returns
returns c =
    record {
      end = omega (arith, c.places.ensures);
      holds = digits_end c.args.buf.now c.loop-k.buf c.args.at c.loop-k.k _ c.loop-k.rest c.args.n c.loop-k-test.false (omega (arith, c.places.ensures)) c.loop-k.invariant.1;
    }
