use Rattle.reader.proofs.ReaderLaws.{fields_ends, fields-next, fields_end}
use Rattle.table.specs.Threads.{fields_in}
use Rattle.table.proofs.RangeLaws.{fields_in-most}
use Rattle.reader.specs.Reader.{fields_from}
use native.Mathlib.Omega.{arith}
use mathlib.Core.Path.{◌≡◌, refl}
use Rattle.reader.proofs.parts.read_fields.Goals as goal

pub loop-k-init : goal.loop-k-init
unfolding fields_from
loop-k-init c = (omega arith, rw c.fields_in-n.ensures (fields_in-most _), refl)

pub returns-in_err-at : goal.returns-in_err-at
returns-in_err-at c =
    fields_ends _ _ _ c.from_residual.ensures.1
    (rw (← c.fields_in-n.ensures) (fields_end _ _ _ _ _ _ _ _ _ _ c.loop-k.invariant.2 c.loop-k-test.true c.in_err-at.ensures))

pub loop-k-preserved : goal.loop-k-preserved
loop-k-preserved c = (omega arith, c.loop-k.invariant.1, fields-next _ _ _ _ _ _ _ _ _ _ c.loop-k.invariant.2 c.in_ok-at.ensures)

pub returns : goal.returns
returns c = let e : c.loop-k.k ≡ fields_in c.args.version = omega (arith, c.fields_in-n.ensures) in rw e at c.loop-k.invariant.2
