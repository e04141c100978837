-- `cleaning::ways_of` meets its contract: the numbers of the threads before this one are stored.
use mathlib.Core.Path.{refl}
use native.Mathlib.Omega.{arith}
use lib.ListN.{length-set}
use Rattle.cleaning.proofs.WayLaws.{begun-none, begun-next, begun_all}
use Rattle.cleaning.proofs.ways_of.Goals as goal

pub loop-i-init : goal.loop-i-init
loop-i-init c = (omega arith, refl, begun-none _ _)

pub loop-i-preserved : goal.loop-i-preserved
loop-i-preserved c = (
  omega arith,
  simp length-set c.loop-i.invariant.1,
  begun-next c.args.t c.loop-i.w c.loop-i.i _ c.row.result c.loop-i.invariant.1 (omega arith) refl c.row.ensures c.loop-i.invariant.2,
)

pub returns : goal.returns
returns c = begun_all _ _ _ c.loop-i-test.false c.loop-i.invariant.2
