use Rattle.reader.proofs.ReaderLaws.{rows_ends, rows_next, rows_end}
use Rattle.reader.specs.Reader.{rows_from}
use native.Mathlib.Omega.{arith}
use mathlib.Core.Path.{◌≡◌, refl}
use Rattle.reader.proofs.parts.read_rows.Goals as goal

pub loop-i-init : goal.loop-i-init
unfolding rows_from
loop-i-init c = (omega arith, refl)

pub returns-in_err-k : goal.returns-in_err-k
returns-in_err-k c =
    rows_ends _ _ _ c.from_residual.ensures.1 (rows_end _ _ _ _ _ _ _ c.loop-i.invariant.1 c.loop-i-test.true c.in_err-k.ensures)

pub loop-i-preserved : goal.loop-i-preserved
loop-i-preserved c = (omega arith, rows_next _ _ _ _ _ _ _ c.loop-i.invariant.1 c.in_ok-k.ensures)

pub returns : goal.returns
returns c = let e : c.loop-i.i ≡ c.args.domains = omega arith in rw e at c.loop-i.invariant.1
