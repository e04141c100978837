-- The letter, and behind it a byte's digits, which are three at most.
use native.Mathlib.Omega.{arith}
use Rattle.writer.proofs.WriterLaws.{put_join, put-length}
use Rattle.decimal.proofs.DecimalLaws.{decimal-short}
use Rattle.report.proofs.text.put_named.Goals as goal

pub put_number-requires : goal.put_number-requires
put_number-requires c =
    record { fits = omega (arith, c.put_byte-a.ensures.end, put-length c.put_byte-a.ensures, c.requires, decimal-short 3 c.args.i (omega arith) (omega (arith, c.ranges.i.fits))) }

pub returns : goal.returns
returns c =
    let p = put_join c.put_byte-a.ensures c.put_number.ensures in
    (omega (arith, p.end, decimal-short 3 c.args.i (omega arith) (omega (arith, c.ranges.i.fits))), p)
