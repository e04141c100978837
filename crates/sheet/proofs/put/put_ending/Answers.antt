-- CR and LF one after the other, or a comma.
use mathlib.Core.Path.{ap}
use native.Mathlib.Omega.{arith}
use lib.ListN.{length}
use Rattle.writer.proofs.WriterLaws.{put_join, put-length}
use Rattle.sheet.proofs.LineLaws.{ending-last, ending_more}
use Rattle.sheet.proofs.put.put_ending.Goals as goal

pub put_byte-a-requires : goal.put_byte-a-requires
put_byte-a-requires c = omega (arith, c.requires.fits, ap length (ending-last c.if-last.true))

pub put_byte-requires : goal.put_byte-requires
put_byte-requires c =
    omega (arith, c.requires.fits, c.put_byte-a.ensures.end, put-length c.put_byte-a.ensures, ap length (ending-last c.if-last.true))

pub returns-then-last : goal.returns-then-last
returns-then-last c =
    rw (ending-last c.if-last.true)
    (put_join c.put_byte-a.ensures c.put_byte.ensures)

pub put_byte-requires-2 : goal.put_byte-requires-2
put_byte-requires-2 c = omega (arith, c.requires.fits, ap length (ending_more c.if-last.false))

pub returns : goal.returns
returns c = rw (ending_more c.if-last.false) c.put_byte-2.ensures
