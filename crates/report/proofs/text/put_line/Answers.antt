-- The clock, a space, the choice and LF, one after the other: 10, 1, 4 and 1 bytes at most.
use Prim.Native.Nat.{◌≤◌}
use native.Mathlib.Omega.{arith}
use lib.ListN.{length}
use Rattle.writer.proofs.WriterLaws.{put_join, put-length}
use Rattle.decimal.specs.Decimal.{decimal}
use Rattle.report.specs.Lines.{step_line}
use Rattle.decimal.proofs.DecimalLaws.{decimal-short}
use Rattle.report.proofs.text.put_line.Goals as goal

pub put_number-a-requires : goal.put_number-a-requires
put_number-a-requires c =
    record { fits = omega (arith, c.requires, decimal-short 10 c.args.clock (omega arith) (omega (arith, c.ranges.clock.fits))) }

pub put_byte-c-requires : goal.put_byte-c-requires
put_byte-c-requires c =
    let short : length (decimal c.args.clock) ≤ 10 = decimal-short 10 c.args.clock (omega arith) (omega (arith, c.ranges.clock.fits)) in
    omega (arith, c.requires, c.put_number-a.ensures.end, put-length c.put_number-a.ensures)

pub put_choice-d-requires : goal.put_choice-d-requires
put_choice-d-requires c =
    let short : length (decimal c.args.clock) ≤ 10 = decimal-short 10 c.args.clock (omega arith) (omega (arith, c.ranges.clock.fits)) in
    omega (arith, c.requires, c.put_byte-c.ensures.end, c.put_number-a.ensures.end, put-length (put_join c.put_number-a.ensures c.put_byte-c.ensures))

pub put_byte-requires : goal.put_byte-requires
put_byte-requires c =
    let short : length (decimal c.args.clock) ≤ 10 = decimal-short 10 c.args.clock (omega arith) (omega (arith, c.ranges.clock.fits)) in
    omega (
      arith,
      c.requires,
      c.put_choice-d.ensures.0,
      c.put_byte-c.ensures.end,
      c.put_number-a.ensures.end,
      put-length (put_join (put_join c.put_number-a.ensures c.put_byte-c.ensures) c.put_choice-d.ensures.1),
    )

pub returns : goal.returns
unfolding step_line
returns c =
    let short : length (decimal c.args.clock) ≤ 10 = decimal-short 10 c.args.clock (omega arith) (omega (arith, c.ranges.clock.fits)) in
    rw (← c.answer_of.ensures) (
      omega (arith, c.put_choice-d.ensures.0, c.put_byte-c.ensures.end, c.put_number-a.ensures.end, c.put_byte.ensures.end),
      put_join (put_join (put_join c.put_number-a.ensures c.put_byte-c.ensures) c.put_choice-d.ensures.1) c.put_byte.ensures,
    )
