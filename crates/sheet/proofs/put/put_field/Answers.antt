-- The digits, then what is due behind them.
use native.Mathlib.Omega.{arith}
use lib.ListN.{length-append}
use Rattle.decimal.specs.Decimal.{decimal}
use Rattle.writer.proofs.WriterLaws.{put_join, put_room, room_part}
use Rattle.sheet.specs.Text.{ending}
use Rattle.sheet.proofs.put.put_field.Goals as goal

pub put_number-a-requires : goal.put_number-a-requires
put_number-a-requires c =
    room_part c.requires (omega (arith, length-append (decimal c.args.v) (ending c.args.last)))

pub put_ending-requires : goal.put_ending-requires
put_ending-requires c = put_room c.put_number-a.ensures c.requires (omega arith)

pub returns : goal.returns
returns c = put_join c.put_number-a.ensures c.put_ending.ensures
