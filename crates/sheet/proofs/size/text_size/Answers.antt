-- The size of a text is that of its three parts.
use native.Mathlib.Omega.{arith}
use Rattle.sheet.proofs.LineLaws.{parts_length}
use Rattle.sheet.proofs.size.text_size.Goals as goal

pub returns : goal.returns
returns c =
    omega (
      arith,
      parts_length c.args.t,
      c.line_size-a.ensures.0,
      c.rows_size-b.ensures.0,
      c.threads_size-c.ensures.0,
    )
