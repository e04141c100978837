-- The size of a table is that of its three parts.
use native.Mathlib.Omega.{arith}
use Rattle.writer.proofs.WriterLaws.{rows-take, bytes-length}
use Rattle.writer.proofs.size.table_size.Goals as goal

pub returns : goal.returns
returns c =
    omega (arith, bytes-length c.args.t (omega arith) (omega arith) (omega arith), rw (← rows-take c.args.t.rows c.args.t.domains (omega arith)) at c.numbers_size-a.ensures.0, c.threads_size-b.ensures)
