-- Behind what is copied stands what the places were filled with.
use Rattle.std.proofs.Common.{ℕ, length}
use Rattle.std.proofs.lemmas.List.{drop-replicate}
use Rattle.table.specs.Threads.{none}
use Rattle.example.proofs.table_of.Goals as goal

pub returns : goal.returns
returns c =
    rw (c.copy_from_slice.ensures.after, c.copy_from_slice-2.ensures.after, c.no_thread-places.ensures, drop-replicate {X = ℕ} (length c.args.rows.now) 16 0, drop-replicate (length c.args.threads.now) 32 none)
