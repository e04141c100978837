-- `reader::read` meets its contract: the head and the rows are read, then the first gap is looked for, then the threads are read.
use native.Mathlib.Omega.{arith}
use Rattle.basis.specs.Tests.{pick}
use Rattle.flow.specs.Gap.{first_gap}
use Rattle.flow.proofs.GapLaws.{gap-sought}
use Rattle.reader.specs.Reader.{after_rows}
use Rattle.reader.proofs.ReaderLaws.{read_ends, ranged_small, ranged-most, reading-is, version_refused, domains_refused, count_refused, rows_refused}
use Rattle.reader.proofs.read.Goals as goal

pub returns-in_err-v : goal.returns-in_err-v
returns-in_err-v c = read_ends _ _ _ c.from_residual.ensures.1 (version_refused _ c.in_err-v.ensures)

pub returns-in_err-d : goal.returns-in_err-d
returns-in_err-d c = read_ends _ _ _ c.from_residual-in_err-d.ensures.1 (domains_refused _ _ c.in_ok-v.ensures c.in_err-d.ensures)

pub returns-in_err-n : goal.returns-in_err-n
returns-in_err-n c =
    read_ends _ _ _ c.from_residual-in_err-n.ensures.1 (count_refused _ _ _ c.in_ok-v.ensures c.in_ok-d.ensures c.in_err-n.ensures)

pub overflow_cast-version : goal.overflow_cast-version
overflow_cast-version c = record { fits = ranged_small _ _ _ _ _ 256 c.in_ok-v.ensures (omega arith) }

pub overflow_cast-domains : goal.overflow_cast-domains
overflow_cast-domains c = record { fits = ranged_small _ _ _ _ _ 256 c.in_ok-d.ensures (omega arith) }

pub overflow_cast-count : goal.overflow_cast-count
overflow_cast-count c = record { fits = ranged_small _ _ _ _ _ 256 c.in_ok-n.ensures (omega arith) }

pub read_rows-requires : goal.read_rows-requires
read_rows-requires c = ranged-most _ _ _ _ _ c.in_ok-d.ensures

pub returns-in_err-cursor : goal.returns-in_err-cursor
returns-in_err-cursor c =
    read_ends _ _ _ c.from_residual-in_err-cursor.ensures.1
    (rows_refused _ _ _ _ c.in_ok-v.ensures c.in_ok-d.ensures c.in_ok-n.ensures c.in_err-cursor.ensures)

pub returns-in-Some : goal.returns-in-Some
unfolding after_rows pick
returns-in-Some c = rw (reading-is _ _ _ _ _ c.in_ok-v.ensures c.in_ok-d.ensures c.in_ok-n.ensures c.in_ok-cursor.ensures, gap-sought c.first_gap.result (first_gap c.in_ok-cursor.rows c.in_ok-d.d.value) c.first_gap.ensures, c.in-Some.is)

pub read_rest-requires : goal.read_rest-requires
read_rest-requires c = ranged-most _ _ _ _ _ c.in_ok-n.ensures

pub returns : goal.returns
unfolding after_rows pick
returns c = rw (reading-is _ _ _ _ _ c.in_ok-v.ensures c.in_ok-d.ensures c.in_ok-n.ensures c.in_ok-cursor.ensures, gap-sought c.first_gap.result (first_gap c.in_ok-cursor.rows c.in_ok-d.d.value) c.first_gap.ensures, c.in_default.is) c.read_rest.ensures
