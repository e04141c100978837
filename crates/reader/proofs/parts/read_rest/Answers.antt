use Rattle.basis.specs.Tests.{pick}
use Rattle.reader.specs.Reader.{ended}
use Rattle.reader.proofs.ReaderLaws.{read_ends, ended_stuck}
use borrow.Author.Tests.{lt-ltb, le-ltb}
use Rattle.reader.proofs.parts.read_rest.Goals as goal

pub returns-in_err-cursor : goal.returns-in_err-cursor
returns-in_err-cursor c = read_ends _ _ _ c.from_residual.ensures.1 (ended_stuck _ _ _ _ _ _ c.in_err-cursor.ensures)

pub returns-then-cursor-s : goal.returns-then-cursor-s
unfolding ended pick
returns-then-cursor-s c = rw (← c.in_ok-cursor.ensures, lt-ltb _ _ c.if-cursor-s.true)

pub returns : goal.returns
unfolding ended pick
returns c = rw (← c.in_ok-cursor.ensures, le-ltb _ _ c.if-cursor-s.false)
