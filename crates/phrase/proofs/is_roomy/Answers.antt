-- What is left of the room is the room less what the characters before i take.
use mathlib.Core.Path.{refl, sym}
use native.Mathlib.Omega.{arith}
use lib.ListN.{get_or}
use borrow.Author.Tests.{le-leb, lt-leb}
use Rattle.phrase.proofs.PhraseLaws.{used_small, leaving_goes, leaving_short, leaving_ends}
use Rattle.phrase.proofs.is_roomy.Goals as goal

pub loop-b-init : goal.loop-b-init
loop-b-init c = (omega arith, omega arith, record { sum = refl })

pub returns-then-left-size : goal.returns-then-left-size
returns-then-left-size c =
    sym (lt-leb _ _ (leaving_short _ _ c.loop-b.invariant.2 c.loop-b-test.true c.number_at-n.ensures c.piece_size-size.ensures c.if-left-size.true))

pub loop-b-preserved : goal.loop-b-preserved
loop-b-preserved c = (
  omega arith,
  omega (arith, c.loop-b.invariant.1, c.used_up-j.ensures, used_small (get_or c.args.template.now c.loop-b.b-index 0)),
  leaving_goes _ _ c.loop-b.invariant.2 c.loop-b-test.true c.number_at-n.ensures c.piece_size-size.ensures c.used_up-j.ensures c.if-left-size.false,
)

pub returns : goal.returns
returns c = sym (le-leb _ _ (leaving_ends _ _ c.loop-b.invariant.2 c.loop-b-test.false))
