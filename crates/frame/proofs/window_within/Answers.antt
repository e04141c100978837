-- `frame::window_within` meets its contract: the sum is the end of the windows passed, and none of them ends behind the place.
use Rattle.frame.specs.Frame.{window, before, number, window_within}
use Rattle.frame.proofs.FrameLaws.{before-none, before-next, behind, not_behind}
use Rattle.basis.proofs.SearchLaws.{first-none, first_next, first_hit, first_end}
use native.Mathlib.Numerals.{add-one}
use mathlib.Core.Path.{◌≡◌, sym, ap}
use Prim.Native.Nat.{suc, ◌+◌}
use borrow.Author.Rules.{rules}
use Rattle.frame.proofs.window_within.Goals as goal
use Rattle.frame.proofs.window_within.Goals.{After-struct_known-1}

-- After the sum the end of window k is at hand.
next : (c : After-struct_known-1)
    →
    c.loop-k.end + (window c.args.f c.loop-k.k).length ≡ before c.args.f (suc c.loop-k.k)
next c = before-next _ c.loop-k.k c.loop-k.invariant.2

pub loop-k-init : goal.loop-k-init
loop-k-init c = (search rules, search rules, sym (before-none _), first-none _)

pub returns-then-place-end : goal.returns-then-place-end
unfolding window_within
returns-then-place-end c =
    let h = rw (next (goal.at.returns-then-place-end c).After-struct_known-1) at c.if-place-end.true in
    ap number (sym (first_hit _ _ _ _ c.loop-k.invariant.3 (behind _ _ _ h) c.loop-k-test.true))

pub loop-k-preserved : goal.loop-k-preserved
loop-k-preserved c =
    let h = rw (next (goal.at.loop-k-preserved c).After-struct_known-1) at c.if-place-end.false in
    (search rules, search rules, rw add-one (next (goal.at.loop-k-preserved c).After-struct_known-1), first_next _ _ c.loop-k.invariant.3 (not_behind _ _ _ h))

pub returns : goal.returns
unfolding window_within
returns c = ap number (sym (first_end _ _ _ c.loop-k.invariant.3 c.loop-k.invariant.0 c.loop-k-test.false))
