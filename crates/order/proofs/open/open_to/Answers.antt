-- `order::open_to` meets its contract: those that were picked, and behind them the open threads of those that are left, are all that are open.
use native.Mathlib.Omega.{arith}
use native.Mathlib.Numerals.{add-one}
use mathlib.Core.List.{List, ◌∷◌, append_assoc, append-nil}
use mathlib.Core.Path.{◌≡◌, sym, ◌∙◌}
use Prim.Native.Nat.{ℕ, ◌≤◌, ◌<◌, ◌+◌}
use lib.ListN.{length, get_or}
use lib.Seq.{slice, slice-cons}
use Rattle.flow.specs.Flow.{flows}
use Rattle.order.specs.Order.{Below}
use Rattle.order.specs.Open.{flows_to}
use Rattle.order.proofs.OpenLaws.{open_first, open_none}
use borrow.Author.Rules.{rules}
use Rattle.order.proofs.open.open_to.Goals as goal

-- The ranks that are left are the thread at their head and those after it.
split : (l : List ℕ) (k n : ℕ) → k < n → n ≤ length l → slice k n l ≡ get_or l k 0 ∷ slice (k + 1) n l
split l k n h m = rw add-one (slice-cons _ _ _ 0 h (omega arith))

inside : (l : List ℕ) (k n b : ℕ) → k < n → n ≤ length l → Below b (slice k n l) → Below b (get_or l k 0 ∷ slice (k + 1) n l)
inside l k n b h m u = rw (split l k n h m) at u

pub loop-k-init : goal.loop-k-init
loop-k-init c = (search rules, rw c.none-next.ensures.0 (omega arith), search rules, rw c.none-next.ensures.1)

pub offset_bounds-t-i : goal.offset_bounds-t-i
offset_bounds-t-i c =
    let long : length c.args.o.at ≡ 32 = search rules in
    let m : c.args.o.count ≤ length c.args.o.at = omega arith in
    omega (arith, (inside c.args.o.at c.loop-k.k c.args.o.count c.args.t.count c.loop-k-test.true m c.loop-k.invariant.2).0)

pub bounds-t-i : goal.bounds-t-i
bounds-t-i c =
    let long : length c.args.o.at ≡ 32 = search rules in
    let m : c.args.o.count ≤ length c.args.o.at = omega arith in
    omega (arith, (inside c.args.o.at c.loop-k.k c.args.o.count c.args.t.count c.loop-k-test.true m c.loop-k.invariant.2).0)

pub loop-k-preserved : goal.loop-k-preserved
unfolding flows_to flows
loop-k-preserved c =
    let at = c.args.o.at in
    let k = c.loop-k.k in
    let n = c.args.o.count in
    let long : length at ≡ 32 = search rules in
    let m : n ≤ length at = omega arith in
    let opened : c.bit.result ≡ flows_to c.args.t c.args.d (get_or at k 0) = rw c.row-flow.ensures at c.bit.ensures in (
      search rules,
      omega (arith, c.push_if-next.ensures.0, c.loop-k.invariant.1),
      (inside at k n c.args.t.count c.loop-k-test.true m c.loop-k.invariant.2).1,
      rw (c.push_if-next.ensures.1, append_assoc, opened, ← open_first c.args.t c.args.d (get_or at k 0) (slice (k + 1) n at), ← split at k n c.loop-k-test.true m) c.loop-k.invariant.3,
    )

pub returns : goal.returns
returns c =
    let e = open_none c.args.t c.args.d c.args.o.at c.args.o.count c.loop-k.k c.loop-k.invariant.0 c.loop-k-test.false in
    (omega arith, sym (append-nil _) ∙ (rw e at c.loop-k.invariant.3))
