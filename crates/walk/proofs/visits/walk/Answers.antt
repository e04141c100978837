-- `scheduler::walk::walk` meets its contract: the walk over the ranks that are left, from the state at hand, is the whole walk.
use native.Mathlib.Omega.{arith}
use mathlib.Core.List.{List, ◌∷◌}
use mathlib.Core.Bool.{true, false}
use mathlib.Core.Path.{◌≡◌, sym, ◌∙◌, ap}
use Prim.Native.Nat.{ℕ, ◌≤◌, ◌<◌, ◌+◌}
use lib.ListN.{length, get_or}
use lib.Seq.{slice}
use Rattle.walk.specs.Walk.{visit, chosen}
use Rattle.walk.specs.declared.Walked.{Walked}
use Rattle.order.specs.Order.{Below}
use Rattle.walk.proofs.WalkLaws.{passed-each, kept_counts, walk_on, walk-stop, walk_none, slice_next}
use borrow.Author.Rules.{rules}
use Rattle.walk.proofs.visits.walk.Goals as goal

-- The ranks that are left are the thread at their head and those after it.
split : (l : List ℕ) (k n : ℕ) → k < n → n ≤ length l → slice k n l ≡ get_or l k 0 ∷ slice (k + 1) n l
split l k n h m = slice_next _ _ _ (omega arith) h

inside : (l : List ℕ) (k n b : ℕ) → k < n → n ≤ length l → Below b (slice k n l) → Below b (get_or l k 0 ∷ slice (k + 1) n l)
inside l k n b h m u = rw (split l k n h m) at u

pub bounds-bytes-i : goal.bounds-bytes-i
bounds-bytes-i c =
    let long : length c.args.o.at ≡ 32 = search rules in
    let m : c.args.o.count ≤ length c.args.o.at = omega arith in
    omega (arith, (inside c.args.o.at c.loop-k.k c.args.o.count (length c.args.bytes.now) c.loop-k-test.true m c.loop-k.invariant.1).0)

pub visit-v-requires : goal.visit-v-requires
visit-v-requires c =
    let long : length c.args.o.at ≡ 32 = search rules in
    let m : c.args.o.count ≤ length c.args.o.at = omega arith in
    (omega (arith, (inside c.args.o.at c.loop-k.k c.args.o.count (length c.args.bytes.now) c.loop-k-test.true m c.loop-k.invariant.1).0), c.loop-k.invariant.2)

pub returns-then-is_chosen : goal.returns-then-is_chosen
returns-then-is_chosen c =
    let at = c.args.o.at in
    let k = c.loop-k.k in
    let n = c.args.o.count in
    let bs = c.args.bytes.now in
    let i = get_or at k 0 in
    let long : length at ≡ 32 = search rules in
    let m : n ≤ length at = omega arith in
    let e : chosen (visit c.args.marks (get_or bs i 0) i c.loop-k.next).answer ≡ true = cc in
    cc (split at k n c.loop-k-test.true m, walk-stop c.args.marks bs i (slice (k + 1) n at) c.loop-k.next e)

pub loop-k-preserved : goal.loop-k-preserved
loop-k-preserved c =
    let at = c.args.o.at in
    let k = c.loop-k.k in
    let n = c.args.o.count in
    let bs = c.args.bytes.now in
    let i = get_or at k 0 in
    let long : length at ≡ 32 = search rules in
    let m : n ≤ length at = omega arith in
    let b = inside at k n (length bs) c.loop-k-test.true m c.loop-k.invariant.1 in
    let e : chosen (visit c.args.marks (get_or bs i 0) i c.loop-k.next).answer ≡ false
    = ap (λ (w : Walked). chosen w.answer) (sym c.visit-v.ensures) ∙ sym c.is_chosen.ensures ∙ c.if-is_chosen.false in (
      search rules,
      b.1,
      rw c.visit-v.ensures (passed-each c.args.marks _ _ (kept_counts _ 999999999) _ _ _ b.0 c.loop-k.invariant.2 e),
      cc (split at k n c.loop-k-test.true m, walk_on c.args.marks bs i (slice (k + 1) n at) c.loop-k.next e),
    )

pub returns : goal.returns
returns c = cc (walk_none c.args.marks c.args.bytes.now c.args.o.at c.args.o.count c.loop-k.k c.loop-k.next c.loop-k.invariant.0 c.loop-k-test.false)
