-- A thread that d may not see and that stands above one that it may see is marked: `guard_marked`, in the words of what d may see.
use Prim.Native.Nat.{ℕ, ◌<◌}
use mathlib.Core.Path.{◌≡◌}
use mathlib.Core.Bool.{Bool, true, false}
use lib.Dec.{ltb}
use borrow.Author.Tests.{ltb-true, lt-ltb}
use Rattle.basis.specs.Tests.{and, some}
use Rattle.basis.proofs.TestLaws.{refuted, fails, and_both, and-of, joined, some_hit, some-found}
use Rattle.table.specs.Threads.{thread}
use Rattle.table.specs.Mark.{seen_by, marked}
use Rattle.table.specs.Legal.{Legal}
use Rattle.table.specs.declared.Table.{Table}
use Rattle.table.proofs.GuardLaws.{guard_marked}
use Rattle.sight.specs.Shown.{visible}

-- Thread i stands above a thread that d may see.
unfoldable pub guards : Table → ℕ → ℕ → Bool
guards t d i = some t.count (λ j. and (visible t d j) (ltb (thread t j).priority (thread t i).priority))

module _ (t : Table) (d : ℕ) where
  -- The plain reading of `guards`.
  pub record Guarded (i : ℕ) : Type 0 where
    pub thread_below : ℕ
    pub in_table : thread_below < t.count
    pub seen : visible t d thread_below ≡ true
    pub lower : (thread t thread_below).priority < (thread t i).priority

  pub guarded : (i : ℕ) → guards t d i ≡ true → Guarded i
  unfolding guards
  guarded i g =
      let f = some-found _ t.count g in
      let b = and_both (visible t d f.number) _ f.passes in
      record { thread_below = f.number; in_table = f.below; seen = b.0; lower = ltb-true _ _ b.1 }

  pub guards-of : (i : ℕ) → Guarded i → guards t d i ≡ true
  unfolding guards
  guards-of i g = some_hit _ g.thread_below t.count (and-of g.seen (lt-ltb _ _ g.lower)) g.in_table

  pub guard_of : Legal t → d < t.domains → (i : ℕ) → i < t.count → visible t d i ≡ false → guards t d i ≡ true → marked t i ≡ true
  unfolding visible seen_by
  guard_of l dd i c v g =
      let j : Guarded i = guarded i g in
      let below-seen : seen_by t j.thread_below d ≡ true = search (joined, j.seen) in
      let unseen : seen_by t i d ≡ false = fails (seen_by t i d) (λ f. refuted {b = visible t d i} (simp (lt-ltb _ _ c, f)) v) in
      guard_marked t l d i j.thread_below dd c j.in_table j.lower below-seen unseen
