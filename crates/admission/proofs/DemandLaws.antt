-- The demand grows with the length, and the largest of any legal table, which no sum on the way passes.
use Prim.Native.Nat.{ℕ, ◌+◌, ◌*◌, ◌≤◌, ◌<◌}
use mathlib.Core.Path.{◌≡◌, refl, subst}
use mathlib.Core.Logic.{◌↔◌}
use native.Mathlib.Nat.{le_refl, mul-le-mul, mul-le-mul_left, mul-le-mul_right, add-le-add}
use native.Mathlib.Decide.{dec_lt}
use native.Mathlib.Omega.{arith}
use lib.Dec.{ltb}
use borrow.Author.Tests.{lt-ltb, le-ltb, ltb-true, ltb-false}
use Rattle.basis.specs.Tests.{pick}
use Rattle.basis.specs.Ceil.{ceil}
use Rattle.basis.proofs.CeilLaws.{ceil_least}
use Rattle.basis.proofs.TestLaws.{by_test, both, either}
use Rattle.table.specs.Threads.{thread}
use Rattle.table.specs.Legal.{Legal, LegalThread}
use Rattle.table.specs.declared.Table.{Table}
use Rattle.table.specs.declared.Thread.{Thread}
use Rattle.admission.specs.Demand.{sum, SumOf, above, share, demand, Demands, upper, not-upper}
use Rattle.admission.proofs.QuotientLaws.{ceil_mono, ceil_reach}
use Rattle.admission.proofs.SumLaws.{sum_mono, sum_longer, sum_but_one, sum-given, sum_only}

-- What a thread brings, where it stands above and where it does not.
pub share-above : (own h : Thread) (x : ℕ) → own.priority < h.priority → share own x h ≡ ceil x h.period * h.budget
unfolding share above pick
share-above own h x l = rw (lt-ltb _ _ l)

pub share_other : (own h : Thread) (x : ℕ) → h.priority ≤ own.priority → share own x h ≡ 0
unfolding share above pick
share_other own h x l = rw (le-ltb _ _ l)

-- A thread brings what the plain reading says, and nothing else.
module _ (t : Table) (i x h : ℕ) where
  share-given : Demands t i x h (share (thread t i) x (thread t h))
  share-given = by_test (ltb (thread t i).priority (thread t h).priority)
      (λ e. let l : (thread t i).priority < (thread t h).priority = ltb-true _ _ e in
      rw (share-above (thread t i) (thread t h) x l) (upper l))
      (λ e. let l : (thread t h).priority ≤ (thread t i).priority = ltb-false _ _ e in
      rw (share_other (thread t i) (thread t h) x l) (not-upper l))

  share_only : {n : ℕ} → Demands t i x h n → share (thread t i) x (thread t h) ≡ n
  share_only (upper l) = share-above (thread t i) (thread t h) x l
  share_only (not-upper l) = share_other (thread t i) (thread t h) x l

  pub share_exactly : (n : ℕ) → (share (thread t i) x (thread t h) ≡ n) ↔ Demands t i x h n
  share_exactly n = (λ e. subst (λ (k : ℕ). Demands t i x h k) e share-given, λ r. share_only r)

share_mono : (own h : Thread) → 1 ≤ h.period → {x y : ℕ} → x ≤ y → share own x h ≤ share own y h
unfolding share
share_mono own h p l =
    both (λ (m n : ℕ). m ≤ n) (above own h) (above own h) refl
    (λ e. mul-le-mul_right h.budget (ceil_mono h.period p l)) (λ e. le_refl _)

-- A longer length has no smaller demand.
pub demand_mono : (t : Table) → Legal t → (i : ℕ) {x y : ℕ} → x ≤ y → demand t i x ≤ demand t i y
unfolding demand
demand_mono t g i {x} {y} l =
    add-le-add (le_refl _)
    (sum_mono (λ h. share (thread t i) x (thread t h)) (λ h. share (thread t i) y (thread t h)) t.count
    (λ h k. share_mono (thread t i) (thread t h) (g.threads h k).period_low l))

-- In 60,000 steps a thread brings at most 119,998: a period of 60,000 begins once, and a shorter one reaches less than itself past the length.
pub brings_most : (v d : ℕ) (h : Thread) → LegalThread v d h → (x : ℕ) → x ≤ 60000 → ceil x h.period * h.budget ≤ 119998
brings_most v d h g x l = go (dec_lt h.period 60000)
  where
    go : Dec (h.period < 60000) → ceil x h.period * h.budget ≤ 119998
    go (yes k) =
        omega (arith, mul-le-mul_left (ceil x h.period) g.budget_high, ceil_reach x h.period g.period_low)
    go (no k) =
        let one : ceil x h.period ≤ 1 = ceil_least x h.period 1 g.period_low (omega arith) in
        let w : h.budget ≤ 60000 = omega (arith, g.budget_high, g.period_high) in
        omega (arith, mul-le-mul {n₂ = 1} {m₂ = 60000} one w)

share-most : (v d : ℕ) (own h : Thread) → LegalThread v d h → (x : ℕ) → x ≤ 60000 → share own x h ≤ 119998
unfolding share
share-most v d own h g x l =
    either (λ (n : ℕ). n ≤ 119998) (above own h) (λ e. brings_most v d h g x l) (λ e. omega arith)

-- The largest demand: 60,000 of the thread's own, and 31 threads above it with 119,998 each.
pub demand-most : (t : Table) → Legal t → (i x : ℕ) → i < t.count → x ≤ 60000 → demand t i x ≤ 3779938
unfolding demand
demand-most t g i x k l =
    let own = thread t i in
    let s = sum_but_one (λ h. share own x (thread t h)) 119998 t.count i k (share_other own own x (le_refl _))
    (λ h u. share-most t.version t.domains own (thread t h) (g.threads h u) x l) in
    omega (arith, s, g.count_high, (g.threads i k).budget_high, (g.threads i k).period_high)

-- No sum on the way to a demand is larger than it.
pub demand_partial : (t : Table) → Legal t → (i x n : ℕ) → i < t.count → x ≤ 60000 → n ≤ t.count
    → (thread t i).budget + sum n (λ h. share (thread t i) x (thread t h)) ≤ 3779938
unfolding demand
demand_partial t g i x n k l m =
    omega (arith, demand-most t g i x k l, sum_longer (λ h. share (thread t i) x (thread t h)) n t.count m)

-- The demand is W and the sum of what each thread brings, and nothing else.
module _ (t : Table) (i x : ℕ) where
  pub demand_exactly : (n : ℕ) → (demand t i x ≡ (thread t i).budget + n) ↔ SumOf (Demands t i x) t.count n
  unfolding demand
  demand_exactly n = (
    λ e. let q : sum t.count (λ h. share (thread t i) x (thread t h)) ≡ n = omega (arith, e) in
        subst (λ (k : ℕ). SumOf (Demands t i x) t.count k) q (sum-given _ (Demands t i x) (share_exactly t i x) t.count),
    λ r. let q : sum t.count (λ h. share (thread t i) x (thread t h)) ≡ n = sum_only _ (Demands t i x) (share_exactly t i x) r in rw q,
  )
