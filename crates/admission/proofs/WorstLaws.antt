-- The worst count of a table: the sum of D - W + 1 over its threads, which all counts of its admission together do not pass.
use Prim.Native.Nat.{ℕ, ◌+◌, ◌-◌, ◌*◌, ◌≤◌}
use mathlib.Core.Path.{◌≡◌, sym, ap}
use mathlib.Core.List.{[], ◌∷◌}
use mathlib.Core.Bool.{true, false}
use mathlib.Core.Logic.{◌↔◌}
use native.Mathlib.Nat.{le_trans}
use native.Mathlib.Omega.{arith}
use lib.ListN.{get_or}
use lib.Dec.{ltb}
use borrow.Author.Tests.{ltb-true, ltb-false}
use Rattle.basis.specs.Tests.{pick}
use Rattle.basis.specs.Told.{Told, answered, refused}
use Rattle.basis.proofs.TestLaws.{by_test}
use Rattle.table.specs.Threads.{thread}
use Rattle.table.specs.Legal.{legal, Legal}
use Rattle.table.specs.declared.Table.{Table}
use Rattle.table.proofs.LegalLaws.{legal_small}
use Rattle.admission.specs.Demand.{sum, SumOf}
use Rattle.admission.specs.Tried.{most_tried}
use Rattle.admission.specs.Admit.{searched, counts_given}
use Rattle.admission.specs.Worst.{worst, worst_given}
use Rattle.admission.proofs.SumLaws.{sum_mono, sum-padded, sum-most, sum-given, sum_only}
use Rattle.admission.proofs.TriedLaws.{tried-most}
use Rattle.admission.proofs.AdmitLaws.{searched-most, counts_at, counts_past, counts_refused}

module _ (t : Table) where
  pub worst-refused : (worst_given t ≡ refused 11) ↔ (legal t ≡ false)
  unfolding worst_given pick
  worst-refused = (
    λ e. by_test (legal t) (λ a. let q : answered (worst t ∷ []) ≡ refused 11 = rw a at e in let z : ◌≡◌ {A = ℕ} 0 11 = ap (λ (w : Told). w.number) q in absurd (omega arith)) (λ a. a),
    λ a. rw a,
  )

  pub worst-answered : legal t ≡ true → worst_given t ≡ answered (worst t ∷ [])
  unfolding worst_given pick
  worst-answered a = rw a

  -- it is the sum of D - W + 1 over the threads, and nothing else
  pub worst_exactly : (n : ℕ) → (worst t ≡ n) ↔ SumOf (λ i m. (thread t i).deadline - (thread t i).budget + 1 ≡ m) t.count n
  unfolding worst most_tried
  worst_exactly n =
      let f : ℕ → ℕ = λ i. (thread t i).deadline - (thread t i).budget + 1 in
      let b : ℕ → ℕ → Type 0 = λ i m. f i ≡ m in
      (λ e. rw (sym e) (sum-given f b (λ i m. (λ q. q, λ q. q)) t.count), λ r. sum_only f b (λ i m. (λ q. q, λ q. q)) r)

  each_within : legal t ≡ true → (i : ℕ) → get_or (counts_given t) i 0 ≤ most_tried t i
  unfolding most_tried
  each_within a i =
      by_test (ltb i (searched t))
      (λ e. omega (arith, counts_at t a i (ltb-true _ _ e), tried-most t i))
      (λ e. omega (arith, counts_past t a i (ltb-false _ _ e)))

  -- all counts that `admit` reports are together at most the worst count
  pub counts_within : sum 32 (λ i. get_or (counts_given t) i 0) ≤ worst t
  unfolding worst
  counts_within =
      let f : ℕ → ℕ = λ i. get_or (counts_given t) i 0 in
      by_test (legal t)
      (λ a. let e : sum 32 f ≡ sum t.count f
      = sum-padded f t.count 32 (legal_small t a).1 (λ i l. counts_past t a i (le_trans (searched-most t) l)) in
      rw e (sum_mono f (most_tried t) t.count (λ i l. each_within a i)))
      (λ a. let z : sum 32 f ≤ 32 * 0 = sum-most f 0 32 (λ i l. omega (arith, counts_refused t a i)) in omega (arith, z))

  -- a worst count is at most 1,920,000, and no sum on the way is larger
  pub worst_partial : Legal t → (n : ℕ) → n ≤ t.count → sum n (most_tried t) ≤ 1920000
  unfolding most_tried
  worst_partial g n l =
      let s = sum-most (most_tried t) 60000 n (λ i k.
      let th = g.threads i (omega arith) in omega (arith, th.budget_low, th.deadline_high, th.period_high)) in
      omega (arith, s, g.count_high)
