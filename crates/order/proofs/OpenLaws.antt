-- Laws of the threads that are open to a domain: what holds of a list's threads and of their order stays, and each that is open is there.
use Prim.Native.Nat.{ℕ, ◌≤◌, ◌<◌}
use mathlib.Core.Path.{◌≡◌, refl}
use mathlib.Core.List.{List, [], ◌∷◌, ◌++◌}
use mathlib.Core.Bool.{Bool, true, false}
use mathlib.Core.Logic.{◌↔◌, inl, inr, ⊎_elim}
use native.Mathlib.Nat.{le_antisymm}
use native.Mathlib.Omega.{arith}
use lib.ListN.{length}
use lib.Seq.{slice, slice_empty}
use Rattle.basis.specs.Tests.{pick}
use Rattle.basis.proofs.TestLaws.{either, both_ways, by_test, refuted}
use Rattle.flow.specs.Flow.{flows}
use Rattle.table.specs.Threads.{thread}
use Rattle.table.specs.Legal.{Legal}
use Rattle.table.specs.declared.Table.{Table}
use Rattle.order.specs.Order.{Below, All, Falling, Stands, priority}
use Rattle.order.specs.Open.{flows_to, open_to}
use Rattle.order.proofs.OrderLaws.{FallingFrom, falls_later}

module _ (t : Table) (d : ℕ) where
  -- What holds of each thread of the list holds of each that is open.
  pub open_all : (P : ℕ → Type 0) (is : List ℕ) → All P is → All P (open_to t d is)
  unfolding open_to
  open_all P [] a = tt
  open_all P (i ∷ is) a = either (All P) (flows_to t d i) (λ e. (a.0, open_all P is a.1)) (λ e. open_all P is a.1)

  pub open_below : (n : ℕ) (is : List ℕ) → Below n is → Below n (open_to t d is)
  unfolding open_to
  open_below n [] b = tt
  open_below n (i ∷ is) b = either (Below n) (flows_to t d i) (λ e. (b.0, open_below n is b.1)) (λ e. open_below n is b.1)

  pub open_falls : (is : List ℕ) → Falling t is → Falling t (open_to t d is)
  unfolding open_to
  open_falls [] f = tt
  open_falls (i ∷ is) f =
      either (Falling t) (flows_to t d i)
      (λ e. (open_all (λ k. priority t k < priority t i) is f.0, open_falls is f.1))
      (λ e. open_falls is f.1)

  pub open_falls_from : (p : ℕ) (is : List ℕ) → FallingFrom t p is → FallingFrom t p (open_to t d is)
  unfolding open_to
  open_falls_from p [] f = tt
  open_falls_from p (i ∷ is) f =
      let later = open_falls_from (priority t i) is f.1 in
      either (FallingFrom t p) (flows_to t d i) (λ e. (f.0, later))
      (λ e. falls_later t (priority t i) p (omega (arith, f.0)) (open_to t d is) later)

  pub open_short : (is : List ℕ) → length (open_to t d is) ≤ length is
  unfolding open_to
  open_short [] = omega arith
  open_short (i ∷ is) =
      both_ways (λ js. length js ≤ length (i ∷ is)) (flows_to t d i) (i ∷ open_to t d is) (open_to t d is) (omega (arith, open_short is))
      (omega (arith, open_short is))

  -- Each thread that is open has a domain that d may flow to.
  pub open_flows : (is : List ℕ) → All (λ i. flows_to t d i ≡ true) (open_to t d is)
  unfolding open_to
  open_flows [] = tt
  open_flows (i ∷ is) = either (All (λ k. flows_to t d k ≡ true)) (flows_to t d i) (λ e. (e, open_flows is)) (λ e. open_flows is)

  open_stands : (i : ℕ) (is : List ℕ) → Stands i is → flows_to t d i ≡ true → Stands i (open_to t d is)
  unfolding open_to
  open_stands i [] s f = s
  open_stands i (j ∷ is) s f =
      either (Stands i) (flows_to t d j)
      (λ e. ⊎_elim (λ (q : i ≡ j). inl q) (λ (r : Stands i is). inr (open_stands i is r f)) s)
      (λ e. ⊎_elim (λ (q : i ≡ j). refuted (rw q at f) e) (λ (r : Stands i is). open_stands i is r f) s)

  stands_in : (i : ℕ) (is : List ℕ) → Stands i (open_to t d is) → Stands i is × (flows_to t d i ≡ true)
  unfolding open_to pick
  stands_in i [] s = absurd s
  stands_in i (j ∷ is) s = go (flows_to t d j) refl (stands_in i is) s
    where
      go : (b : Bool) → flows_to t d j ≡ b → (Stands i (open_to t d is) → Stands i is × (flows_to t d i ≡ true))
          → Stands i (pick b (j ∷ open_to t d is) (open_to t d is)) → Stands i (j ∷ is) × (flows_to t d i ≡ true)
      go true e later s =
          ⊎_elim (λ (q : i ≡ j). (inl q, rw q e)) (λ (r : Stands i (open_to t d is)). let l = later r in (inr l.0, l.1)) s
      go false e later s = let l = later s in (inr l.0, l.1)

  -- A thread is open exactly when it stands in the list and d may flow to its domain ..
  pub open_exactly : (i : ℕ) (is : List ℕ) → Stands i (open_to t d is) ↔ Stands i is × (flows t.rows d (thread t i).domain ≡ true)
  unfolding flows_to
  open_exactly i is = (stands_in i is, λ s. open_stands i is s.0 s.1)

  -- .. d itself included.
  pub open_own : Legal t → d < t.domains → (i : ℕ) → (thread t i).domain ≡ d → flows_to t d i ≡ true
  unfolding flows_to
  open_own g h i e = rw e (g.reflexive d h)

  -- A turn of the loop that picks them: the first thread of those that are left goes behind those that were picked, if it is open.
  pub open_first : (i : ℕ) (is : List ℕ) → open_to t d (i ∷ is) ≡ pick (flows_to t d i) (i ∷ []) [] ++ open_to t d is
  unfolding open_to pick
  open_first i is = by_test (flows_to t d i) (λ e. simp e) (λ e. simp e)

  -- At the end of the loop none is left.
  pub open_none : (l : List ℕ) (n k : ℕ) → k ≤ n → n ≤ k → open_to t d (slice k n l) ≡ []
  unfolding open_to
  open_none l n k p q = rw (le_antisymm p q, slice_empty)
