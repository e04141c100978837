-- What the admission's answers say of a thread: where `bound_of` tells a length, the table is legal, has the thread, and this is its bound; and
-- what `admit` gives for a thread of a table that it admits is what `bound_of` tells.
use Prim.Native.Nat.{ℕ, ◌-◌, ◌<◌}
use mathlib.Core.Path.{◌≡◌, refl, ◌∙◌, ap}
use mathlib.Core.List.{[], ◌∷◌}
use mathlib.Core.Bool.{true}
use native.Mathlib.Omega.{arith}
use borrow.Author.Tests.{ltb-true, lt-ltb}
use lib.ListN.{length, get_or, replicate}
use lib.Dec.{ltb}
use Rattle.basis.specs.Tests.{pick}
use Rattle.basis.specs.Search.{Sought, nothing, found}
use Rattle.basis.specs.Told.{Told, answered, refused}
use Rattle.basis.proofs.TestLaws.{by_test}
use Rattle.basis.proofs.SearchLaws.{first-nothing, listed_at}
use Rattle.table.specs.Legal.{legal}
use Rattle.table.specs.declared.Table.{Table}
use Rattle.admission.specs.Bounded.{bound, sought_told, bounding, IsBound}
use Rattle.admission.specs.Admit.{lacking, without_bound, first_without, or_zero, bound_number, bounds_of, admitting, bounds_given}
use Rattle.admission.proofs.BoundLaws.{is_of_bound}

-- No refusal is an answer with 0.
pub not-answered : {A : Type 0} (n : ℕ) (w : Told) → refused n ≡ w → 0 < n → w.number ≡ 0 → A
not-answered n w e l z = let q : n ≡ w.number = ap (λ (v : Told). v.number) e in absurd (omega arith)

found-told : (x : ℕ) (s : Sought ℕ) → sought_told s ≡ answered (x ∷ []) → s ≡ found x
found-told x nothing e = let n : ◌≡◌ {A = ℕ} 0 1 = ap (λ (w : Told). length w.values) e in absurd (omega arith)
found-told x (found y) e = ap found (ap (λ (w : Told). get_or w.values 0 0) e)

nothing-told : (s : Sought ℕ) → sought_told s ≡ answered [] → s ≡ nothing
nothing-told nothing e = refl
nothing-told (found y) e = let n : ◌≡◌ {A = ℕ} 1 0 = ap (λ (w : Told). length w.values) e in absurd (omega arith)

pub record Bounded (t : Table) (i x : ℕ) : Type 0 where
  pub lawful : legal t ≡ true
  pub in_table : i < t.count
  pub is : IsBound t i x

pub bounded_by : (t : Table) (i x : ℕ) → bounding t i ≡ answered (x ∷ []) → Bounded t i x
unfolding bounding pick
bounded_by t i x e =
    by_test (legal t)
    (λ a. by_test (ltb i t.count)
    (λ b. record { lawful = a; in_table = ltb-true _ _ b; is = is_of_bound t i x (found-told x (bound t i) (rw (a, b) at e)) })
    (λ b. not-answered 15 (answered (x ∷ [])) (rw (a, b) at e) (omega arith) refl))
    (λ a. not-answered 11 (answered (x ∷ [])) (rw a at e) (omega arith) refl)

module _ (t : Table) (e : admitting t ≡ answered []) where
  admitted_legal : legal t ≡ true
  unfolding admitting pick
  admitted_legal = by_test (legal t) (λ a. a) (λ a. not-answered 11 (answered []) (rw a at e) (omega arith) refl)

  none_without : first_without t ≡ nothing
  unfolding admitting pick
  none_without = nothing-told (first_without t) (rw admitted_legal at e)

  given_bounds : bounds_given t ≡ bounds_of t
  unfolding bounds_given pick
  given_bounds = rw (admitted_legal, none_without)

  pub admitted_bound : (i : ℕ) → i < t.count → bounding t i ≡ answered (get_or (bounds_given t) i 0 ∷ [])
  unfolding bounding bounds_of bound_number without_bound first_without pick
  admitted_bound i l =
      go (bound t i) refl (first-nothing (without_bound t) t.count i none_without l)
    where
      go : (s : Sought ℕ) → bound t i ≡ s → lacking i s ≡ nothing → bounding t i ≡ answered (get_or (bounds_given t) i 0 ∷ [])
      go nothing q h = let z : ◌≡◌ {A = ℕ} 0 1 = cc in absurd (omega arith)
      go (found y) q h =
          let n : get_or (bounds_given t) i 0 ≡ y
          = ap (λ bs. get_or bs i 0) given_bounds ∙ listed_at (bound_number t) t.count i (replicate (32 - t.count) 0) 0 l ∙ ap or_zero q in
          rw (admitted_legal, lt-ltb _ _ l, q, n)
