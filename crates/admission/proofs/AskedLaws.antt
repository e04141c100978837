-- What the test of table and thread tells, which the calls on a thread begin with: their own refusals, or that there is none.
use Rattle.std.proofs.Common.{ℕ, ◌≡◌, true, false, [], ltb, Option, Some, None, option_to_list, ap, arith}
use mathlib.Core.Logic.{◌⊎◌, inl, inr}
use Rattle.basis.specs.Tests.{pick}
use Rattle.basis.specs.Told.{Told, answered, refused}
use Rattle.basis.specs.Refusals.{refused_by}
use Rattle.basis.specs.declared.refusal.Refusal.{Refusal}
use Rattle.basis.proofs.RefusalLaws.{number-positive}
use Rattle.basis.proofs.TestLaws.{by_test}
use Rattle.basis.specs.Search.{Sought}
use Rattle.table.specs.Legal.{legal}
use Rattle.table.specs.declared.Table.{Table}
use Rattle.admission.specs.Bounded.{sought, sought_told}

-- What an answer tells is what was searched for.
pub told_alike : (o : Option ℕ) (s : Sought ℕ) → sought o ≡ s → answered (option_to_list o) ≡ sought_told s
told_alike None s e = ap sought_told e
told_alike (Some x) s e = ap sought_told e

module _ (t : Table) where
  pub lawful : answered [] ≡ pick (legal t) (answered []) (refused 11) → legal t ≡ true
  unfolding pick
  lawful e = by_test (legal t) (λ a. a) (λ a. let n = ap (λ (w : Told). w.number) (rw a at e) in absurd (omega arith))

  pub not_lawful : (why : Refusal) → refused_by why ≡ pick (legal t) (answered []) (refused 11) → (legal t ≡ false) × (refused_by why ≡ refused 11)
  unfolding pick
  not_lawful why e = by_test (legal t)
      (λ a. let n = ap (λ (w : Told). w.number) (rw a at e) in absurd (omega (arith, number-positive why)))
      (λ a. (a, rw a at e))

module _ (t : Table) (i : ℕ) where
  pub asked : answered [] ≡ pick (legal t) (pick (ltb i t.count) (answered []) (refused 15)) (refused 11) → (legal t ≡ true) × (ltb i t.count ≡ true)
  unfolding pick
  asked e = by_test (legal t)
      (λ a. by_test (ltb i t.count) (λ b. (a, b)) (λ b. let n = ap (λ (w : Told). w.number) (rw (a, b) at e) in absurd (omega arith)))
      (λ a. let n = ap (λ (w : Told). w.number) (rw a at e) in absurd (omega arith))

  pub refused_as : (why : Refusal) → refused_by why ≡ pick (legal t) (pick (ltb i t.count) (answered []) (refused 15)) (refused 11)
      → ((legal t ≡ false) × (refused_by why ≡ refused 11)) ⊎ ((legal t ≡ true) × (ltb i t.count ≡ false) × (refused_by why ≡ refused 15))
  unfolding pick
  refused_as why e = by_test (legal t)
      (λ a. by_test (ltb i t.count)
      (λ b. let n = ap (λ (w : Told). w.number) (rw (a, b) at e) in absurd (omega (arith, number-positive why)))
      (λ b. inr (a, b, rw (a, b) at e)))
      (λ a. inl (a, rw a at e))
