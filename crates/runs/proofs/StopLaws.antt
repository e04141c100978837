-- Where a run stops: before the first mask that does not pass, at the last clock, or behind the last whole step.
use Prim.Native.Nat.{ℕ, ◌+◌, ◌-◌, ◌≤◌, ◌<◌}
use mathlib.Core.Path.{◌≡◌, refl, sym, ◌∙◌, ap}
use mathlib.Core.List.{List}
use mathlib.Core.Bool.{true, false}
use native.Mathlib.Omega.{arith}
use borrow.Author.Tests.{lt-ltb, le-ltb, ltb-true, ltb-false}
use lib.ListN.{length, get_or, take}
use lib.Seq.{length-take-le, get_or-take}
use lib.Dec.{ltb}
use Rattle.basis.specs.Tests.{pick, every}
use Rattle.basis.proofs.TestLaws.{by_test, refuted, every-at, every-all}
use Rattle.table.specs.declared.Table.{Table}
use Rattle.state.specs.State.{last_clock}
use Rattle.scheduler.specs.Taken.{mask_ok}
use Rattle.runs.specs.Stopping.{Halt, step_refusal, Stops}

module _ (t : Table) (clock mask : ℕ) where
  pub refuses_18 : mask_ok t mask ≡ false → step_refusal t clock mask ≡ 18
  unfolding step_refusal pick
  refuses_18 m = rw m

  pub refuses_none : mask_ok t mask ≡ true → clock < last_clock → step_refusal t clock mask ≡ 0
  unfolding step_refusal pick
  refuses_none m h = rw (m, lt-ltb _ _ h)

  pub refuses_14 : mask_ok t mask ≡ true → last_clock ≤ clock → step_refusal t clock mask ≡ 14
  unfolding step_refusal pick
  refuses_14 m h = rw (m, le-ltb _ _ h)

  -- What it means that none does.
  pub not-refused : step_refusal t clock mask ≡ 0 → (mask_ok t mask ≡ true) × (clock < last_clock)
  not-refused e =
      by_test (mask_ok t mask)
      (λ m. by_test (ltb clock last_clock) (λ h. (m, ltb-true _ _ h)) (λ h. absurd (omega (arith, refuses_14 m (ltb-false _ _ h)))))
      (λ m. absurd (omega (arith, refuses_18 m)))

module _ (t : Table) (clock : ℕ) (masks : List ℕ) (whole early n : ℕ) (few : early ≤ whole) (low : clock + early ≤ last_clock) (cut : early < whole → clock + early ≡ last_clock)
    (within : n ≤ early) (passing : every n (λ k. mask_ok t (get_or masks k 0)) ≡ true) (bad : n < early → mask_ok t (get_or masks n 0) ≡ false) where
  passed : (k : ℕ) → k < n → step_refusal t (clock + k) (get_or masks k 0) ≡ 0
  passed k l = refuses_none t (clock + k) (get_or masks k 0) (every-at _ n k passing l) (omega arith)

  pub stops_whole : n ≡ whole → Stops t clock masks whole (record { n = n; why = 0 })
  stops_whole e = record { within = omega arith; passed = passed; stopped = λ h. absurd (omega arith); ended = λ _. refl }

  -- The step behind is refused: by its mask, or by the clock if no other mask is.
  some : n < whole → 0 < step_refusal t (clock + n) (get_or masks n 0)
  some h =
      by_test (mask_ok t (get_or masks n 0))
      (λ m. by_test (ltb n early)
      (λ l. refuted m (bad (ltb-true _ _ l)))
      (λ l. let z : n ≡ early = let u = ltb-false n early l in omega arith in omega (arith, refuses_14 t (clock + n) (get_or masks n 0) m (omega (arith, cut (omega arith))))))
      (λ m. omega (arith, refuses_18 t (clock + n) (get_or masks n 0) m))

  pub stops_before : (why : ℕ) → (n ≡ whole → ⊥) → why ≡ step_refusal t (clock + n) (get_or masks n 0) → Stops t clock masks whole (record { n = n; why = why })
  stops_before why d e =
      record { within = omega arith; passed = passed; stopped = λ h. (omega (arith, some h, e), sym e); ended = λ q. absurd (d q) }

-- Masks at the front that pass are masks of the whole.
module _ (t : Table) (masks : List ℕ) (most n : ℕ) (few : most ≤ length masks) where
  pub front_long : length (take most masks) ≡ most
  front_long = length-take-le most masks few

  pub front_passes : n ≤ length (take most masks) → every n (λ k. mask_ok t (get_or (take most masks) k 0)) ≡ true
      → every n (λ k. mask_ok t (get_or masks k 0)) ≡ true
  front_passes h p = every-all _ n (λ k l. ap (mask_ok t) (sym (get_or-take most masks k 0 (omega (arith, front_long)))) ∙ every-at _ n k p l)

  pub front_stops : (n < length (take most masks) → mask_ok t (get_or (take most masks) n 0) ≡ false) → n < most → mask_ok t (get_or masks n 0) ≡ false
  front_stops p l = ap (mask_ok t) (sym (get_or-take most masks n 0 l)) ∙ p (omega (arith, front_long))

-- The clock after the steps that are not refused.
pub stop_early : (t : Table) (clock : ℕ) (masks : List ℕ) (whole : ℕ) (b : Halt) → clock ≤ last_clock → Stops t clock masks whole b → clock + b.n ≤ last_clock
stop_early t clock masks whole b h s =
    by_test (ltb 0 b.n)
    (λ l. let n : ℕ = b.n - 1 in
    let some : 0 < b.n = ltb-true _ _ l in
    let q : n < b.n = omega arith in
    let e : clock + n < last_clock = (not-refused t (clock + n) (get_or masks n 0) (s.passed n q)).1 in
    omega arith)
    (λ l. let none : b.n ≤ 0 = ltb-false _ _ l in omega arith)
