-- The most idle steps on a thread's account are what the plain rows say, more for a longer stretch, and fit in 64 bits.
use Prim.Native.Nat.{ℕ, ◌+◌, ◌*◌, ◌≤◌, ◌<◌}
use mathlib.Core.Path.{◌≡◌, refl, sym, subst}
use mathlib.Core.Logic.{◌↔◌}
use native.Mathlib.Nat.{lt_of_le_of_lt, mul-le-mul, mul-le-mul_right, add-le-add, le_refl, suc-mul}
use native.Mathlib.Omega.{arith}
use lib.Dec.{ltb, lit<}
use borrow.Author.Tests.{lt-ltb, le-ltb, ltb-true, ltb-false}
use Rattle.basis.specs.Tests.{pick}
use Rattle.basis.specs.Ceil.{ceil}
use Rattle.basis.specs.Told.{Told}
use Rattle.basis.proofs.TestLaws.{by_test}
use Rattle.table.specs.Threads.{thread}
use Rattle.table.specs.Legal.{legal}
use Rattle.table.specs.declared.Table.{Table}
use Rattle.table.specs.declared.Thread.{Thread}
use Rattle.admission.specs.IdleMost.{idle_most, idling, IdleAnswer, not-legal, no_thread, at_most}
use Rattle.admission.proofs.QuotientLaws.{ceil_le, ceil_mono}

-- A longer stretch has no smaller figure.
pub idle_most_mono : (th : Thread) → 1 ≤ th.period → {m n : ℕ} → m ≤ n → idle_most th m ≤ idle_most th n
unfolding idle_most
idle_most_mono th p l = mul-le-mul_right th.budget (add-le-add (ceil_mono th.period p l) (le_refl _))

-- The figure of what the code can be handed fits in 64 bits.
pub idle-fits : (n p w : ℕ) → 1 ≤ p → n < 4294967296 → w < 65536 → (ceil n p + 1) * w < 18446744073709551616
idle-fits n p w h k l =
    lt_of_le_of_lt (mul-le-mul {n₂ = 4294967296} {m₂ = 65535} (omega (arith, ceil_le n p h)) (omega arith)) (lit< tt)

module _ (t : Table) (h length : ℕ) where
  abbrev th : Thread
  th = thread t h

  figure_by : ceil length th.period * th.budget + th.budget ≡ idle_most th length
  unfolding idle_most
  figure_by = omega (arith, suc-mul (ceil length th.period) th.budget)

  answer_only : {w : Told} → IdleAnswer t h length w → idling t h length ≡ w
  unfolding idling pick
  answer_only (not-legal a) = rw a
  answer_only (no_thread a b) = rw (a, le-ltb _ _ b)
  answer_only (at_most a b periods e) = rw (a, lt-ltb _ _ b, e, figure_by)

  here : {w : Told} → IdleAnswer t h length w → IdleAnswer t h length (idling t h length)
  here r = subst (λ (w : Told). IdleAnswer t h length w) (sym (answer_only r)) r

  answer-given : IdleAnswer t h length (idling t h length)
  answer-given =
      by_test (legal t)
      (λ a. by_test (ltb h t.count) (λ b. here (at_most a (ltb-true _ _ b) _ refl)) (λ b. here (no_thread a (ltb-false _ _ b))))
      (λ a. here (not-legal a))

  -- what `idle_most` tells is exactly what the plain rows say
  pub idling_exactly : (w : Told) → (idling t h length ≡ w) ↔ IdleAnswer t h length w
  idling_exactly w = (λ e. subst (λ (v : Told). IdleAnswer t h length v) e answer-given, λ r. answer_only r)
