-- Masks by their bits: the empty one passes, one within a mask that passes passes, and so do two that pass as one.
use Prim.Native.Nat.{ℕ, ◌+◌, ◌*◌, ◌/◌, ◌%◌, ◌^◌, ◌<◌, max}
use mathlib.Core.Path.{◌≡◌, sym, ◌∙◌, ap}
use mathlib.Core.Bool.{true, not}
use native.Mathlib.Omega.{arith}
use native.Mathlib.Nat.{zero-div}
use borrow.Author.Tests.{eq-eqb, eqb-true, eqb-false}
use lib.Bits.{bit_and, bit_or, or_step, or_shr}
use lib.Dec.{eqb, ltb}
use Rattle.basis.specs.Tests.{and, or}
use Rattle.basis.proofs.TestLaws.{by_test, every-at, every-all}
use Rattle.flow.proofs.FlowLaws.{covered_bit}
use Rattle.table.specs.Threads.{thread}
use Rattle.table.specs.declared.Table.{Table}
use Rattle.state.specs.Release.{has_event}
use Rattle.scheduler.specs.Taken.{mask_ok}

pub empty-passes : (t : Table) → mask_ok t 0 ≡ true
unfolding mask_ok has_event
empty-passes t = every-all _ 32 (λ i l. rw (zero-div (2 ^ i)))

-- A bit that is set in a mask that passes is an event thread's.
set-passes : (t : Table) (mask i : ℕ) → mask_ok t mask ≡ true → i < 32 → mask / 2 ^ i % 2 ≡ 1 → and (ltb i t.count) (eqb (thread t i).kind 1) ≡ true
unfolding mask_ok has_event
set-passes t mask i h l b =
    let q : or (not (eqb (mask / 2 ^ i % 2) 1)) (and (ltb i t.count) (eqb (thread t i).kind 1)) ≡ true = every-at _ 32 i h l in
    rw (eq-eqb _ _ b) at q

pub within-known : (t : Table) (mask known : ℕ) → mask_ok t known ≡ true → bit_and mask known ≡ mask → mask_ok t mask ≡ true
unfolding mask_ok has_event
within-known t mask known h e =
    every-all _ 32 (λ i l. by_test (eqb (mask / 2 ^ i % 2) 1)
    (λ b. rw b (set-passes t known i h l (covered_bit i mask known e (eqb-true _ _ b))))
    (λ b. rw b))

-- A bit of two masks as one is a bit of either.
or_bit : (a b i : ℕ) → bit_or a b / 2 ^ i % 2 ≡ max (a / 2 ^ i % 2) (b / 2 ^ i % 2)
or_bit a b i =
    let x = a / 2 ^ i in
    let y = b / 2 ^ i in
    let e : bit_or a b / 2 ^ i ≡ bit_or (x / 2) (y / 2) * 2 + max (x % 2) (y % 2) = or_shr a b i ∙ or_step x y in
    ap (λ (n : ℕ). n % 2) e ∙ omega arith

either_bit : (x y : ℕ) → max (x % 2) (y % 2) ≡ 1 → (x % 2 ≡ 1 → ⊥) → y % 2 ≡ 1
either_bit x y e h = omega arith

pub both_known : (t : Table) (known mask : ℕ) → mask_ok t known ≡ true → mask_ok t mask ≡ true → mask_ok t (bit_or known mask) ≡ true
unfolding mask_ok has_event
both_known t known mask h k =
    every-all _ 32 (λ i l. by_test (eqb (bit_or known mask / 2 ^ i % 2) 1)
    (λ b. by_test (eqb (known / 2 ^ i % 2) 1)
    (λ u. rw b (set-passes t known i h l (eqb-true _ _ u)))
    (λ u. rw b (set-passes t mask i k l (either_bit (known / 2 ^ i) (mask / 2 ^ i) (sym (or_bit known mask i) ∙ eqb-true _ _ b) (eqb-false _ _ u)))))
    (λ b. rw b))
