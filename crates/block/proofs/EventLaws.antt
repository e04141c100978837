-- The mask of the event threads: its bits are theirs, so a mask within it passes.
use Prim.Native.Nat.{ℕ, zero, suc, ◌+◌, ◌-◌, ◌*◌, ◌/◌, ◌%◌, ◌^◌, ◌≤◌, ◌<◌}
use mathlib.Core.Path.{◌≡◌, sym, ◌∙◌, ap}
use mathlib.Core.Bool.{true}
use native.Mathlib.Omega.{arith}
use native.Mathlib.Nat.{div-one, zero-div}
use borrow.Author.Tests.{eq-eqb, lt-ltb, eqb-true}
use lib.Bits.{bit_and}
use lib.Pow.{shr-shr, pow_mono}
use lib.Dec.{eqb}
use Rattle.basis.specs.Tests.{pick}
use Rattle.basis.proofs.TestLaws.{by_test, both_ways, and-of, every-all}
use Rattle.flow.proofs.FlowLaws.{covered_bit}
use Rattle.table.specs.Threads.{thread}
use Rattle.table.specs.declared.Table.{Table}
use Rattle.table.specs.declared.Thread.{Thread}
use Rattle.state.specs.Release.{has_event}
use Rattle.scheduler.specs.Taken.{mask_ok}
use Rattle.block.specs.Play.{event_bit, events}

bit_low : (th : Thread) → event_bit th < 2
unfolding event_bit
bit_low th = both_ways (λ (n : ℕ). n < 2) (eqb th.kind 1) 1 0 (omega arith) (omega arith)

-- One thread more, the loop counting down.
one_lower : (t : Table) (j n e b : ℕ) → j < n → e ≡ events t (suc j) (n - suc j) → b ≡ event_bit (thread t j) → e * 2 + b ≡ events t j (n - j)
unfolding events
one_lower t j n e b h p q =
    let z : suc (n - suc j) ≡ n - j = omega arith in
    ap (λ (m : ℕ). m * 2 + b) p ∙ ap (λ (m : ℕ). events t (suc j) (n - suc j) * 2 + m) q ∙ ap (λ (m : ℕ). events t j m) z

pub events-next : (t : Table) (i n e b : ℕ) → 0 < i → i ≤ n → e ≡ events t i (n - i) → b ≡ event_bit (thread t (i - 1))
    → e * 2 + b ≡ events t (i - 1) (n - (i - 1))
events-next t i n e b h l p q =
    let z : i ≡ suc (i - 1) = omega arith in
    one_lower t (i - 1) n e b (omega arith) (p ∙ ap (λ (m : ℕ). events t m (n - m)) z) q

events_under : (t : Table) (i n : ℕ) → events t i n < 2 ^ n
unfolding events
events_under t i zero = omega arith
events_under t i (suc n) = omega (arith, events_under t (suc i) n, bit_low (thread t i))

-- There is room for one more among 32.
pub events_room : (t : Table) (i n e : ℕ) → 0 < i → i ≤ n → n ≤ 32 → e ≡ events t i (n - i) → e < 2147483648
events_room t i n e h l k p = omega (arith, events_under t i (n - i), pow_mono {i = n - i} {j = 31} (omega arith), p)

-- A bit that is set is an event thread's.
set_bit : (t : Table) (i n k j : ℕ) → i + k ≡ j → events t i n / 2 ^ k % 2 ≡ 1 → (k < n) × ((thread t j).kind ≡ 1)
unfolding events event_bit pick
set_bit t i zero k j q e = absurd (omega (arith, ap (λ (n : ℕ). n % 2) (zero-div (2 ^ k)), e))
set_bit t i (suc n) zero j q e =
    let low : (events t (suc i) n * 2 + event_bit (thread t i)) % 2 ≡ 1 = rw (div-one (events t (suc i) n * 2 + event_bit (thread t i))) at e in
    let here : i ≡ j = omega arith in
    by_test (eqb (thread t i).kind 1) (λ h. (omega arith, ap (λ (m : ℕ). (thread t m).kind) (sym here) ∙ eqb-true _ _ h))
    (λ h. absurd (let none : event_bit (thread t i) ≡ 0 = rw h in omega arith))
set_bit t i (suc n) (suc k) j q e =
    let v : ℕ = events t (suc i) n * 2 + event_bit (thread t i) in
    let half : events t (suc i) n ≡ v / 2 = omega (arith, bit_low (thread t i)) in
    let next : 1 + k ≡ suc k = omega arith in
    let r = set_bit t (suc i) n k j (omega arith)
    (ap (λ (m : ℕ). m / 2 ^ k % 2) half ∙ ap (λ (m : ℕ). m % 2) (shr-shr v 1 k) ∙ ap (λ (m : ℕ). v / 2 ^ m % 2) next ∙ e) in
    (omega (arith, r.0), r.1)

pub within-passes : (t : Table) (mask all : ℕ) → all ≡ events t 0 t.count → bit_and mask all ≡ mask → mask_ok t mask ≡ true
unfolding mask_ok has_event
within-passes t mask all q e =
    every-all _ 32 (λ i _. by_test (eqb (mask / 2 ^ i % 2) 1)
    (λ h. let s = set_bit t 0 t.count i i (omega arith) (rw q at (covered_bit i mask all e (eqb-true _ _ h))) in
    rw h (and-of (lt-ltb _ _ s.0) (eq-eqb _ _ s.1)))
    (λ h. rw h))
