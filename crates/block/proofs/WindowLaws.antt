-- While a window lasts, the threads that are walked stay.
use Prim.Native.Nat.{ℕ, suc, ◌+◌, ◌-◌, ◌%◌, ◌≤◌, ◌<◌}
use mathlib.Core.Path.{◌≡◌, sym, ◌∙◌, ap}
use native.Mathlib.Omega.{arith}
use native.Mathlib.Decide.{le_ind}
use native.Mathlib.Nat.{le_refl, mod-add-mod, mod-eq_of_lt}
use Rattle.table.specs.declared.Table.{Table}
use Rattle.order.specs.Order.{order}
use Rattle.order.specs.Open.{open_to}
use Rattle.frame.specs.declared.Frame.{Frame}
use Rattle.frame.specs.Frame.{window, before, frame_length, window_within, window_at, domain_at, Timed}
use Rattle.frame.specs.Mode.{framed, threads_at}
use Rattle.frame.proofs.FrameLaws.{falls, falls_exactly}

-- No window ends behind the frame.
before_up : (f : Frame) (j k : ℕ) → j ≤ k → before f j ≤ before f k
unfolding before
before_up f j k h = le_ind (λ (m : ℕ). before f j ≤ before f m) (le_refl _) (λ m l r. omega arith) k h

-- A window has a step left at each of its clocks.
pub some_left : (f : Frame) → Timed f → (c : ℕ) → 0 < before f (suc (window_at f c)) - c % frame_length f
some_left f h c = omega (arith, (falls f h c).unended)

module _ (f : Frame) (h : Timed f) (c j : ℕ) (l : j < before f (suc (window_at f c)) - c % frame_length f) where
  place_there : (c + j) % frame_length f ≡ c % frame_length f + j
  unfolding frame_length
  place_there =
      let b : c % frame_length f + j < frame_length f = omega (arith, before_up f (suc (window_at f c)) f.count (falls f h c).in_use) in
      sym (mod-add-mod c (frame_length f) j) ∙ mod-eq_of_lt b

  window_stays : window_at f (c + j) ≡ window_at f c
  window_stays =
      let a = falls f h c in
      (falls_exactly f h (c + j) (window_at f c)).1
      (record { in_use = a.in_use; begun = rw place_there (omega (arith, a.begun)); unended = rw place_there (omega arith) })

  pub threads_stay : (t : Table) → threads_at t (framed f) (c + j) ≡ open_to t (domain_at f c) (order t)
  unfolding threads_at domain_at
  threads_stay t = ap (λ (k : ℕ). open_to t (window f k).domain (order t)) window_stays

-- What the code finds out on the way: the window of a clock, and where it ends.
module _ (f : Frame) (h : Timed f) (c l k : ℕ) (e : l ≡ frame_length f) (q : k ≡ window_within f (c % l)) where
  window-found : k ≡ window_at f c
  unfolding window_at
  window-found = q ∙ ap (λ (n : ℕ). window_within f (c % n)) e

  pub window_few : k < 64
  window_few = omega (arith, window-found, (falls f h c).in_use, h.count_high)

  pub left_is : (n : ℕ) → n ≡ before f (suc k) → (c % l ≤ n) × (n - c % l ≡ before f (suc (window_at f c)) - c % frame_length f)
  left_is n b =
      let d : n ≡ before f (suc (window_at f c)) = b ∙ ap (λ (j : ℕ). before f (suc j)) window-found in
      let p : c % l ≡ c % frame_length f = ap (λ (j : ℕ). c % j) e in
      (omega (arith, (falls f h c).unended, d, p), ap (λ (j : ℕ). j - c % l) d ∙ ap (λ (j : ℕ). before f (suc (window_at f c)) - j) p)
