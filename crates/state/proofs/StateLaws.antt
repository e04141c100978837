-- Laws of a store and of a change of each thread: what they keep, and what stands at a place then.
use Prim.Native.Nat.{ℕ, zero, suc, ◌≤◌, ◌<◌}
use mathlib.Core.Path.{◌≡◌, refl, sym, ◌∙◌, ap}
use mathlib.Core.Logic.{⊎_elim}
use native.Mathlib.Omega.{arith}
use native.Mathlib.Nat.{eq-or-lt_of_le}
use mathlib.Core.List.{List, [], ◌∷◌}
use lib.ListN.{length, get_or, set, length-set, get_or-eq_default}
use lib.Seq.{get_or-set_same, get_or-set_other}
use Rattle.state.specs.State.{no_progress, progress, put, each_thread}
use Rattle.state.specs.Methods.{done, finish}
use Rattle.state.specs.Given.{Each}
use Rattle.state.specs.declared.Progress.{Progress}
use Rattle.state.specs.declared.State.{State}

-- A store keeps what holds at every place.
pub set_all : {A : Type 0} (P : ℕ → A → Type 0) (l : List A) (i : ℕ) (a d : A) → ((j : ℕ) → P j (get_or l j d)) → P i a → (j : ℕ) → P j (get_or (set l i a) j d)
set_all P [] i a d h p j = h j
set_all P (x ∷ l) zero a d h p zero = p
set_all P (x ∷ l) zero a d h p (suc j) = h (suc j)
set_all P (x ∷ l) (suc i) a d h p zero = h zero
set_all P (x ∷ l) (suc i) a d h p (suc j) = set_all (λ k. P (suc k)) l i a d (λ k. h (suc k)) p j

pub put-each : (P : ℕ → Progress → Type 0) (s : State) (i : ℕ) (p : Progress) → Each P s → P i p → Each P (put s i p)
put-each P s i p h q = record { at = set_all P s.threads i p no_progress h.at q }

-- A change of each of the first n threads keeps what each change keeps, ..
module _ (f : ℕ → Progress → Progress) where
  pub each_keeps : (P : ℕ → Progress → Type 0) (m : ℕ) → ((i : ℕ) (p : Progress) → i < m → P i p → P i (f i p))
      → (n : ℕ) → n ≤ m → (s : State) → Each P s → Each P (each_thread f n s)
  unfolding each_thread
  each_keeps P m k zero l s h = h
  each_keeps P m k (suc n) l s h =
      let g : Each P (each_thread f n s) = each_keeps P m k n (omega arith) s h in
      put-each P (each_thread f n s) n _ g (k n _ (omega arith) (g.at n))

  -- .. the clock and the number of places, ..
  pub each_clock : (n : ℕ) (s : State) → (each_thread f n s).clock ≡ s.clock
  unfolding each_thread
  each_clock zero s = refl
  each_clock (suc n) s = each_clock n s

  pub each-length : (n : ℕ) (s : State) → length (each_thread f n s).threads ≡ length s.threads
  unfolding each_thread
  each-length zero s = refl
  each-length (suc n) s = simp length-set (each-length n s)

  -- .. leaves the threads from n on, and changes each before n by f.
  pub each_past : (n : ℕ) (s : State) (i : ℕ) → n ≤ i → progress (each_thread f n s) i ≡ progress s i
  unfolding each_thread
  each_past zero s i h = refl
  each_past (suc n) s i h = get_or-set_other (each_thread f n s).threads n i _ _ (λ e. omega arith) ∙ each_past n s i (omega arith)

  pub each_at : (n : ℕ) (s : State) (i : ℕ) → i < n → i < length s.threads → progress (each_thread f n s) i ≡ f i (progress s i)
  unfolding each_thread
  each_at zero s i h l = absurd (omega arith)
  each_at (suc n) s i h l =
      ⊎_elim
      (λ (q : i ≡ n). rw q (get_or-set_same (each_thread f n s).threads n _ _ (omega (arith, each-length n s)) ∙ ap (f n) (each_past n s n (omega arith))))
      (λ (q : i < n). get_or-set_other (each_thread f n s).threads n i _ _ (λ e. omega arith) ∙ each_at n s i q l)
      (eq-or-lt_of_le (omega arith))

  -- There is nothing behind the last place.
  pub each_out : (n : ℕ) (s : State) (i : ℕ) → length s.threads ≤ i → progress (each_thread f n s) i ≡ progress s i
  each_out n s i h =
      get_or-eq_default (each_thread f n s).threads no_progress (rw (each-length n s) h) ∙ sym (get_or-eq_default s.threads no_progress h)

-- A finish leaves a rest.
pub finish_rested : (s : State) (i : ℕ) → 0 < (progress s i).rest → 0 < (progress (finish s i) i).rest
unfolding finish
finish_rested s i h =
    (put-each (λ k p. k ≡ i → 0 < p.rest) s i (done (progress s i)) (record { at = λ k e. rw e h }) (λ e. h)).at i refl

-- Two changes of one place are one.
pub changed_twice : (f g : Progress → Progress) (l : List Progress) (i : ℕ)
    → set (set l i (f (get_or l i no_progress))) i (g (get_or (set l i (f (get_or l i no_progress))) i no_progress)) ≡ set l i (g (f (get_or l i no_progress)))
changed_twice f g [] i = refl
changed_twice f g (p ∷ l) zero = refl
changed_twice f g (p ∷ l) (suc i) = rw (changed_twice f g l i)
