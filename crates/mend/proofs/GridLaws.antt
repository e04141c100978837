-- Closing a grid: what was there stays, nothing comes in that a transitive relation over it lacks, and in the end no way is missing.
-- One turn of the loop over b is a step; what each step keeps, the closing keeps. A round by way of k adds just the ways over k, so that ways
-- over the domains before k, once there, stay.
use Prim.Native.Nat.{ℕ, zero, suc, ◌+◌, ◌*◌, ◌≤◌, ◌<◌}
use mathlib.Core.Path.{◌≡◌, refl, sym, ◌∙◌}
use mathlib.Core.List.{List}
use mathlib.Core.Bool.{Bool, true, false}
use mathlib.Core.Logic.{◌⊎◌, inl, inr, ⊎_elim}
use native.Mathlib.Nat.{eq-or-lt_of_le}
use native.Mathlib.Omega.{arith}
use borrow.Author.Tests.{eqb-true, eqb-false}
use lib.Dec.{eqb}
use lib.ListN.{length, length-set}
use lib.Seq.{get_or-set_same, get_or-set_other}
use Rattle.basis.specs.Tests.{and, or}
use Rattle.basis.proofs.TestLaws.{by_test, and_both, or-true}
use Rattle.mend.specs.Grid.{cell, by_way, joined, widened, passed, closed}

-- What is true at a place by a test, told apart.
or_ways : (a b : Bool) → or a b ≡ true → (a ≡ true) ⊎ (b ≡ true)
or_ways true b e = inl refl
or_ways false b e = inr e

-- One step, over a grid of 256 cells.
module _ (k a b : ℕ) (g : List Bool) (ha : a < 16) (hb : b < 16) (long : length g ≡ 256) where
  here : cell (joined k a b g) a b ≡ by_way g k a b
  unfolding joined
  here = get_or-set_same g (16 * a + b) (by_way g k a b) false (omega arith)

  there : (x y : ℕ) → (16 * x + y ≡ 16 * a + b → ⊥) → cell (joined k a b g) x y ≡ cell g x y
  unfolding joined
  there x y h = get_or-set_other g (16 * a + b) (16 * x + y) (by_way g k a b) false h

  pub joined_long : length (joined k a b g) ≡ 256
  unfolding joined
  joined_long = length-set g (16 * a + b) (by_way g k a b) ∙ long

  -- What was there stays.
  joined_keeps : (x y : ℕ) → x < 16 → y < 16 → cell g x y ≡ true → cell (joined k a b g) x y ≡ true
  unfolding by_way
  joined_keeps x y hx hy e = by_test (eqb (16 * x + y) (16 * a + b))
      (λ t. let q : 16 * x + y ≡ 16 * a + b = eqb-true _ _ t in
      let p : x ≡ a = omega arith in
      let r : y ≡ b = omega arith in
      rw (p, r) (here ∙ rw (rw (p, r) at e)))
      (λ t. there x y (eqb-false _ _ t) ∙ e)

  -- The way over k is there.
  joined_new : cell g a k ≡ true → cell g k b ≡ true → cell (joined k a b g) a b ≡ true
  unfolding by_way
  joined_new p q = here ∙ rw (p, q) (or-true (cell g a b))

  -- Nothing else is.
  pub joined_only : (x y : ℕ) → x < 16 → y < 16 → cell (joined k a b g) x y ≡ true
      → (cell g x y ≡ true) ⊎ ((x ≡ a) × (y ≡ b) × (cell g a k ≡ true) × (cell g k b ≡ true))
  unfolding by_way
  joined_only x y hx hy e = by_test (eqb (16 * x + y) (16 * a + b))
      (λ t. let q : 16 * x + y ≡ 16 * a + b = eqb-true _ _ t in
      let p : x ≡ a = omega arith in
      let r : y ≡ b = omega arith in
      ⊎_elim (λ u. inl (rw (p, r) u)) (λ u. let w = and_both (cell g a k) (cell g k b) u in inr (p, r, w.0, w.1))
      (or_ways (cell g a b) (and (cell g a k) (cell g k b)) (sym here ∙ (rw (p, r) at e))))
      (λ t. inl (sym (there x y (eqb-false _ _ t)) ∙ e))

-- What each step keeps, the loops keep.
module _ (P : List Bool → Type 0) (k d : ℕ) (step : (a b : ℕ) (g : List Bool) → a < d → b < d → P g → P (joined k a b g)) where
  widened_keeps : (a n : ℕ) (g : List Bool) → a < d → n ≤ d → P g → P (widened k a n g)
  unfolding widened
  widened_keeps a zero g ha h p = p
  widened_keeps a (suc n) g ha h p = step a n _ ha h (widened_keeps a n g ha (omega arith) p)

  passed_keeps : (n : ℕ) (g : List Bool) → n ≤ d → P g → P (passed d k n g)
  unfolding passed
  passed_keeps zero g h p = p
  passed_keeps (suc n) g h p = widened_keeps n d _ h (omega arith) (passed_keeps n g (omega arith) p)

pub closed_keeps : (P : List Bool → Type 0) (d : ℕ) → ((k a b : ℕ) (g : List Bool) → k < d → a < d → b < d → P g → P (joined k a b g))
    → (n : ℕ) (g : List Bool) → n ≤ d → P g → P (closed d n g)
unfolding closed
closed_keeps P d step zero g h p = p
closed_keeps P d step (suc n) g h p = passed_keeps P n d (λ a b g ha hb. step n a b g h ha hb) d _ (omega arith) (closed_keeps P d step n g (omega arith) p)

-- A grid of 256 cells that has what another has.
record Over (f g : List Bool) : Type 0 where
  long : length g ≡ 256
  has : (x y : ℕ) → x < 16 → y < 16 → cell f x y ≡ true → cell g x y ≡ true

-- A grid that has only what f has, or has by way of k.
record Under (k : ℕ) (f g : List Bool) : Type 0 where
  long : length g ≡ 256
  ways : (x y : ℕ) → x < 16 → y < 16 → cell g x y ≡ true → (cell f x y ≡ true) ⊎ ((cell f x k ≡ true) × (cell f k y ≡ true))

-- Among d domains, what flows to m flows wherever m does.
pub record Via (d m : ℕ) (g : List Bool) : Type 0 where
  pub at : (x y : ℕ) → x < d → y < d → cell g x m ≡ true → cell g m y ≡ true → cell g x y ≡ true

module _ (d : ℕ) (hd : d ≤ 16) where
  over_step : (f : List Bool) (k a b : ℕ) (g : List Bool) → a < d → b < d → Over f g → Over f (joined k a b g)
  over_step f k a b g ha hb o = record {
    long = joined_long k a b g (omega arith) (omega arith) o.long;
    has = λ x y hx hy e. joined_keeps k a b g (omega arith) (omega arith) o.long x y hx hy (o.has x y hx hy e);
  }

  over_self : (g : List Bool) → length g ≡ 256 → Over g g
  over_self g l = record { long = l; has = λ x y hx hy e. e }

  closed_over : (n : ℕ) (g : List Bool) → n ≤ d → length g ≡ 256 → Over g (closed d n g)
  closed_over n g h l = closed_keeps (Over g) d (λ k a b g hk ha hb o. over_step _ k a b g ha hb o) n g h (over_self g l)

  pub closed_has : (n : ℕ) (g : List Bool) → n ≤ d → length g ≡ 256 → (x y : ℕ) → x < 16 → y < 16 → cell g x y ≡ true → cell (closed d n g) x y ≡ true
  closed_has n g h l = (closed_over n g h l).has

  -- A round by way of k, from a grid f: the ways over k come in, ..
  module _ (k : ℕ) (hk : k < d) (f : List Bool) (whole : length f ≡ 256) where
    widened_over : (a n : ℕ) (g : List Bool) → a < d → n ≤ d → Over f g → Over f (widened k a n g)
    widened_over a n g ha h o = widened_keeps (Over f) k d (λ a b g x y o. over_step f k a b g x y o) a n g ha h o

    passed_over : (n : ℕ) → n ≤ d → Over f (passed d k n f)
    passed_over n h = passed_keeps (Over f) k d (λ a b g x y o. over_step f k a b g x y o) n f h (over_self f whole)

    widened_new : (a b n : ℕ) (g : List Bool) → a < d → b < n → n ≤ d → Over f g → cell f a k ≡ true → cell f k b ≡ true → cell (widened k a n g) a b ≡ true
    unfolding widened
    widened_new a b zero g ha hb h o p q = absurd (omega arith)
    widened_new a b (suc n) g ha hb h o p q =
        let w = widened_over a n g ha (omega arith) o in
        ⊎_elim
        (λ (e : b ≡ n). rw e (joined_new k a n _ (omega arith) (omega arith) w.long (w.has a k (omega arith) (omega arith) p) (w.has k n (omega arith) (omega arith) (rw e at q))))
        (λ (l : b < n). joined_keeps k a n _ (omega arith) (omega arith) w.long a b (omega arith) (omega arith) (widened_new a b n g ha l (omega arith) o p q))
        (eq-or-lt_of_le (omega arith))

    passed_new : (n x y : ℕ) → x < n → n ≤ d → y < d → cell f x k ≡ true → cell f k y ≡ true → cell (passed d k n f) x y ≡ true
    unfolding passed
    passed_new zero x y hx h hy p q = absurd (omega arith)
    passed_new (suc n) x y hx h hy p q =
        let w = passed_over n (omega arith) in
        ⊎_elim
        (λ (e : x ≡ n). rw e (widened_new n y d _ h hy (omega arith) w (rw e at p) q))
        (λ (l : x < n). (widened_keeps (Over (passed d k n f)) k d (λ a b g u v o. over_step (passed d k n f) k a b g u v o) n d _ h (omega arith) (over_self _ w.long)
        ).has x y (omega arith) (omega arith) (passed_new n x y l (omega arith) hy p q))
        (eq-or-lt_of_le (omega arith))

    -- .. and nothing else does.
    to_k : (g : List Bool) → Under k f g → (x : ℕ) → x < 16 → cell g x k ≡ true → cell f x k ≡ true
    to_k g u x h e = ⊎_elim (λ p. p) (λ p. p.0) (u.ways x k h (omega arith) e)

    from_k : (g : List Bool) → Under k f g → (y : ℕ) → y < 16 → cell g k y ≡ true → cell f k y ≡ true
    from_k g u y h e = ⊎_elim (λ p. p) (λ p. p.1) (u.ways k y (omega arith) h e)

    under_step : (a b : ℕ) (g : List Bool) → a < d → b < d → Under k f g → Under k f (joined k a b g)
    under_step a b g ha hb u = record {
      long = joined_long k a b g (omega arith) (omega arith) u.long;
      ways = λ x y hx hy e. ⊎_elim
          (λ p. u.ways x y hx hy p)
          (λ p. inr (rw p.0 (to_k g u a (omega arith) p.2), rw p.1 (from_k g u b (omega arith) p.3)))
          (joined_only k a b g (omega arith) (omega arith) u.long x y hx hy e);
    }

    passed_under : Under k f (passed d k d f)
    passed_under = passed_keeps (Under k f) k d under_step d f (omega arith) (record { long = whole; ways = λ x y hx hy e. inl e })

  -- A round keeps it for the domains before k, and brings it for k.
  module _ (k : ℕ) (hk : k < d) (f : List Bool) (whole : length f ≡ 256) where
    round_new : Via d k (passed d k d f)
    round_new = record {
      at = λ x y hx hy p q.
          let u = passed_under k hk f whole in
          passed_new k hk f whole d x y hx (omega arith) hy (to_k k hk f whole _ u x (omega arith) p) (from_k k hk f whole _ u y (omega arith) q);
    }

    round_keeps : (m : ℕ) → m < d → Via d m f → Via d m (passed d k d f)
    round_keeps m hm v = record {
      at = λ x y hx hy p q.
          let u = passed_under k hk f whole in
          let new : cell f x k ≡ true → cell f k y ≡ true → cell (passed d k d f) x y ≡ true = passed_new k hk f whole d x y hx (omega arith) hy in
          ⊎_elim
          (λ s. ⊎_elim
          (λ t. (passed_over k hk f whole d (omega arith)).has x y (omega arith) (omega arith) (v.at x y hx hy s t))
          (λ t. new (v.at x k hx hk s t.0) t.1)
          (u.ways m y (omega arith) (omega arith) q))
          (λ s. ⊎_elim (λ t. new s.0 (v.at k y hk hy s.1 t)) (λ t. new s.0 t.1) (u.ways m y (omega arith) (omega arith) q))
          (u.ways x m (omega arith) (omega arith) p);
    }

  pub closed_via : (n : ℕ) (g : List Bool) → n ≤ d → length g ≡ 256 → (m : ℕ) → m < n → Via d m (closed d n g)
  unfolding closed
  closed_via zero g h l m hm = absurd (omega arith)
  closed_via (suc n) g h l m hm =
      let o = closed_over n g (omega arith) l in
      ⊎_elim
      (λ (e : m ≡ n). rw e (round_new n h _ o.long))
      (λ (s : m < n). round_keeps n h _ o.long m (omega arith) (closed_via n g (omega arith) l m s))
      (eq-or-lt_of_le (omega arith))
