-- The mended rows are the smallest transitive relation that holds those given, and the only one.
use Prim.Native.Nat.{ℕ, ◌≤◌, ◌<◌}
use mathlib.Core.Path.{◌≡◌, sym, ◌∙◌}
use mathlib.Core.List.{List}
use mathlib.Core.Bool.{Bool, true}
use mathlib.Core.Logic.{⊎_elim}
use native.Mathlib.Nat.{le_refl}
use native.Mathlib.Omega.{arith}
use lib.ListN.{length}
use Rattle.basis.specs.Search.{nothing}
use Rattle.basis.proofs.TestLaws.{by_test, fails, refuted}
use Rattle.flow.specs.Flow.{flows}
use Rattle.flow.specs.Gap.{WithoutGap, first_gap}
use Rattle.flow.proofs.FlowLaws.{row_of}
use Rattle.flow.proofs.GapLaws.{no_gap, whole-flows, flows-whole}
use Rattle.mend.specs.Grid.{cell, filled, joined, closed}
use Rattle.mend.specs.Rows.{mended}
use Rattle.mend.specs.Plain.{Holds, Policy, Sixteen, Smallest}
use Rattle.mend.proofs.GridLaws.{joined_long, joined_only, closed_keeps, closed_has, closed_via}
use Rattle.mend.proofs.RowLaws.{filled_long, filled-cell, rows_flow, rows_sixteen, sixteen_known, still_zero, policy_known, policy_own, policy_small, rows_same}

-- Two tests that follow from each other are equal.
both_true : (s t : Bool) → (s ≡ true → t ≡ true) → (t ≡ true → s ≡ true) → s ≡ t
both_true s t f g = by_test s (λ e. e ∙ sym (f e)) (λ e. e ∙ sym (fails t (λ h. refuted (g h) e)))

-- A grid of 256 cells whose every true cell is a pair of R.
record Within (R : ℕ → ℕ → Type 0) (g : List Bool) : Type 0 where
  long : length g ≡ 256
  pairs : (x y : ℕ) → x < 16 → y < 16 → cell g x y ≡ true → R x y

module _ (R : ℕ → ℕ → Type 0) (d : ℕ) (few : d ≤ 16) (turn : (x k y : ℕ) → x < d → k < d → y < d → R x k → R k y → R x y) where
  within_step : (k a b : ℕ) (g : List Bool) → k < d → a < d → b < d → Within R g → Within R (joined k a b g)
  within_step k a b g hk ha hb w = record {
    long = joined_long k a b g (omega arith) (omega arith) w.long;
    pairs = λ x y hx hy e. ⊎_elim
        (λ p. w.pairs x y hx hy p)
        (λ p. rw (p.0, p.1) (turn a k b ha hk hb (w.pairs a k (omega arith) (omega arith) p.2) (w.pairs k b (omega arith) (omega arith) p.3)))
        (joined_only k a b g (omega arith) (omega arith) w.long x y hx hy e);
  }

  -- What the closed grid has, every relation has that has what the rows have and goes on over d domains.
  closed-within : (rows : List ℕ) → ((x y : ℕ) → flows rows x y ≡ true → R x y) → Within R (closed d d (filled rows))
  closed-within rows h = closed_keeps (Within R) d within_step d (filled rows) (le_refl d)
      (record { long = filled_long rows; pairs = λ x y hx hy e. h x y (sym (filled-cell rows x y hx hy) ∙ e) })

module _ (d : ℕ) (rows : List ℕ) (few : d ≤ 16) where
  pub mended_sixteen : Sixteen (mended d rows)
  unfolding mended
  mended_sixteen = rows_sixteen (closed d d (filled rows))

  mended-cell : (a b : ℕ) → a < 16 → b < 16 → flows (mended d rows) a b ≡ cell (closed d d (filled rows)) a b
  unfolding mended
  mended-cell a b ha hb = rows_flow (closed d d (filled rows)) a b ha hb

  -- Every pair of the given rows is there.
  pub mended_keeps : (a b : ℕ) → a < 16 → b < 16 → flows rows a b ≡ true → flows (mended d rows) a b ≡ true
  mended_keeps a b ha hb e = mended-cell a b ha hb ∙ closed_has d few d (filled rows) (le_refl d) (filled_long rows) a b ha hb (filled-cell rows a b ha hb ∙ e)

  -- Every pair that is there is one of R.
  mended-within : (R : ℕ → ℕ → Type 0) → ((x k y : ℕ) → x < d → k < d → y < d → R x k → R k y → R x y) → ((x y : ℕ) → flows rows x y ≡ true → R x y)
      → (a b : ℕ) → flows (mended d rows) a b ≡ true → R a b
  mended-within R turn h a b e =
      let k = sixteen_known (mended d rows) a b mended_sixteen e in
      (closed-within R d few turn rows h).pairs a b k.0 k.1 (sym (mended-cell a b k.0 k.1) ∙ e)

  pub mended_least : (qs : List ℕ) → Holds rows qs → WithoutGap qs d → Holds (mended d rows) qs
  mended_least qs h w = record {
    all = mended-within (λ x y. flows qs x y ≡ true) (λ x k y hx hk hy p q. whole-flows qs d w x k y hx hk hy p q) h.all;
  }

  -- No way is missing: the search for a gap finds none.
  pub mended_transitive : WithoutGap (mended d rows) d
  mended_transitive = flows-whole (mended d rows) d (λ a b c ha hb hc p q.
      let at : (x y : ℕ) → x < d → y < d → flows (mended d rows) x y ≡ cell (closed d d (filled rows)) x y = λ x y hx hy. mended-cell x y (omega arith) (omega arith) in
      at a c ha hc ∙ (closed_via d few d (filled rows) (le_refl d) (filled_long rows) b hb).at a c ha hc (sym (at a b ha hb) ∙ p) (sym (at b c hb hc) ∙ q))

  pub mended_no_gap : first_gap (mended d rows) d ≡ nothing
  mended_no_gap = no_gap (mended d rows) d mended_transitive

module _ (d : ℕ) (rows : List ℕ) (p : Policy d rows) where
  -- Only pairs of the policy's domains are there.
  pub mended-known : (a b : ℕ) → flows (mended d rows) a b ≡ true → (a < d) × (b < d)
  mended-known = mended-within d rows p.few (λ x y. (x < d) × (y < d)) (λ x k y hx hk hy r s. (hx, hy)) (λ x y e. policy_known d rows x y p e)

  pub mended_holds : Holds rows (mended d rows)
  mended_holds = record {
    all = λ a b e. let k = policy_known d rows a b p e in mended_keeps d rows p.few a b (omega (arith, k.0, p.few)) (omega (arith, k.1, p.few)) e;
  }

  pub mended_smallest : Smallest d rows (mended d rows)
  mended_smallest = record { holds = mended_holds; transitive = mended_transitive d rows p.few; least = mended_least d rows p.few }

  -- The mended rows are those of a policy again: they pass 6, and behind them stands none.
  pub mended_policy : Policy d (mended d rows)
  mended_policy = record {
    few = p.few;
    passing = record {
      at = λ i h. row_of (mended d rows) d i (λ j e. (mended-known i j e).1) (mended_holds.all i i (policy_own d rows i p h));
    };
    unused = λ i h. still_zero (mended d rows) i (mended_sixteen d rows p.few) (λ b e. omega (arith, (mended-known i b e).0));
  }

-- There is one smallest relation.
pub smallest_flows : (d : ℕ) (rows ms ns : List ℕ) → Smallest d rows ms → Smallest d rows ns → (a b : ℕ) → flows ms a b ≡ flows ns a b
smallest_flows d rows ms ns s t a b =
    both_true (flows ms a b) (flows ns a b) (λ e. (s.least ns t.holds t.transitive).all a b e) (λ e. (t.least ms s.holds s.transitive).all a b e)

pub smallest_once : (d : ℕ) (rows ms ns : List ℕ) → Sixteen ms → Sixteen ns → Smallest d rows ms → Smallest d rows ns → ms ≡ ns
smallest_once d rows ms ns x y s t = rows_same ms ns x y (smallest_flows d rows ms ns s t)

-- The mended rows are it, exactly.
pub mended_exactly : (d : ℕ) (rows ms : List ℕ) → Policy d rows → Sixteen ms → Smallest d rows ms → ms ≡ mended d rows
mended_exactly d rows ms p x s = smallest_once d rows ms (mended d rows) x (mended_sixteen d rows p.few) s (mended_smallest d rows p)

-- A policy that is transitive is its own smallest, and comes back.
pub whole_smallest : (d : ℕ) (rows : List ℕ) → WithoutGap rows d → Smallest d rows rows
whole_smallest d rows w = record { holds = record { all = λ a b e. e }; transitive = w; least = λ qs h v. h }

pub mended-whole : (d : ℕ) (rows : List ℕ) → Policy d rows → length rows ≡ 16 → WithoutGap rows d → mended d rows ≡ rows
mended-whole d rows p l w = sym (mended_exactly d rows rows p (record { long = l; small = policy_small d rows p }) (whole_smallest d rows w))

-- Mending twice changes nothing.
pub mended-twice : (d : ℕ) (rows : List ℕ) → Policy d rows → mended d (mended d rows) ≡ mended d rows
mended-twice d rows p =
    mended-whole d (mended d rows) (mended_policy d rows p) (mended_sixteen d rows p.few).long (mended_transitive d rows p.few)
