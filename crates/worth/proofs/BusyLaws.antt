-- The time since the threads above one were last all at rest 0: at each step since then one of them paid, so it is shorter than the bound.
-- This is carried forward from step to step, so that no last idle instant is searched for.
use Prim.Native.Nat.{ℕ, ◌+◌, ◌≤◌, ◌<◌, zero-le}
use mathlib.Core.Path.{◌≡◌, refl, sym, ◌∙◌, ap}
use mathlib.Core.List.{List, [], ◌∷◌, ◌++◌}
use mathlib.Core.Bool.{Bool}
use native.Mathlib.Omega.{arith}
use borrow.Author.Tests.{lt-ltb, ltb-true, eqb-true, eqb-false}
use lib.ListN.{length, length-append}
use lib.Dec.{eqb, ltb}
use Rattle.basis.specs.Tests.{and, some}
use Rattle.basis.specs.Turns.{after}
use Rattle.basis.proofs.TestLaws.{by_test, and_both, and-of, some-found, some-false, refuted}
use Rattle.basis.proofs.TurnLaws.{after_join}
use Rattle.table.specs.Threads.{thread}
use Rattle.table.specs.Legal.{Legal}
use Rattle.table.specs.declared.Table.{Table}
use Rattle.state.specs.State.{progress, fresh, last_clock, Fits}
use Rattle.state.specs.Release.{release}
use Rattle.state.specs.declared.Progress.{Progress}
use Rattle.state.specs.declared.State.{State}
use Rattle.state.proofs.FitLaws.{fresh-fits}
use Rattle.state.proofs.StartLaws.{fresh-event, fresh_periodic}
use Rattle.frame.specs.Mode.{unframed}
use Rattle.walk.specs.Step.{Input, step}
use Rattle.walk.specs.Paid.{pays, payments}
use Rattle.walk.specs.declared.Walked.{Walked}
use Rattle.walk.proofs.StepLaws.{step_fits}
use Rattle.walk.proofs.PaidLaws.{step_spends}
use Rattle.walk.proofs.MostLaws.{Room, paid-within}
use Rattle.admission.specs.Demand.{above, demand}
use Rattle.worth.proofs.PayerLaws.{Payer, step_payer}
use Rattle.worth.proofs.AboveLaws.{upper, Above, upper_add, upper-one, upper-most}
use Rattle.worth.proofs.MostLaws.{onward, onward_clock, payments_join}

-- What the threads above thread i pay over these steps.
abbrev pub upper_paid : Table → ℕ → List Input → State → ℕ
upper_paid t i a s = upper t i (λ h. payments t unframed h a s)

-- No thread above i has a rest.
abbrev pub Resting : Table → ℕ → State → Type 0
Resting t i s = (h : ℕ) → h < t.count → Above t i h → (progress s h).rest ≡ 0

-- A state reached by fewer than x steps from one in which they rest, with a payment of theirs for each.
pub record Busy (t : Table) (i x : ℕ) (s : State) : Type 0 where
  pub start : State
  pub steps : List Input
  pub arrives : onward t steps start ≡ s
  pub fits : Fits t start
  pub resting : Resting t i start
  pub busy : length steps ≤ upper_paid t i steps start
  pub short : length steps < x

module _ (t : Table) (i : ℕ) where
  pub upper_join : (a b : List Input) (s : State) → upper_paid t i (a ++ b) s ≡ upper_paid t i a s + upper_paid t i b (onward t a s)
  upper_join a b s =
      simp (payments_join t) (upper_add t i (λ h. payments t unframed h a s) (λ h. payments t unframed h b (onward t a s)))

  upper-step : (y : Input) (s : State) → upper_paid t i (y ∷ []) s ≡ upper t i (λ k. pays t unframed y s k)
  unfolding payments
  upper-step y s = simp add_none
    where
      add_none : (n : ℕ) → n + 0 ≡ n
      add_none n = omega arith

  -- the clocks of those steps
  pub busy_clock : (x : ℕ) (s : State) (b : Busy t i x s) → b.start.clock + length b.steps ≡ s.clock
  busy_clock x s b = sym (onward_clock t b.steps b.start) ∙ ap (λ (z : State). z.clock) b.arrives

module _ (t : Table) (i : ℕ) (g : Legal t) where
  -- a thread above i that has a rest after the release sees to it that one of them pays
  upper-pays : (y : Input) (s : State) → Fits t s → (h : ℕ) → h < t.count → Above t i h → 0 < (progress (release t y.mask s) h).rest
      → 1 ≤ upper t i (λ k. pays t unframed y s k)
  upper-pays y s f h l a r =
      let p : Payer t h y s = step_payer t g y s f h l r in
      omega (arith, p.one, upper-one t i (λ k. pays t unframed y s k) p.payer p.below (omega (arith, p.upper)))

  module _ (x : ℕ) (holds : demand t i x ≤ x) where
    -- in at most x steps from rest they pay what the demand leaves beside the budget
    pub upper-within : (a : List Input) (s : State) → Fits t s → Room a s → Resting t i s → length a ≤ x
        → (thread t i).budget + upper_paid t i a s ≤ x
    upper-within a s f r z l =
        let m = upper-most t i x (λ h. payments t unframed h a s) (λ h k u. omega (arith, paid-within t unframed g h k a s f r x l, z h k u)) in
        omega arith

    module _ (some-budget : 1 ≤ (thread t i).budget) where
      begins : (s : State) → Fits t s → Resting t i s → Busy t i x s
      unfolding after
      begins s f z = record {
        start = s;
        steps = [];
        arrives = refl;
        fits = f;
        resting = z;
        busy = zero-le;
        short = omega (arith, upper-within [] s f (omega (arith, f.clock_high)) z zero-le);
      }

      -- one more step, in which one of them pays
      goes_on : (y : Input) (s : State) → s.clock < last_clock → Busy t i x s → 1 ≤ upper t i (λ k. pays t unframed y s k)
          → Busy t i x (step t unframed y s).state
      unfolding after
      goes_on y s c b p =
          let a : List Input = b.steps ++ (y ∷ []) in
          let e : onward t a b.start ≡ (step t unframed y s).state
          = after_join (step t unframed) (λ (w : Walked). w.state) b.steps (y ∷ []) b.start ∙ rw b.arrives in
          let u : upper_paid t i a b.start ≡ upper_paid t i b.steps b.start + upper t i (λ k. pays t unframed y s k)
          = upper_join t i b.steps (y ∷ []) b.start ∙ rw (b.arrives, upper-step t i y s) in
          let n : length a ≡ length b.steps + 1 = length-append b.steps (y ∷ []) in
          record {
            start = b.start;
            steps = a;
            arrives = e;
            fits = b.fits;
            resting = b.resting;
            busy = omega (arith, b.busy);
            short = omega (
              arith,
              b.busy,
              b.short,
              upper-within a b.start b.fits (omega (arith, busy_clock t i x s b)) b.resting (omega (arith, b.short)),
            );
          }

      -- thread h stands above i and has a rest in s
      abbrev ahead : State → ℕ → Bool
      ahead s h = and (above (thread t i) (thread t h)) (ltb 0 (progress s h).rest)

      pub busy-next : (y : Input) (s : State) → Fits t s → s.clock < last_clock → Busy t i x s → Busy t i x (step t unframed y s).state
      unfolding above
      busy-next y s f c b =
          let r : State = release t y.mask s in
          by_test (some t.count (ahead r))
          (λ e. let h = some-found (ahead r) t.count e in
          let q = and_both (above (thread t i) (thread t h.number)) _ h.passes in
          goes_on y s c b (upper-pays y s f h.number h.below (ltb-true _ _ q.0) (ltb-true _ _ q.1)))
          (λ e. begins (step t unframed y s).state (step_fits t unframed y s f c)
          (λ h l a.
          let z : ¬ (0 < (progress r h).rest) = λ p. refuted (and-of (lt-ltb _ _ a) (lt-ltb _ _ p)) (some-false (ahead r) t.count h e l) in
          omega (arith, (step_spends t unframed y s).at h)))

      -- a fresh start has every thread at rest
      fresh_rest : (h : ℕ) → h < t.count → (progress (fresh t) h).rest ≡ 0
      fresh_rest h l =
          by_test (eqb (thread t h).kind 1)
          (λ e. ap (λ (p : Progress). p.rest) (fresh-event t h l (eqb-true _ _ e)))
          (λ e. ap (λ (p : Progress). p.rest) (fresh_periodic t h l (eqb-false _ _ e)))

      pub busy-fresh : Busy t i x (fresh t)
      busy-fresh = begins (fresh t) (fresh-fits t g.count_high) (λ h l a. fresh_rest h l)
