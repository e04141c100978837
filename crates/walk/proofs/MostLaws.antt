-- In n steps a thread pays no more than the rest it begins with and ceil(n / P) times W, since it is released ceil(n / P) times at most. The
-- processor idles on its account only in steps in which it pays, so that (ceil(n / P) + 1) times W is the most of these, too.
use Prim.Native.Nat.{ℕ, ◌+◌, ◌*◌, ◌≤◌, ◌<◌, zero-le}
use mathlib.Core.Path.{◌≡◌, refl, ap, subst, sym}
use mathlib.Core.List.{List, [], ◌∷◌}
use native.Mathlib.Nat.{le_trans, le_refl, suc-mul, mul-le-mul_right}
use native.Mathlib.Omega.{arith}
use borrow.Author.Tests.{eqb-true}
use lib.ListN.{length}
use lib.Dec.{eqb}
use Rattle.basis.specs.Ceil.{ceil}
use Rattle.basis.specs.Spaced.{happened}
use Rattle.basis.proofs.TestLaws.{by_test, either}
use Rattle.basis.proofs.CeilLaws.{ceil_least, ceil_covers}
use Rattle.table.specs.Threads.{thread}
use Rattle.table.specs.Legal.{Legal}
use Rattle.table.specs.declared.Table.{Table}
use Rattle.table.proofs.LegalLaws.{legal_complete}
use Rattle.state.specs.State.{progress, last_clock, Fits}
use Rattle.state.specs.Release.{release, releases}
use Rattle.state.specs.declared.State.{State}
use Rattle.state.proofs.ReleaseLaws.{release_spends}
use Rattle.state.proofs.FitLaws.{release-fits}
use Rattle.frame.specs.Mode.{Mode}
use Rattle.walk.specs.Step.{Input, step, Names, idles, idled_by}
use Rattle.walk.specs.Paid.{pays, payments, idles_of}
use Rattle.walk.specs.Releases.{releases_in}
use Rattle.walk.specs.declared.Answer.{Answer}
use Rattle.walk.specs.declared.Answer.TheVariants.{Ran, IdleFor, Idle}
use Rattle.walk.proofs.StepLaws.{step_clock, step_fits, chosen_rested}
use Rattle.walk.proofs.PaidLaws.{step_spends}
use Rattle.walk.proofs.ChoiceLaws.{reached_pay_one}
use Rattle.walk.proofs.OutsideLaws.{chosen-walks}
use Rattle.walk.proofs.ReleasedLaws.{releases-most}

-- So many steps are left before the last clock.
abbrev pub Room : List Input → State → Type 0
Room a s = s.clock + length a ≤ last_clock

module _ (t : Table) (mode : Mode) where
  pub room_now : (x : Input) (a : List Input) (s : State) → Room (x ∷ a) s → s.clock < last_clock
  room_now x a s r = omega arith

  pub room_later : (x : Input) (a : List Input) (s : State) → Room (x ∷ a) s → Room a (step t mode x s).state
  room_later x a s r = omega (arith, step_clock t mode x s)

  pub fits-later : (x : Input) (a : List Input) (s : State) → Fits t s → Room (x ∷ a) s → Fits t (step t mode x s).state
  fits-later x a s f r = step_fits t mode x s f (room_now x a s r)

  -- what a thread pays in a step is gone from its rest
  pub pays_from_rest : (x : Input) (s : State) (i : ℕ)
      → (progress (step t mode x s).state i).rest + pays t mode x s i ≡ (progress (release t x.mask s) i).rest
  unfolding pays
  pays_from_rest x s i = omega (arith, (step_spends t mode x s).at i)

idles_own : (k i : ℕ) → Names k (IdleFor i) → k ≡ i
idles_own k i idles = refl

module _ (t : Table) (mode : Mode) (g : Legal t) (h : ℕ) (l : h < t.count) where
  -- a thread pays no more than what it has, and W for each release
  paid-most : (a : List Input) (s : State) → Fits t s → Room a s
      → payments t mode h a s ≤ (progress s h).rest + happened (releases_in t mode h a s) * (thread t h).budget
  unfolding payments releases_in happened
  paid-most [] s f r = zero-le
  paid-most (x ∷ a) s f r =
      let z : State = (step t mode x s).state in
      let m = paid-most a z (fits-later t mode x a s f r) (room_later t mode x a s r) in
      by_test (releases t h x.mask s)
      (λ e. rw e (omega (
        arith,
        pays_from_rest t mode x s h,
        ((release-fits t x.mask s f).at h).rest_high l,
        suc-mul (happened (releases_in t mode h a z)) (thread t h).budget,
      )))
      (λ e. rw e (omega (arith, pays_from_rest t mode x s h, release_spends t h x.mask s e)))

  -- and in at most x steps that is ceil(x / P) times W
  pub paid-within : (a : List Input) (s : State) → Fits t s → Room a s → (x : ℕ) → length a ≤ x
      → payments t mode h a s ≤ (progress s h).rest + ceil x (thread t h).period * (thread t h).budget
  paid-within a s f r x m =
      let p : ℕ = (thread t h).period in
      let few : happened (releases_in t mode h a s) ≤ ceil x p = le_trans (releases-most t mode (legal_complete t g) g.sized h l a s f)
      (ceil_least (length a) p (ceil x p) (g.threads h l).period_low (omega (arith, ceil_covers x p (g.threads h l).period_low))) in
      omega (arith, paid-most a s f r, mul-le-mul_right (thread t h).budget few)

  -- where the processor idles on a thread's account, the thread pays
  pub idle-pays : (x : Input) (s : State) → Fits t s → (step t mode x s).answer ≡ IdleFor h → pays t mode x s h ≡ 1
  idle-pays x s f e =
      let named : Names h (step t mode x s).answer = subst (λ (a : Answer). Names h a) (sym e) idles in
      reached_pay_one t mode g x s f h l (chosen-walks t mode x s h named) ((chosen_rested t mode x s).idled h e)
      (λ k n. let q : k ≡ h = idles_own k h (subst (λ (a : Answer). Names k a) e n) in rw q (le_refl _))

  idled_paid : (x : Input) (s : State) → Fits t s → idled_by h (step t mode x s).answer ≤ pays t mode x s h
  unfolding idled_by
  idled_paid x s f = go (step t mode x s).answer (λ e. idle-pays x s f e)
    where
      go : (a : Answer) → (a ≡ IdleFor h → pays t mode x s h ≡ 1) → idled_by h a ≤ pays t mode x s h
      go (Ran j) p = zero-le
      go (IdleFor j) p =
          either (λ (n : ℕ). n ≤ pays t mode x s h) (eqb h j)
          (λ e. let q : h ≡ j = eqb-true _ _ e in omega (arith, p (ap IdleFor (sym q)))) (λ e. zero-le)
      go Idle p = zero-le

  -- the steps that idle on a thread's account are no more than what it pays
  pub idles_paid : (a : List Input) (s : State) → Fits t s → Room a s → idles_of t mode h a s ≤ payments t mode h a s
  unfolding idles_of payments
  idles_paid [] s f r = zero-le
  idles_paid (x ∷ a) s f r =
      omega (arith, idled_paid x s f, idles_paid a (step t mode x s).state (fits-later t mode x a s f r) (room_later t mode x a s r))

  -- so in at most x steps they are (ceil(x / P) + 1) times W at most
  pub idles_within : (a : List Input) (s : State) → Fits t s → Room a s → (x : ℕ) → length a ≤ x
      → idles_of t mode h a s ≤ (ceil x (thread t h).period + 1) * (thread t h).budget
  idles_within a s f r x m =
      omega (
        arith,
        idles_paid a s f r,
        paid-within a s f r x m,
        (f.places h).rest_high l,
        suc-mul (ceil x (thread t h).period) (thread t h).budget,
      )
