-- The promises over runs, each by induction on the calls: a refused call stands still, any other makes one move.
use Prim.Native.Nat.{ℕ, zero, suc, ◌+◌, ◌-◌, ◌*◌, ◌≤◌, ◌<◌}
use mathlib.Core.Path.{◌≡◌, sym, ◌∙◌, ap, subst}
use mathlib.Core.List.{List, [], ◌∷◌}
use native.Mathlib.Nat.{le_trans, mul-le-mul_right, zero-add, le_of_suc-le-suc, not-suc-le-zero}
use native.Mathlib.Omega.{arith}
use borrow.Author.Tests.{eq-eqb, ne_eqb, eqb-true, eqb-false}
use lib.ListN.{length, take}
use lib.Dec.{eqb}
use lib.IntN.{ℤ}
use Rattle.basis.specs.Turns.{in_turn}
use Rattle.basis.specs.Tests.{pick}
use Rattle.basis.proofs.TestLaws.{by_test, both_ways, either}
use Rattle.table.specs.declared.Table.{Table}
use Rattle.state.specs.declared.State.{State}
use Rattle.frame.specs.Mode.{Mode}
use Rattle.actuator.specs.Motion.{drawn, distance, moved}
use Rattle.actuator.specs.Drive.{Brought, Drove, commanded, moved_to, follows, driven}
use Rattle.actuator.specs.Runs.{drives, actuators, actuator_after, position_after, steps_among, RangeKept, CommandKept, RateKept, Standing, ended, next, passed, again, BroughtStands, DistanceFalls, Between, NeverOvershoots, CallBetween}
use Rattle.actuator.specs.Numbered.{InRange}
use Rattle.actuator.specs.declared.Actuator.{Actuator}
use Rattle.actuator.proofs.RangeLaws.{moved_in, ranged_position}
use Rattle.actuator.proofs.NumberLaws.{in_range_sound, drive_refused_keeps}
use Rattle.actuator.proofs.MoveLaws.{distance_self, distance_by, between_self, between_through, move_short, move_nearer, move_between, Case, stays, goes, case_of}

module _ (t : Table) (mode : Mode) (b : Brought) (s : State) (a : Actuator) where
  -- What one call does: it keeps the rate and the ranges, moves by the rate at most, and does not pass the command that stands after it.
  rate_stays : (driven t mode b s a).actuator.rate ≡ a.rate
  unfolding moved_to
  rate_stays = go (case_of t mode b s a)
    where
      go : Case t mode b s a → (driven t mode b s a).actuator.rate ≡ a.rate
      go (stays z e) = ap (λ (x : Actuator). x.rate) e
      go (goes c r f e) = ap (λ (x : Actuator). x.rate) e

  range_stays : InRange a.position → InRange (driven t mode b s a).actuator.position
  unfolding moved_to
  range_stays i = go (case_of t mode b s a)
    where
      go : Case t mode b s a → InRange (driven t mode b s a).actuator.position
      go (stays z e) = rw e i
      go (goes c r f e) = rw e (in_range_sound (moved a.rate a.position c) (moved_in a.rate a.position c (ranged_position a r) f))

  command_stays : InRange a.command → InRange (driven t mode b s a).actuator.command
  unfolding moved_to
  command_stays i = go (case_of t mode b s a)
    where
      go : Case t mode b s a → InRange (driven t mode b s a).actuator.command
      go (stays z e) = rw e i
      go (goes c r f e) = rw e (in_range_sound c f)

  call-short : distance a.position (driven t mode b s a).actuator.position ≤ a.rate
  unfolding moved_to
  call-short = go (case_of t mode b s a)
    where
      go : Case t mode b s a → distance a.position (driven t mode b s a).actuator.position ≤ a.rate
      go (stays z e) = rw e (omega (arith, distance_self a.position))
      go (goes c r f e) = rw e (move_short a.rate a.position c)

  -- Where it is a step that leaves the command c, the distance to c falls by the rate or to 0.
  call_nearer : (c : ℤ) → (driven t mode b s a).told.number ≡ 0 → (driven t mode b s a).actuator.command ≡ c
      → distance (driven t mode b s a).actuator.position c ≡ distance a.position c - a.rate
  unfolding moved_to
  call_nearer c n k = go (case_of t mode b s a)
    where
      go : Case t mode b s a → distance (driven t mode b s a).actuator.position c ≡ distance a.position c - a.rate
      go (stays z e) = absurd (z n)
      go (goes x r f e) =
          let q : x ≡ c = sym (ap (λ (y : Actuator). y.command) e) ∙ k in
          rw (e, ← q) (move_nearer a.rate a.position x)

-- The last command stays where the number brought is drawn to it.
drawn_to_it : (t : Table) (mode : Mode) (b : Brought) (s : State) (a : Actuator) (c : ℤ) → a.command ≡ c → drawn b.command ≡ c
    → (driven t mode b s a).actuator.command ≡ c
unfolding driven follows moved_to commanded
drawn_to_it t mode b s a c e f =
    let P : Drove → Type 0 = λ r. r.actuator.command ≡ c in
    both_ways P _ _ _ (both_ways P _ _ _ (both_ways P _ _ _ (both_ways (λ (x : ℤ). x ≡ c) _ _ _ f e) e) e) e

pub call_between : CallBetween
unfolding moved_to
call_between t mode b s a = go (case_of t mode b s a)
  where
    go : Case t mode b s a → Between a.position (driven t mode b s a).actuator.command (driven t mode b s a).actuator.position
    go (stays z e) = rw e (between_self a.position a.command)
    go (goes c r f e) = rw e (move_between a.rate a.position c)

-- What each call keeps of an actuator holds after every call of a run.
kept-along : (t : Table) (mode : Mode) (P : Actuator → Type 0) → ((b : Brought) (s : State) (a : Actuator) → P a → P (driven t mode b s a).actuator)
    → (bs : List Brought) (s : State) (a : Actuator) → P a → (k : ℕ) → k ≤ length bs → P (actuator_after t mode bs s a k)
unfolding actuators drives in_turn
kept-along t mode P keep bs s a i zero h = i
kept-along t mode P keep [] s a i (suc k) h = absurd (not-suc-le-zero h)
kept-along t mode P keep (b ∷ bs) s a i (suc k) h = kept-along t mode P keep bs _ _ (keep b s a i) k (le_of_suc-le-suc h)

pub range-kept : RangeKept
range-kept t mode bs s a i = kept-along t mode (λ x. InRange x.position) (range_stays t mode) bs s a i

pub command-kept : CommandKept
command-kept t mode bs s a i = kept-along t mode (λ x. InRange x.command) (command_stays t mode) bs s a i

-- A refused call moves nothing.
refused_stands : (t : Table) (mode : Mode) (b : Brought) (s : State) (a : Actuator) → 0 < (driven t mode b s a).told.number
    → (driven t mode b s a).actuator.position ≡ a.position
refused_stands t mode b s a n = ap (λ (x : Actuator). x.position) (drive_refused_keeps t mode b s a n).1

-- From the first position, and from any other.
rate_from_first : (t : Table) (mode : Mode) (bs : List Brought) (s : State) (a : Actuator) (k : ℕ) → k ≤ length bs
    → distance a.position (position_after t mode bs s a k) ≤ steps_among (take k (drives t mode bs s a)) * a.rate
unfolding actuators drives in_turn steps_among
rate_from_first t mode bs s a zero h = omega (arith, distance_self a.position)
rate_from_first t mode [] s a (suc k) h = absurd (not-suc-le-zero h)
rate_from_first t mode (b ∷ bs) s a (suc k) h =
    let r : Drove = driven t mode b s a in
    let q : ℤ = position_after t mode bs r.state r.actuator k in
    let n : ℕ = steps_among (take k (drives t mode bs r.state r.actuator)) in
    let first : distance a.position r.actuator.position ≤ a.rate = call-short t mode b s a in
    let rest : distance r.actuator.position q ≤ n * r.actuator.rate = rate_from_first t mode bs r.state r.actuator k (le_of_suc-le-suc h) in
    let rest' : distance r.actuator.position q ≤ n * a.rate = rw (rate_stays t mode b s a) at rest in
    either (λ (m : ℕ). distance a.position q ≤ m * a.rate) (eqb r.told.number 0)
    (λ e. omega (arith, distance_by a.position r.actuator.position q, first, rest'))
    (λ e. let z = eqb-false r.told.number 0 e in
    subst (λ (p : ℤ). distance p q ≤ n * a.rate) (refused_stands t mode b s a (omega (arith, z))) rest')

pub rate_kept : RateKept
unfolding actuators drives in_turn
rate_kept t mode bs s a zero k h = rw zero-add (rate_from_first t mode bs s a k (omega arith))
rate_kept t mode [] s a (suc i) k h = let h' : suc i + k ≤ 0 = h in absurd (omega arith)
rate_kept t mode (b ∷ bs) s a (suc i) k h =
    let q : suc i + k ≡ suc (i + k) = omega arith in
    let h' : suc (i + k) ≤ suc (length bs) = rw q at h in
    rw q (rw (rate_stays t mode b s a) at (rate_kept t mode bs (driven t mode b s a).state (driven t mode b s a).actuator i k (le_of_suc-le-suc h')))

-- Of k calls at most k are steps.
few_steps : (rs : List Drove) (k : ℕ) → steps_among (take k rs) ≤ k
unfolding steps_among
few_steps rs zero = omega arith
few_steps [] (suc k) = omega arith
few_steps (r ∷ rs) (suc k) =
    both_ways (λ (m : ℕ). m ≤ suc k) (eqb r.told.number 0) (suc (steps_among (take k rs))) (steps_among (take k rs))
    (omega (arith, few_steps rs k)) (omega (arith, few_steps rs k))

pub distance_falls : DistanceFalls
unfolding actuators drives in_turn steps_among pick
distance_falls t mode bs s a c z zero h = omega arith
distance_falls t mode [] s a c z (suc k) h = absurd (not-suc-le-zero h)
distance_falls t mode (b ∷ bs) s a c (next n e z) (suc k) h =
    let r : Drove = driven t mode b s a in
    let q : ℤ = position_after t mode bs r.state r.actuator k in
    let m : ℕ = steps_among (take k (drives t mode bs r.state r.actuator)) in
    let rest : distance q c ≡ distance r.actuator.position c - m * r.actuator.rate = distance_falls t mode bs r.state r.actuator c z k (le_of_suc-le-suc h) in
    let rest' : distance q c ≡ distance r.actuator.position c - m * a.rate = rw (rate_stays t mode b s a) at rest in
    let first : distance r.actuator.position c ≡ distance a.position c - a.rate = call_nearer t mode b s a c n e in
    rw (eq-eqb r.told.number 0 n) (omega (arith, first, rest'))
distance_falls t mode (b ∷ bs) s a c (passed n z) (suc k) h =
    let r : Drove = driven t mode b s a in
    let q : ℤ = position_after t mode bs r.state r.actuator k in
    let m : ℕ = steps_among (take k (drives t mode bs r.state r.actuator)) in
    let rest : distance q c ≡ distance r.actuator.position c - m * r.actuator.rate = distance_falls t mode bs r.state r.actuator c z k (le_of_suc-le-suc h) in
    rw (ne_eqb r.told.number 0 (λ e. omega (arith, n, e))) (rw (rate_stays t mode b s a, refused_stands t mode b s a n) at rest)

pub never_overshoots : NeverOvershoots
unfolding actuators drives in_turn
never_overshoots t mode bs s a c z zero h = between_self a.position c
never_overshoots t mode [] s a c z (suc k) h = absurd (not-suc-le-zero h)
never_overshoots t mode (b ∷ bs) s a c (next n e z) (suc k) h =
    between_through (subst (λ (x : ℤ). Between a.position x (driven t mode b s a).actuator.position) e (call_between t mode b s a))
    (never_overshoots t mode bs (driven t mode b s a).state (driven t mode b s a).actuator c z k (le_of_suc-le-suc h))
never_overshoots t mode (b ∷ bs) s a c (passed n z) (suc k) h =
    let r : Drove = driven t mode b s a in
    subst (λ (p : ℤ). Between p c (position_after t mode bs r.state r.actuator k)) (refused_stands t mode b s a n)
    (never_overshoots t mode bs r.state r.actuator c z k (le_of_suc-le-suc h))

pub brought_stands : BroughtStands
unfolding drives in_turn
brought_stands t mode [] s a c e z = ended
brought_stands t mode (b ∷ bs) s a c e (again f z) =
    let r : Drove = driven t mode b s a in
    let g : r.actuator.command ≡ c = drawn_to_it t mode b s a c e f in
    let rest : Standing c (drives t mode bs r.state r.actuator) = brought_stands t mode bs r.state r.actuator c g z in
    by_test (eqb r.told.number 0)
    (λ q. next (eqb-true r.told.number 0 q) g rest)
    (λ q. let n = eqb-false r.told.number 0 q in passed (omega (arith, n)) rest)

-- Each promise reaches the last call of a run.
module _ (t : Table) (mode : Mode) (bs : List Brought) (s : State) (a : Actuator) where
  abbrev last : ℤ
  last = position_after t mode bs s a (length bs)

  pub range_to_the_end : InRange a.position → InRange last
  range_to_the_end i = range-kept t mode bs s a i (length bs) (omega arith)

  pub command_to_the_end : InRange a.command → InRange (actuator_after t mode bs s a (length bs)).command
  command_to_the_end i = command-kept t mode bs s a i (length bs) (omega arith)

  pub rate_to_the_end : distance a.position last ≤ length bs * a.rate
  unfolding actuators
  rate_to_the_end =
      let r : distance a.position last ≤ steps_among (take (length bs) (drives t mode bs s a)) * a.rate =
      rw zero-add at (rate_kept t mode bs s a 0 (length bs) (omega arith)) in
      le_trans r (mul-le-mul_right a.rate (few_steps (drives t mode bs s a) (length bs)))

  pub distance_at_the_end : (c : ℤ) → Standing c (drives t mode bs s a)
      → distance last c ≡ distance a.position c - steps_among (take (length bs) (drives t mode bs s a)) * a.rate
  distance_at_the_end c z = distance_falls t mode bs s a c z (length bs) (omega arith)

  pub between_to_the_end : (c : ℤ) → Standing c (drives t mode bs s a) → Between a.position c last
  between_to_the_end c z = never_overshoots t mode bs s a c z (length bs) (omega arith)
