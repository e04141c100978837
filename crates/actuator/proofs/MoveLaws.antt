-- One move: it is at most the rate long, the distance falls by the rate or to 0, and it does not pass the command. And what a drive
-- does to the actuator: it moves, or it is refused and stays.
use Prim.Native.Nat.{ℕ, ◌+◌, ◌-◌, ◌≤◌}
use mathlib.Core.Path.{◌≡◌, refl}
use mathlib.Core.Bool.{true}
use mathlib.Core.Logic.{◌≢◌}
use native.Mathlib.Omega.{arith}
use borrow.Author.Tests.{eqb-false}
use lib.Dec.{eqb, ltb, leb}
use lib.IntN.{ℤ}
use Rattle.basis.specs.Tests.{pick, and}
use Rattle.basis.proofs.TestLaws.{by_test, either, and_both, and-of}
use Rattle.table.specs.declared.Table.{Table}
use Rattle.scheduler.specs.Taken.{taken}
use Rattle.scheduler.specs.Taken.{answer_of}
use Rattle.state.specs.declared.State.{State}
use Rattle.frame.specs.Mode.{Mode}
use Rattle.actuator.specs.Motion.{in_range, ranged, distance, towards, way, moved}
use Rattle.actuator.specs.Drive.{Brought, Drove, commanded, moved_to, follows, driven}
use Rattle.actuator.specs.Runs.{Between}
use Rattle.actuator.specs.declared.Actuator.{Actuator}
use Rattle.std.proofs.lemmas.Int.{ints}
use Rattle.actuator.proofs.RangeLaws.{moved_in, ranged_position}
use Rattle.actuator.proofs.DriveLaws.{commanded_in}

-- A distance of 0, and the way by a third position.
pub distance_self : (p : ℤ) → distance p p ≡ 0
unfolding distance
distance_self p = omega (arith, ints)

pub distance_by : (p q r : ℤ) → distance p r ≤ distance p q + distance q r
unfolding distance
distance_by p q r = omega (arith, ints)

-- Between is kept along a way, and where nothing moves.
pub between_self : (p c : ℤ) → Between p c p
between_self p c = record { rising = λ h. (omega (arith, ints), h); falling = λ h. (h, omega (arith, ints)) }

pub between_through : {p c q r : ℤ} → Between p c q → Between q c r → Between p c r
between_through f g = record {
  rising = λ h. let x = f.rising h in let y = g.rising x.1 in (omega (arith, ints, x.0, y.0), y.1);
  falling = λ h. let x = f.falling h in let y = g.falling x.0 in (y.0, omega (arith, ints, x.1, y.1));
}

-- One move.
module _ (rate : ℕ) (p c : ℤ) where
  pub move_short : distance p (moved rate p c) ≤ rate
  unfolding distance moved towards way pick
  move_short = grind (arith, ints)

  pub move_nearer : distance (moved rate p c) c ≡ distance p c - rate
  unfolding distance moved towards way pick
  move_nearer = grind (arith, ints)

  pub move_between : Between p c (moved rate p c)
  unfolding distance moved towards way pick
  move_between = record { rising = λ h. (grind (arith, ints), grind (arith, ints)); falling = λ h. (grind (arith, ints), grind (arith, ints)) }

-- A move leaves the actuator in its ranges.
pub moved-ranged : (a : Actuator) (c : ℤ) → ranged a ≡ true → in_range c ≡ true → ranged (moved_to a c) ≡ true
unfolding ranged moved_to
moved-ranged a c r f =
    let q = and_both (and (leb 1 a.rate) (leb a.rate 1000)) (and (in_range a.position) (in_range a.command)) r in
    and-of q.0 (and-of (moved_in a.rate a.position c (ranged_position a r) f) f)

-- What a drive does to the actuator.
pub data Case (t : Table) (mode : Mode) (b : Brought) (s : State) (a : Actuator) : Type 0 where
  stays : (driven t mode b s a).told.number ≢ 0 → (driven t mode b s a).actuator ≡ a → Case t mode b s a
  goes : (c : ℤ) → ranged a ≡ true → in_range c ≡ true → (driven t mode b s a).actuator ≡ moved_to a c → Case t mode b s a

pub case_of : (t : Table) (mode : Mode) (b : Brought) (s : State) (a : Actuator) → Case t mode b s a
unfolding driven follows pick
case_of t mode b s a =
    by_test (eqb (taken t mode b.input s).told.number 0)
    (λ e. by_test (ltb a.thread t.count)
    (λ f. by_test (ranged a)
    (λ r. let n = answer_of (taken t mode b.input s).told.values in
    goes (commanded a n b.command) r (commanded_in a r n b.command) (rw (e, f, r)))
    (λ r. stays (rw (e, f, r) (λ z. omega arith)) (rw (e, f, r))))
    (λ f. stays (rw (e, f) (λ z. omega arith)) (rw (e, f))))
    (λ e. stays (rw e (eqb-false (taken t mode b.input s).told.number 0 e)) (rw e))

-- So no later call of a run is refused with 20 for it.
pub ranged_stays : (t : Table) (mode : Mode) (b : Brought) (s : State) (a : Actuator) → ranged a ≡ true → ranged (driven t mode b s a).actuator ≡ true
ranged_stays t mode b s a h = go (case_of t mode b s a)
  where
    go : Case t mode b s a → ranged (driven t mode b s a).actuator ≡ true
    go (stays z e) = rw e h
    go (goes c r f e) = rw e (moved-ranged a c r f)

-- A drive that is not refused is the scheduler's step and the move to the command that then stands.
pub drive_steps : (t : Table) (mode : Mode) (b : Brought) (s : State) (a : Actuator) → (driven t mode b s a).told.number ≡ 0
    → driven t mode b s a
    ≡ record {
      told = (taken t mode b.input s).told;
      state = (taken t mode b.input s).state;
      actuator = moved_to a (commanded a (answer_of (taken t mode b.input s).told.values) b.command);
    }
unfolding driven follows
drive_steps t mode b s a =
    let x = taken t mode b.input s in
    let w : Drove = record { told = x.told; state = x.state; actuator = moved_to a (commanded a (answer_of x.told.values) b.command) } in
    let P : Drove → Type 0 = λ y. y.told.number ≡ 0 → y ≡ w in
    either P (eqb x.told.number 0)
    (λ e. either P (ltb a.thread t.count) (λ f. either P (ranged a) (λ r n. refl) (λ r n. absurd (omega (arith, n)))) (λ f n. absurd (omega (arith, n))))
    (λ e n. absurd (eqb-false x.told.number 0 e n))
