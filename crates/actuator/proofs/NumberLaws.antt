-- Each number of a drive is given exactly when its row of `DriveNumbered` holds, by asking the tests in turn: a refused drive
-- hands back the very state and actuator, and neither a byte nor a command brings a refusal about.
use Prim.Native.Nat.{ℕ, ◌<◌}
use mathlib.Core.Path.{◌≡◌, refl, sym, ◌∙◌, subst}
use mathlib.Core.Bool.{Bool, true, false}
use mathlib.Core.Logic.{◌↔◌}
use native.Mathlib.Omega.{arith}
use borrow.Author.Tests.{eqb-true, eqb-false, ltb-true, ltb-false, ne_eqb, lt-ltb, le-ltb, leb-true, le-leb}
use lib.ListN.{length}
use lib.Dec.{T, eqb, ltb, leb}
use lib.IntN.{ℤ}
use lib.Signed.{le_z, ◌≤ℤ◌, le_z_yes}
use Rattle.basis.specs.Tests.{pick, and}
use Rattle.basis.proofs.TestLaws.{by_test, either, both_ways, refuted, and_both, and-of}
use Rattle.table.specs.declared.Table.{Table}
use Rattle.scheduler.specs.Taken.{taken}
use Rattle.scheduler.specs.Numbered.{Numbered}
use Rattle.state.specs.declared.State.{State}
use Rattle.scheduler.proofs.RefusalLaws.{number_exactly, same-refusal}
use Rattle.frame.specs.Mode.{Mode}
use Rattle.actuator.specs.Motion.{lowest, highest, in_range, ranged}
use Rattle.actuator.specs.Drive.{Brought, Drove, follows, driven}
use Rattle.actuator.specs.Numbered.{InRange, Ranged, DriveNumbered, of_the_step, no_thread, out_of_range, moves}
use Rattle.actuator.specs.declared.Actuator.{Actuator}

-- The order that a test decides.
pub most-of : {a b : ℤ} → le_z a b ≡ true → a ≤ℤ b
most-of e = le_z_yes (subst T (sym e) tt)

pub of-most : {a b : ℤ} → a ≤ℤ b → le_z a b ≡ true
of-most {a} {b} h = holds (le_z a b) h.le
  where
    holds : (t : Bool) → T t → t ≡ true
    holds true k = refl
    holds false k = absurd k

-- The tests of the ranges and their plain reading.
pub in_range_sound : (z : ℤ) → in_range z ≡ true → InRange z
unfolding in_range
in_range_sound z e =
    let b = and_both (le_z lowest z) (le_z z highest) e in
    record { low = most-of b.0; high = most-of b.1 }

pub in_range_complete : (z : ℤ) → InRange z → in_range z ≡ true
unfolding in_range
in_range_complete z h = and-of (of-most h.low) (of-most h.high)

pub ranged_sound : (a : Actuator) → ranged a ≡ true → Ranged a
unfolding ranged
ranged_sound a e =
    let b = and_both (and (leb 1 a.rate) (leb a.rate 1000)) (and (in_range a.position) (in_range a.command)) e in
    let r = and_both (leb 1 a.rate) (leb a.rate 1000) b.0 in
    let z = and_both (in_range a.position) (in_range a.command) b.1 in
    record {
      rate_low = leb-true 1 a.rate r.0;
      rate_high = leb-true a.rate 1000 r.1;
      position = in_range_sound a.position z.0;
      command = in_range_sound a.command z.1;
    }

pub ranged_complete : (a : Actuator) → Ranged a → ranged a ≡ true
unfolding ranged
ranged_complete a h =
    and-of (and-of (le-leb 1 a.rate h.rate_low) (le-leb a.rate 1000 h.rate_high))
    (and-of (in_range_complete a.position h.position) (in_range_complete a.command h.command))

not-ranged : (a : Actuator) → (Ranged a → ⊥) → ranged a ≡ false
not-ranged a h = by_test (ranged a) (λ e. absurd (h (ranged_sound a e))) (λ e. e)

module _ (t : Table) (mode : Mode) (b : Brought) (s : State) (a : Actuator) where
  -- a row that holds gives its number, and one of the rows holds
  only : {n : ℕ} → DriveNumbered t mode b s a n → (driven t mode b s a).told.number ≡ n
  unfolding driven follows pick
  only (of_the_step {n} h z) =
      let e : (taken t mode b.input s).told.number ≡ n = (number_exactly t mode b.input s n).1 h in
      rw (e, ne_eqb n 0 z) e
  only (no_thread h k) =
      let e : (taken t mode b.input s).told.number ≡ 0 = (number_exactly t mode b.input s 0).1 h in
      rw (e, le-ltb a.thread t.count k)
  only (out_of_range h k r) =
      let e : (taken t mode b.input s).told.number ≡ 0 = (number_exactly t mode b.input s 0).1 h in
      rw (e, lt-ltb a.thread t.count k, not-ranged a r)
  only (moves h k r) =
      let e : (taken t mode b.input s).told.number ≡ 0 = (number_exactly t mode b.input s 0).1 h in
      rw (e, lt-ltb a.thread t.count k, ranged_complete a r) e

  here : {n : ℕ} → DriveNumbered t mode b s a n → DriveNumbered t mode b s a (driven t mode b s a).told.number
  here r = subst (λ (n : ℕ). DriveNumbered t mode b s a n) (sym (only r)) r

  given : DriveNumbered t mode b s a (driven t mode b s a).told.number
  given =
      by_test (eqb (taken t mode b.input s).told.number 0)
      (λ e. let h : Numbered t mode b.input s 0 = (number_exactly t mode b.input s 0).0 (eqb-true _ _ e) in
      by_test (ltb a.thread t.count)
      (λ f. by_test (ranged a) (λ r. here (moves h (ltb-true _ _ f) (ranged_sound a r)))
      (λ r. here (out_of_range h (ltb-true _ _ f) (λ k. refuted (ranged_complete a k) r))))
      (λ f. here (no_thread h (ltb-false _ _ f))))
      (λ e. here (of_the_step ((number_exactly t mode b.input s _).0 refl) (eqb-false _ _ e)))

  -- each number, and 0, exactly when its row holds; a number without a row never
  pub drive_number_exactly : (n : ℕ) → ((driven t mode b s a).told.number ≡ n) ↔ DriveNumbered t mode b s a n
  drive_number_exactly n = (λ e. subst (λ (k : ℕ). DriveNumbered t mode b s a k) e given, λ r. only r)

-- A refused drive hands back the state and the actuator that it was given.
pub drive_refused_keeps : (t : Table) (mode : Mode) (b : Brought) (s : State) (a : Actuator) → 0 < (driven t mode b s a).told.number
    → ((driven t mode b s a).state ≡ s) × ((driven t mode b s a).actuator ≡ a)
unfolding driven follows
drive_refused_keeps t mode b s a =
    let P : Drove → Type 0 = λ x. 0 < x.told.number → (x.state ≡ s) × (x.actuator ≡ a) in
    let n : ℕ = (taken t mode b.input s).told.number in
    either P (eqb n 0)
    (λ e. both_ways P _ _ _
    (both_ways P _ _ _ (λ h. absurd (omega (arith, eqb-true (taken t mode b.input s).told.number 0 e))) (λ h. (refl, refl)))
    (λ h. (refl, refl)))
    (λ e h. (refl, refl))

-- The number hangs on the mask and on how many bytes there are, and neither on what they are nor on the command.
pub drive_same_refusal : (t : Table) (mode : Mode) (b c : Brought) (s : State) (a : Actuator) → b.input.mask ≡ c.input.mask
    → length b.input.bytes ≡ length c.input.bytes
    → (driven t mode b s a).told.number ≡ (driven t mode c s a).told.number
drive_same_refusal t mode b c s a e l = only t mode b s a (moved (given t mode c s a))
  where
    numbered : {n : ℕ} → Numbered t mode c.input s n → Numbered t mode b.input s n
    numbered {n} h = (number_exactly t mode b.input s n).0 (same-refusal t mode b.input c.input s e l ∙ (number_exactly t mode c.input s n).1 h)

    moved : {n : ℕ} → DriveNumbered t mode c s a n → DriveNumbered t mode b s a n
    moved (of_the_step h z) = of_the_step (numbered h) z
    moved (no_thread h k) = no_thread (numbered h) k
    moved (out_of_range h k r) = out_of_range (numbered h) k r
    moved (moves h k r) = moves (numbered h) k r
