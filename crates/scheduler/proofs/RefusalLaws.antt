-- Each number of a step is given exactly when its row of `Numbered` holds, by asking the tests in turn: 17 is never given,
-- no byte brings a refusal about, and a refused step hands back the very state.
use Prim.Native.Nat.{ℕ, ◌/◌, ◌%◌, ◌^◌, ◌<◌}
use mathlib.Core.Path.{◌≡◌, refl, sym, ◌∙◌, ap}
use mathlib.Core.List.{List}
use mathlib.Core.Bool.{true, not, true≢false}
use mathlib.Core.Logic.{◌≢◌, ◌↔◌}
use native.Mathlib.Nat.{div-eq_of_lt, lt_of_lt_of_le}
use native.Mathlib.Omega.{arith}
use lib.Pow.{pow_mono}
use borrow.Author.Tests.{eqb-true, eqb-false, ltb-true, ltb-false, eq-eqb, ne_eqb, lt-ltb, le-ltb}
use lib.ListN.{length}
use lib.Dec.{eqb, ltb}
use Rattle.basis.specs.Tests.{pick, and, or}
use Rattle.basis.proofs.TestLaws.{by_test, both_ways, and_both, every-at, every-all}
use Rattle.basis.proofs.BackLaws.{exactly_by, row_here}
use Rattle.table.specs.Threads.{thread}
use Rattle.table.specs.Legal.{legal}
use Rattle.table.specs.declared.Table.{Table}
use Rattle.state.specs.declared.State.{State}
use Rattle.state.specs.State.{last_clock, fits}
use Rattle.state.specs.Release.{has_event}
use Rattle.frame.specs.Mode.{Mode, unframed, mode_ok}
use Rattle.walk.specs.Step.{Input, step}
use Rattle.scheduler.specs.Taken.{Taken, took, refused_step, mask_ok, taken_then, taken}
use Rattle.scheduler.specs.Numbered.{OnlyEvents, Numbered, not-legal, bad-frame, not-fitting, not_one_each, no_event, at_last, steps}

-- A mask of 32 bits has no event behind bit 31.
events_low : (mask i : ℕ) → mask < 2 ^ 32 → has_event mask i ≡ true → i < 32
unfolding has_event
events_low mask i m h =
    by_test (ltb i 32) (ltb-true i 32)
    (λ l. let z : mask / 2 ^ i ≡ 0 = div-eq_of_lt (lt_of_lt_of_le m (pow_mono (ltb-false i 32 l))) in
    let one : mask / 2 ^ i % 2 ≡ 1 = eqb-true _ _ h in
    absurd (omega (arith, rw z at one)))

-- A mask passes exactly if it has events of event threads only.
pub mask_exactly : (t : Table) (mask : ℕ) → mask < 2 ^ 32 → (mask_ok t mask ≡ true) ↔ OnlyEvents t mask
unfolding mask_ok
mask_exactly t mask m = (
  λ e i h.
      let q : or (not (has_event mask i)) (and (ltb i t.count) (eqb (thread t i).kind 1)) ≡ true = every-at _ 32 i e (events_low mask i m h) in
      let b = and_both (ltb i t.count) (eqb (thread t i).kind 1) (rw h at q) in
      (ltb-true _ _ b.0, eqb-true _ _ b.1),
  λ o. every-all _ 32 (λ i l. by_test (has_event mask i)
      (λ h. let k = o i h in rw (h, lt-ltb _ _ k.0, eq-eqb _ _ k.1))
      (λ h. rw h)),
)

-- A refused step is its number, with no values, and the state it was given.
pub refused-whole : (t : Table) (mode : Mode) (x : Input) (s : State) → 0 < (taken t mode x s).told.number
    → taken t mode x s ≡ refused_step (taken t mode x s).told.number s
unfolding taken taken_then
refused-whole t mode x s =
    let P : Taken → Type 0 = λ r. 0 < r.told.number → r ≡ refused_step r.told.number s in
    both_ways P _ _ _
    (both_ways P _ _ _
    (both_ways P _ _ _
    (both_ways P _ _ _ (both_ways P _ _ _ (both_ways P _ _ _ (λ h. absurd (omega arith)) (λ h. refl)) (λ h. refl)) (λ h. refl))
    (λ h. refl))
    (λ h. refl))
    (λ h. refl)

pub refused_keeps : (t : Table) (mode : Mode) (x : Input) (s : State) → 0 < (taken t mode x s).told.number → (taken t mode x s).state ≡ s
refused_keeps t mode x s h = ap (λ (r : Taken). r.state) (refused-whole t mode x s h)

module _ (t : Table) (mode : Mode) (x : Input) (s : State) where
  -- where every test passes, a call is the step
  pub taken-steps : legal t ≡ true → mode_ok t mode ≡ true → fits t s ≡ true → length x.bytes ≡ t.count → mask_ok t x.mask ≡ true
      → s.clock < last_clock → taken t mode x s ≡ took (step t mode x s)
  unfolding taken taken_then pick
  taken-steps a o b c m d = rw (a, o, b, eq-eqb _ _ c, m, lt-ltb _ _ d)

  -- a row that holds gives its number, and one of the rows holds
  number_only : {n : ℕ} → Numbered t mode x s n → (taken t mode x s).told.number ≡ n
  unfolding taken taken_then pick
  number_only (not-legal a) = rw a
  number_only (bad-frame a o) = rw (a, o)
  number_only (not-fitting a o b) = rw (a, o, b)
  number_only (not_one_each a o b c) = rw (a, o, b, ne_eqb _ _ c)
  number_only (no_event a o b c m) = rw (a, o, b, eq-eqb _ _ c, m)
  number_only (at_last a o b c m d) = rw (a, o, b, eq-eqb _ _ c, m, le-ltb _ _ d)
  number_only (steps a o b c m d) = ap (λ (r : Taken). r.told.number) (taken-steps a o b c m d)

  here : {n : ℕ} → Numbered t mode x s n → Numbered t mode x s (taken t mode x s).told.number
  here r = row_here (Numbered t mode x s) r (number_only r)

  number-given : Numbered t mode x s (taken t mode x s).told.number
  number-given =
      by_test (legal t)
      (λ a. by_test (mode_ok t mode)
      (λ o. by_test (fits t s)
      (λ b. by_test (eqb (length x.bytes) t.count)
      (λ c. by_test (mask_ok t x.mask)
      (λ m. by_test (ltb s.clock last_clock)
      (λ d. here (steps a o b (eqb-true _ _ c) m (ltb-true _ _ d)))
      (λ d. here (at_last a o b (eqb-true _ _ c) m (ltb-false _ _ d))))
      (λ m. here (no_event a o b (eqb-true _ _ c) m)))
      (λ c. here (not_one_each a o b (eqb-false _ _ c))))
      (λ b. here (not-fitting a o b)))
      (λ o. here (bad-frame a o)))
      (λ a. here (not-legal a))

  -- each number, and 0, exactly when its row holds; a number without a row never
  pub number_exactly : (n : ℕ) → ((taken t mode x s).told.number ≡ n) ↔ Numbered t mode x s n
  number_exactly = exactly_by (Numbered t mode x s) number-given (λ n r. number_only r)

-- No row has 17.
pub never_17 : (t : Table) (mode : Mode) (x : Input) (s : State) → (taken t mode x s).told.number ≢ 17
never_17 t mode x s e = none ((number_exactly t mode x s 17).0 e)
  where
    none : Numbered t mode x s 17 → ⊥
    none r = elim r [ ]

-- The number hangs on the mask and on how many bytes there are, and not on what they are.
pub same-refusal : (t : Table) (mode : Mode) (x y : Input) (s : State) → x.mask ≡ y.mask → length x.bytes ≡ length y.bytes
    → (taken t mode x s).told.number ≡ (taken t mode y s).told.number
same-refusal t mode x y s e l = number_only t mode x s (moved (number-given t mode y s))
  where
    moved : {n : ℕ} → Numbered t mode y s n → Numbered t mode x s n
    moved (not-legal a) = not-legal a
    moved (bad-frame a o) = bad-frame a o
    moved (not-fitting a o b) = not-fitting a o b
    moved (not_one_each a o b c) = not_one_each a o b (λ q. c (sym l ∙ q))
    moved (no_event a o b c m) = no_event a o b (l ∙ c) (ap (mask_ok t) e ∙ m)
    moved (at_last a o b c m d) = at_last a o b (l ∙ c) (ap (mask_ok t) e ∙ m) d
    moved (steps a o b c m d) = steps a o b (l ∙ c) (ap (mask_ok t) e ∙ m) d

-- Without a frame 19 is never given.
pub never_19 : (t : Table) (x : Input) (s : State) → (taken t unframed x s).told.number ≢ 19
unfolding mode_ok
never_19 t x s e = none ((number_exactly t unframed x s 19).0 e)
  where
    none : Numbered t unframed x s 19 → ⊥
    none (bad-frame a o) = true≢false o
