-- Demand 3 above the scheduler. Where table and actuator pass 15 and 20 the drives are the scheduler's calls, and what a domain is
-- shown of a call says whether a thread that it may see ran; where they do not pass, nothing moves.
use Prim.Native.Nat.{ℕ, ◌<◌}
use mathlib.Core.Path.{◌≡◌, refl, sym, ◌∙◌, ap, ap₂, subst}
use mathlib.Core.List.{List, [], ◌∷◌, map}
use mathlib.Core.Bool.{Bool, true, false}
use native.Mathlib.Omega.{arith}
use borrow.Author.Tests.{eqb-true, eqb-false, eq-eqb, lt-ltb}
use lib.ListN.{length}
use lib.Dec.{eqb, ltb}
use lib.IntN.{ℤ}
use Rattle.basis.specs.Turns.{in_turn}
use Rattle.basis.specs.Tests.{pick, and}
use Rattle.basis.specs.Told.{Told, refused}
use Rattle.basis.proofs.TurnLaws.{turns_same}
use Rattle.basis.proofs.TestLaws.{by_test, either, both, refuted, fails, and_both, and-of}
use Rattle.table.specs.Legal.{legal, Sized}
use Rattle.table.specs.declared.Table.{Table}
use Rattle.state.specs.State.{fresh}
use Rattle.scheduler.specs.Taken.{Taken, taken}
use Rattle.sight.specs.Shown.{visible, view, showing}
use Rattle.walk.specs.Step.{Input}
use Rattle.scheduler.specs.Calls.{calls}
use Rattle.scheduler.specs.Taken.{answer_of}
use Rattle.isolation.specs.Isolated.{telling, ShownCall, shown_of, SameStep, SameSteps, ended, next}
use Rattle.state.specs.declared.State.{State}
use Rattle.walk.specs.declared.Answer.{Answer}
use Rattle.walk.specs.declared.Answer.TheVariants.{Ran, IdleFor, Idle}
use Rattle.scheduler.proofs.RefusalLaws.{refused_keeps}
use Rattle.isolation.proofs.Isolation.{demand_3}
use Rattle.sight.proofs.NumberLaws.{view-number}
use Rattle.frame.specs.Mode.{Mode}
use Rattle.actuator.specs.Motion.{ranged, drawn}
use Rattle.actuator.specs.Drive.{Brought, Drove, ran, commanded, moved_to, follows, driven}
use Rattle.actuator.specs.Runs.{drives, actuators, positions, SameRuns, step_part, IsolatedDrives, SamePositions}
use Rattle.actuator.specs.declared.Actuator.{Actuator}
use Rattle.actuator.proofs.MoveLaws.{Case, stays, goes, case_of, ranged_stays}

-- What a list of values names: the first of them is i.
names : ℕ → List ℕ → Bool
names i [] = false
names i (j ∷ vs) = eqb i j

module _ (t : Table) (ok : legal t ≡ true) (d : ℕ) (dd : d < t.domains) where
  -- What d is told of a call keeps its number, and names a thread that it may see exactly if that thread ran.
  shows_view : (n : Answer) → showing t d n ≡ view t d n
  unfolding showing pick
  shows_view n = rw (ok, lt-ltb d t.domains dd)

  told_number : (x : Told) → (telling t d x).number ≡ x.number
  unfolding telling
  told_number x =
      either (λ (y : Told). y.number ≡ x.number) (eqb x.number 0)
      (λ e. ap (λ (y : Told). y.number) (shows_view (answer_of x.values)) ∙ view-number t d (answer_of x.values) ∙ sym (eqb-true x.number 0 e))
      (λ e. refl)

  view_names : (i : ℕ) → visible t d i ≡ true → (n : Answer) → names i (view t d n).values ≡ ran i n
  unfolding view names ran
  view_names i v (Ran j) =
      either (λ (x : Told). names i x.values ≡ eqb i j) (visible t d j) (λ e. refl)
      (λ e. sym (fails (eqb i j) (λ q. refuted v (subst (λ k. visible t d k ≡ false) (sym (eqb-true i j q)) e))))
  view_names i v (IdleFor j) = refl
  view_names i v Idle = refl

  told_names : (i : ℕ) → visible t d i ≡ true → (x : Told) → x.number ≡ 0 → names i (telling t d x).values ≡ ran i (answer_of x.values)
  unfolding telling pick
  told_names i v x z = rw (eq-eqb x.number 0 z, shows_view (answer_of x.values)) (view_names i v (answer_of x.values))

  told-refused : (x : Told) → eqb x.number 0 ≡ false → telling t d x ≡ x
  unfolding telling pick
  told-refused x e = rw e

-- The actuator passes 15 and 20.
accepted : Table → Actuator → Bool
accepted t a = and (ltb a.thread t.count) (ranged a)

module _ (t : Table) (mode : Mode) (b : Brought) (s : State) (a : Actuator) where
  -- Where it passes, the scheduler's part of a drive is the scheduler's call, the actuator moves with every step, and it passes again.
  part-taken : accepted t a ≡ true → step_part (driven t mode b s a) ≡ taken t mode b.input s
  unfolding accepted driven follows pick
  part-taken h =
      let p = and_both (ltb a.thread t.count) (ranged a) h in
      let r : Taken = taken t mode b.input s in
      by_test (eqb (taken t mode b.input s).told.number 0) (λ e. rw (e, p.0, p.1))
      (λ e. let k : r.state ≡ s = refused_keeps t mode b.input s (omega (arith, eqb-false (taken t mode b.input s).told.number 0 e)) in
      rw e (λ i. record { told = r.told; state = sym k i }))

  actuator_by : accepted t a ≡ true
      → (driven t mode b s a).actuator
      ≡ pick (eqb (taken t mode b.input s).told.number 0) (moved_to a (commanded a (answer_of (taken t mode b.input s).told.values) b.command)) a
  unfolding accepted driven follows pick
  actuator_by h =
      let p = and_both (ltb a.thread t.count) (ranged a) h in
      by_test (eqb (taken t mode b.input s).told.number 0) (λ e. rw (e, p.0, p.1)) (λ e. rw e)

  thread_stays : (driven t mode b s a).actuator.thread ≡ a.thread
  unfolding moved_to
  thread_stays = go (case_of t mode b s a)
    where
      go : Case t mode b s a → (driven t mode b s a).actuator.thread ≡ a.thread
      go (stays z e) = ap (λ (x : Actuator). x.thread) e
      go (goes c r f e) = ap (λ (x : Actuator). x.thread) e

  accepted_stays : accepted t a ≡ true → accepted t (driven t mode b s a).actuator ≡ true
  unfolding accepted
  accepted_stays h =
      let p = and_both (ltb a.thread t.count) (ranged a) h in
      and-of (ap (λ i. ltb i t.count) thread_stays ∙ p.0) (ranged_stays t mode b s a p.1)

  -- Where it does not pass, every drive is refused and hands back what it was given.
  still : accepted t a ≡ false
      → driven t mode b s a
      ≡ record {
        told = pick (eqb (taken t mode b.input s).told.number 0) (refused (pick (ltb a.thread t.count) 20 15)) (taken t mode b.input s).told;
        state = s;
        actuator = a;
      }
  unfolding accepted driven follows pick
  still h =
      by_test (eqb (taken t mode b.input s).told.number 0)
      (λ e. by_test (ltb a.thread t.count)
      (λ f. let r : ranged a ≡ false = sym (ap (λ x. and x (ranged a)) f) ∙ h in rw (e, f, r))
      (λ f. rw (e, f)))
      (λ e. rw e)

-- Two lists that start alike.
heads : {A : Type 0} {x y : A} {xs ys : List A} → x ∷ xs ≡ y ∷ ys → x ≡ y
heads e = cc

tails : {A : Type 0} {x y : A} {xs ys : List A} → x ∷ xs ≡ y ∷ ys → xs ≡ ys
tails e = cc

-- No empty list is one with a first element.
empty : {A B : Type 0} {x : A} {xs : List A} → [] ≡ x ∷ xs → B
empty e = absurd (omega (arith, ap length e))

abbrev sent : List Brought → List Input
sent bs = map (λ (b : Brought). b.input) bs

abbrev wanted : List Brought → List ℤ
wanted bs = map (λ (b : Brought). b.command) bs

module _ (t : Table) (mode : Mode) (ok : legal t ≡ true) (d : ℕ) (dd : d < t.domains) where
  -- Passed: the drives are shown as the calls are.
  shown-drives : (bs : List Brought) (s : State) (a : Actuator) → accepted t a ≡ true
      → map (λ (r : Drove). shown_of t d (step_part r)) (drives t mode bs s a) ≡ map (shown_of t d) (calls t mode (sent bs) s)
  unfolding drives calls
  shown-drives bs s a h =
      turns_same _ _ _ _ _ _ (λ (x : State × Actuator) (r : State). (x.0 ≡ r) × (accepted t x.1 ≡ true)) (λ (b : Brought). b.input)
      (λ b x r k. let p : step_part (driven t mode b x.0 x.1) ≡ taken t mode b.input r = part-taken t mode b x.0 x.1 k.1 ∙ ap (taken t mode b.input) k.0 in
      (ap (shown_of t d) p, (ap (λ (w : Taken). w.state) p, accepted_stays t mode b x.0 x.1 k.1)))
      bs (s, a) s (refl, h)

  -- Two calls of which d is told the same: both are refused with the same, or in both or neither the thread ran that d may see.
  same-told : (x y : Told) → telling t d x ≡ telling t d y → eqb x.number 0 ≡ eqb y.number 0
  same-told x y e =
      ap (λ n. eqb n 0) (sym (told_number t ok d dd x) ∙ ap (λ (z : Told). z.number) e ∙ told_number t ok d dd y)

  same-refused : (x y : Told) → telling t d x ≡ telling t d y → eqb x.number 0 ≡ false → x ≡ y
  same-refused x y e f = sym (told-refused t ok d dd x f) ∙ e ∙ told-refused t ok d dd y (sym (same-told x y e) ∙ f)

  same-ran : (i : ℕ) → visible t d i ≡ true → (x y : Told) → telling t d x ≡ telling t d y → eqb x.number 0 ≡ true
      → ran i (answer_of x.values) ≡ ran i (answer_of y.values)
  same-ran i v x y e f =
      sym (told_names t ok d dd i v x (eqb-true x.number 0 f))
      ∙ ap (λ (z : Told). names i z.values) e
      ∙ told_names t ok d dd i v y (eqb-true y.number 0 (sym (same-told x y e) ∙ f))

  -- Passed: the actuator goes the same way.
  same_move : (b c : Brought) (s r : State) (a : Actuator) → accepted t a ≡ true → visible t d a.thread ≡ true
      → shown_of t d (taken t mode b.input s) ≡ shown_of t d (taken t mode c.input r) → b.command ≡ c.command
      → (driven t mode b s a).actuator ≡ (driven t mode c r a).actuator
  unfolding shown_of commanded
  same_move b c s r a h v e k =
      let x : Told = (taken t mode b.input s).told in
      let y : Told = (taken t mode c.input r).told in
      let q : telling t d x ≡ telling t d y = ap (λ (z : ShownCall). z.told) e in
      actuator_by t mode b s a h
      ∙ both ◌≡◌ (eqb x.number 0) (eqb y.number 0) (same-told x y q)
      (λ f. ap (moved_to a) (both ◌≡◌ (ran a.thread (answer_of x.values)) (ran a.thread (answer_of y.values)) (same-ran a.thread v x y q f) (λ _. ap drawn k) (λ _. refl)))
      (λ _. refl)
      ∙ sym (actuator_by t mode c r a h)

  same-actuators : (us vs : List Brought) (s r : State) (a : Actuator) → accepted t a ≡ true → visible t d a.thread ≡ true
      → map (shown_of t d) (calls t mode (sent us) s) ≡ map (shown_of t d) (calls t mode (sent vs) r) → wanted us ≡ wanted vs
      → map (λ (x : Drove). x.actuator) (drives t mode us s a) ≡ map (λ (x : Drove). x.actuator) (drives t mode vs r a)
  unfolding drives in_turn calls
  same-actuators [] [] s r a h v e k = refl
  same-actuators [] (c ∷ vs) s r a h v e k = empty k
  same-actuators (b ∷ us) [] s r a h v e k = empty (sym k)
  same-actuators (b ∷ us) (c ∷ vs) s r a h v e k =
      let m : (driven t mode b s a).actuator ≡ (driven t mode c r a).actuator = same_move b c s r a h v (heads e) (heads k) in
      let p : (driven t mode b s a).state ≡ (taken t mode b.input s).state = ap (λ (x : Taken). x.state) (part-taken t mode b s a h) in
      let q : (driven t mode c r a).state ≡ (taken t mode c.input r).state = ap (λ (x : Taken). x.state) (part-taken t mode c r a h) in
      let f = ap (λ x. map (shown_of t d) (calls t mode (sent us) x)) p ∙ tails e ∙ sym (ap (λ x. map (shown_of t d) (calls t mode (sent vs) x)) q) in
      ap₂ ◌∷◌ m
      (same-actuators us vs (driven t mode b s a).state (driven t mode c r a).state (driven t mode b s a).actuator (accepted_stays t mode b s a h) (rw (thread_stays t mode b s a) v) f (tails k)
      ∙ ap (λ y. map (λ (x : Drove). x.actuator) (drives t mode vs (driven t mode c r a).state y)) m)

-- Not passed: the drives are shown the same, since their steps are, and the actuator stays.
module _ (t : Table) (mode : Mode) (ok : legal t ≡ true) (z : Sized t) (d : ℕ) (dd : d < t.domains) where
  still_told : (a : Actuator) → accepted t a ≡ false → (b c : Brought) → SameStep t d b.input c.input
      → (driven t mode b (fresh t) a).told ≡ (driven t mode c (fresh t) a).told
  unfolding shown_of calls in_turn
  still_told a h b c m =
      let x : Told = (taken t mode b.input (fresh t)).told in
      let y : Told = (taken t mode c.input (fresh t)).told in
      let e = demand_3 t mode ok z d dd (b.input ∷ []) (c.input ∷ []) (next m ended) in
      let q : telling t d x ≡ telling t d y = ap (λ (w : ShownCall). w.told) (heads e) in
      ap (λ (w : Drove). w.told) (still t mode b (fresh t) a h)
      ∙ both ◌≡◌ (eqb x.number 0) (eqb y.number 0) (same-told t mode ok d dd x y q) (λ _. refl) (λ f. same-refused t mode ok d dd x y q f)
      ∙ sym (ap (λ (w : Drove). w.told) (still t mode c (fresh t) a h))

  still_drives : (a : Actuator) → accepted t a ≡ false → (b : Brought) (bs : List Brought) (s : State)
      → drives t mode bs (driven t mode b s a).state (driven t mode b s a).actuator ≡ drives t mode bs s a
  still_drives a h b bs s = ap (λ (w : Drove). drives t mode bs w.state w.actuator) (still t mode b s a h)

  still_shown : (a : Actuator) → accepted t a ≡ false → (us vs : List Brought) → SameSteps t d (sent us) (sent vs)
      → map (λ (r : Drove). shown_of t d (step_part r)) (drives t mode us (fresh t) a) ≡ map (λ (r : Drove). shown_of t d (step_part r)) (drives t mode vs (fresh t) a)
  unfolding drives in_turn
  still_shown a h [] [] ended = refl
  still_shown a h [] (c ∷ vs) m = elim m [ ]
  still_shown a h (b ∷ us) [] m = elim m [ ]
  still_shown a h (b ∷ us) (c ∷ vs) (next m more) =
      let n = still_told a h b c m in
      let u : (driven t mode b (fresh t) a).state ≡ (driven t mode c (fresh t) a).state = ap (λ (w : Drove). w.state) (still t mode b (fresh t) a h) ∙ sym (ap (λ (w : Drove). w.state) (still t mode c (fresh t) a h)) in
      let e : step_part (driven t mode b (fresh t) a) ≡ step_part (driven t mode c (fresh t) a) = λ i. record { told = n i; state = u i } in
      let show : List Drove → List ShownCall = map (λ (r : Drove). shown_of t d (step_part r)) in
      ap₂ ◌∷◌ (ap (shown_of t d) e)
      (ap show (still_drives a h b us (fresh t)) ∙ still_shown a h us vs more ∙ sym (ap show (still_drives a h c vs (fresh t))))

  still_actuators : (a : Actuator) → accepted t a ≡ false → (us vs : List Brought) → wanted us ≡ wanted vs
      → map (λ (r : Drove). r.actuator) (drives t mode us (fresh t) a) ≡ map (λ (r : Drove). r.actuator) (drives t mode vs (fresh t) a)
  unfolding drives in_turn
  still_actuators a h [] [] k = refl
  still_actuators a h [] (c ∷ vs) k = empty k
  still_actuators a h (b ∷ us) [] k = empty (sym k)
  still_actuators a h (b ∷ us) (c ∷ vs) k =
      ap₂ ◌∷◌ (ap (λ (w : Drove). w.actuator) (still t mode b (fresh t) a h) ∙ sym (ap (λ (w : Drove). w.actuator) (still t mode c (fresh t) a h)))
      (ap (map (λ (r : Drove). r.actuator)) (still_drives a h b us (fresh t)) ∙ still_actuators a h us vs (tails k) ∙ sym (ap (map (λ (r : Drove). r.actuator)) (still_drives a h c vs (fresh t))))

pub isolated_drives : (t : Table) (mode : Mode) → legal t ≡ true → Sized t → IsolatedDrives t mode
isolated_drives t mode ok z d dd a us vs m =
    by_test (accepted t a)
    (λ h. shown-drives t mode ok d dd us (fresh t) a h ∙ demand_3 t mode ok z d dd (sent us) (sent vs) m ∙ sym (shown-drives t mode ok d dd vs (fresh t) a h))
    (λ h. still_shown t mode ok z d dd a h us vs m)

-- Position and last command alike, at every step.
pub isolated_actuators : (t : Table) (mode : Mode) → legal t ≡ true → Sized t → (d : ℕ) → d < t.domains → (a : Actuator) → visible t d a.thread ≡ true
    → (us vs : List Brought) → SameRuns t d us vs → map (λ (r : Drove). r.actuator) (drives t mode us (fresh t) a) ≡ map (λ (r : Drove). r.actuator) (drives t mode vs (fresh t) a)
isolated_actuators t mode ok z d dd a v us vs m =
    by_test (accepted t a)
    (λ h. same-actuators t mode ok d dd us vs (fresh t) (fresh t) a h v (demand_3 t mode ok z d dd (sent us) (sent vs) m.steps) m.commands)
    (λ h. still_actuators t mode ok z d dd a h us vs m.commands)

pub same-positions : (t : Table) (mode : Mode) → legal t ≡ true → Sized t → SamePositions t mode
unfolding positions actuators
same-positions t mode ok z d dd a v us vs m = ap (λ l. map (λ (x : Actuator). x.position) (a ∷ l)) (isolated_actuators t mode ok z d dd a v us vs m)
