-- Demand 3: what a domain is shown of a run does not depend on the bytes of threads whose domain may not flow to it. It holds
-- call by call: states that are alike for d and fit stay so (`Lockstep`), and no refusal looks at a byte's value.
use Prim.Native.Nat.{ℕ, ◌<◌}
use native.Mathlib.Omega.{arith}
use mathlib.Core.Logic.{◌≢◌}
use mathlib.Core.Path.{◌≡◌, refl, sym, ap, ap₂, ◌∙◌, subst}
use mathlib.Core.List.{List, [], ◌∷◌, map}
use mathlib.Core.Bool.{true}
use lib.ListN.{length}
use lib.Dec.{eqb, ltb}
use borrow.Author.Tests.{lt-ltb, ne_eqb}
use Rattle.basis.specs.Tests.{pick}
use Rattle.basis.specs.Told.{answered, refused}
use Rattle.basis.specs.Refusals.{number, refused_by}
use Rattle.basis.specs.declared.refusal.Refusal.{Refusal}
use Rattle.basis.proofs.RefusalLaws.{number-positive}
use Rattle.basis.specs.Turns.{in_turn}
use Rattle.basis.proofs.TestLaws.{both}
use Rattle.table.specs.Legal.{legal, Legal, Sized}
use Rattle.table.specs.Mark.{marks_of}
use Rattle.table.specs.declared.Table.{Table}
use Rattle.table.proofs.MarkLaws.{set_exactly}
use Rattle.table.proofs.LegalLaws.{legal_sound, legal_small}
use Rattle.table.specs.Mark.{Mark}
use Rattle.state.specs.State.{fresh, last_clock, Fits}
use Rattle.state.specs.Release.{release}
use Rattle.state.specs.declared.State.{State}
use Rattle.state.proofs.FitLaws.{fresh-fits, fits_complete}
use Rattle.order.specs.Order.{Below, Falling}
use Rattle.frame.specs.Mode.{Mode, mode_ok, threads_at}
use Rattle.frame.proofs.ModeLaws.{at_falls, at_below}
use Rattle.walk.specs.Step.{Input, ticked, advance, step}
use Rattle.walk.specs.declared.Answer.{Answer}
use Rattle.walk.proofs.MarksLaws.{step_by}
use Rattle.scheduler.specs.Taken.{Taken, values, told, mask_ok, taken}
use Rattle.scheduler.specs.Calls.{calls}
use Rattle.std.proofs.Common.{Ok, Err}
use Rattle.scheduler.proofs.UniqueLaws.{answer_back}
use Rattle.scheduler.proofs.CallLaws.{call_by, call_fits}
use Rattle.sight.specs.Shown.{view, showing, showing_state, seen_threads, threads_shown}
use Rattle.sight.proofs.SightLaws.{seen_same}
use Rattle.isolation.specs.Isolated.{telling, shown_of, SameStep, SameSteps, ended, next, Isolated}
use Rattle.isolation.proofs.Alike.{Alike, alike_refl, alike_release, alike_tick}
use Rattle.isolation.proofs.Lockstep.{Agree, Marks, lockstep}

-- `telling` says what the operation `shown` tells of the answer, or the number of the refusal.
pub telling-chosen : (t : Table) (d : ℕ) (a : Answer) → telling t d (told (Ok a)) ≡ showing t d a
unfolding telling pick
telling-chosen t d a = rw (answer_back a)

pub telling-refused : (t : Table) (d why : ℕ) → why ≢ 0 → telling t d (refused why) ≡ refused why
unfolding telling pick
telling-refused t d why h = rw (ne_eqb _ _ h)

pub telling-error : (t : Table) (d : ℕ) (why : Refusal) → telling t d (told (Err why)) ≡ refused_by why
unfolding telling pick
telling-error t d why = rw (ne_eqb (number why) 0 (λ e. omega (arith, number-positive why, e)))

module _ (t : Table) (l : Legal t) (d : ℕ) (dd : d < t.domains) where
  -- A step that walks over any list of threads by falling priority.
  pub advance_alike : (m : List Mark) → Marks t m → (is : List ℕ) → Falling t is → Below t.count is
      → (x y : Input) → SameStep t d x y → (s r : State) → Alike t d s r → Agree t d (advance t m is x s) (advance t m is y r)
  unfolding advance ticked
  advance_alike m marks is f c x y h s r a =
      let e : Alike t d (release t x.mask s) (release t y.mask r)
      = subst (λ (k : ℕ). Alike t d (release t x.mask s) (release t k r)) h.masks (alike_release t d x.mask s r a) in
      let w = lockstep t d l dd m marks x.bytes y.bytes h.same is f c _ _ e in
      record { same = w.same; alike = alike_tick t d _ _ w.alike }

  -- The step of either mode: both runs are at the same clock, so the walks go over the same threads.
  pub step_alike : (mode : Mode) (x y : Input) → SameStep t d x y → (s r : State) → Alike t d s r → Agree t d (step t mode x s) (step t mode y r)
  step_alike mode x y h s r a =
      let is : List ℕ = threads_at t mode s.clock in
      rw (step_by t mode x s, step_by t mode y r)
      (subst (λ (c : ℕ). Agree t d (advance t (marks_of t) is x s) (advance t (marks_of t) (threads_at t mode c) y r)) a.clocks
      (advance_alike (marks_of t) (set_exactly t) is (at_falls t mode s.clock) (at_below t mode s.clock) x y h s r a))

module _ (t : Table) (mode : Mode) (ok : legal t ≡ true) where
  module _ (d : ℕ) (dd : d < t.domains) where
    -- What d is shown of a fitting state is no refusal.
    pub state-shown : (s : State) → Fits t s → (showing_state t s d ≡ answered []) × (threads_shown t s d ≡ seen_threads t d s)
    unfolding showing_state threads_shown pick
    state-shown s f = (rw (ok, fits_complete t s f, lt-ltb _ _ dd), rw (ok, fits_complete t s f, lt-ltb _ _ dd))

    always-shown : (a : List Input) (s : State) → Fits t s
        → map (λ (r : Taken). showing_state t r.state d) (calls t mode a s) ≡ map (λ (x : Input). answered []) a
    unfolding calls in_turn
    always-shown [] s f = refl
    always-shown (x ∷ a) s f = ap₂ ◌∷◌ (state-shown _ (call_fits t mode ok x s f)).0 (always-shown a _ (call_fits t mode ok x s f))

  module _ (l : Legal t) (d : ℕ) (dd : d < t.domains) where
    -- Two calls tell d the same and give states that are alike for d.
    record SameCalls (v w : Taken) : Type 0 where
      told : telling t d v.told ≡ telling t d w.told
      alike : Alike t d v.state w.state

    telling-same : (a b : Answer) → view t d a ≡ view t d b → telling t d (answered (values a)) ≡ telling t d (answered (values b))
    unfolding showing
    telling-same a b e = telling-chosen t d a ∙ rw e (sym (telling-chosen t d b))

    same-call : (x y : Input) → SameStep t d x y → (s r : State) → Fits t s → Fits t r → Alike t d s r
        → SameCalls (taken t mode x s) (taken t mode y r)
    same-call x y h s r f g a =
        rw (call_by t mode ok x s f, call_by t mode ok y r g)
        (both SameCalls (mode_ok t mode) _ refl
        (λ _. both SameCalls (eqb (length x.bytes) t.count) _ (ap (λ n. eqb n t.count) h.long)
        (λ _. both SameCalls (mask_ok t x.mask) _ (ap (mask_ok t) h.masks)
        (λ _. both SameCalls (ltb s.clock last_clock) _ (ap (λ c. ltb c last_clock) a.clocks)
        (λ _. let o = step_alike t l d dd mode x y h s r a in record { told = telling-same _ _ o.same; alike = o.alike })
        (λ _. record { told = refl; alike = a }))
        (λ _. record { told = refl; alike = a }))
        (λ _. record { told = refl; alike = a }))
        (λ _. record { told = refl; alike = a }))

    same-shown : (v w : Taken) → Fits t v.state → Fits t w.state → SameCalls v w → shown_of t d v ≡ shown_of t d w
    unfolding shown_of
    same-shown v w f g c =
        let p = state-shown d dd v.state f in
        let q = state-shown d dd w.state g in
        rw (c.told, p.0, p.1, q.0, q.1, seen_same t d v.state w.state (λ i e. (c.alike.common i).seen e))

    same-run : (us vs : List Input) → SameSteps t d us vs → (s r : State) → Fits t s → Fits t r → Alike t d s r
        → map (shown_of t d) (calls t mode us s) ≡ map (shown_of t d) (calls t mode vs r)
    unfolding calls in_turn
    same-run us vs ended s r f g a = refl
    same-run us vs (next {x} {y} {us = xs} {vs = ys} h more) s r f g a =
        let c = same-call x y h s r f g a in
        let f' = call_fits t mode ok x s f in
        let g' = call_fits t mode ok y r g in
        ap₂ ◌∷◌ (same-shown _ _ f' g' c) (same-run xs ys more _ _ f' g' c.alike)

pub demand_3 : (t : Table) (mode : Mode) → legal t ≡ true → Sized t → Isolated t mode
demand_3 t mode ok z d dd a b e =
    let l : Legal t = legal_sound t z ok in
    let f : Fits t (fresh t) = fresh-fits t l.count_high in
    same-run t mode ok l d dd a b e (fresh t) (fresh t) f f (alike_refl t d (fresh t))

-- At no step of a run is d refused what it is shown of the state: the threads that demand 3 speaks of are never blank for that.
pub state_always_shown : (t : Table) (mode : Mode) → legal t ≡ true → (d : ℕ) → d < t.domains → (a : List Input)
    → map (λ (r : Taken). showing_state t r.state d) (calls t mode a (fresh t)) ≡ map (λ (x : Input). answered []) a
state_always_shown t mode ok d dd a = always-shown t mode ok d dd a (fresh t) (fresh-fits t (legal_small t ok).1)
