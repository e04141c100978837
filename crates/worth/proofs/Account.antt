-- Q-4: the calls of a part of a run that are given 0 are steps, and in steps the figure holds.
use Prim.Native.Nat.{ℕ, zero, suc, ◌+◌, ◌≤◌, ◌<◌, zero-le}
use mathlib.Core.Path.{◌≡◌, refl, ◌∙◌, ap}
use mathlib.Core.List.{List, [], ◌∷◌}
use mathlib.Core.Bool.{true, false}
use native.Mathlib.Omega.{arith}
use borrow.Author.Tests.{eqb-true, eqb-false, ltb-true}
use lib.ListN.{length, get_or, take, drop}
use lib.Dec.{eqb, ltb}
use Rattle.basis.specs.Tests.{pick}
use Rattle.basis.specs.Told.{Told, answered}
use Rattle.basis.specs.Turns.{in_turn, after}
use Rattle.basis.proofs.TestLaws.{by_test, both_ways}
use Rattle.basis.proofs.TurnLaws.{turns-take, turns-drop, after_keeps}
use Rattle.table.specs.Threads.{thread}
use Rattle.table.specs.Legal.{legal, Legal, Sized}
use Rattle.table.specs.declared.Table.{Table}
use Rattle.table.proofs.LegalLaws.{legal_sound}
use Rattle.state.specs.State.{fresh, Fits}
use Rattle.state.specs.declared.State.{State}
use Rattle.state.proofs.FitLaws.{fresh-fits}
use Rattle.frame.specs.Mode.{Mode, unframed}
use Rattle.walk.specs.Step.{Input, step, idled_by}
use Rattle.walk.specs.Paid.{idles_of}
use Rattle.walk.proofs.StepLaws.{step_clock, step_fits}
use Rattle.walk.proofs.MostLaws.{Room, idles_within}
use Rattle.scheduler.specs.Taken.{Taken, took, answer_of, taken}
use Rattle.scheduler.specs.Calls.{calls}
use Rattle.scheduler.proofs.RefusalLaws.{refused-whole, refused_keeps}
use Rattle.scheduler.proofs.UniqueLaws.{answer_back}
use Rattle.scheduler.proofs.CallLaws.{call_fits}
use Rattle.admission.specs.IdleMost.{idle_most, idling}
use Rattle.worth.specs.Worth.{from}
use Rattle.worth.specs.Account.{idles_told, steps_told, IdleWithin}
use Rattle.worth.specs.Measured.{accounted}
use Rattle.worth.proofs.BoundedLaws.{not-answered}
use Rattle.worth.proofs.CallLaws.{stepped}

module _ (t : Table) (mode : Mode) where
  -- The steps among calls, as inputs in turn.
  record StepsOf (a : List Input) (s : State) : Type 0 where
    inputs : List Input
    many : length inputs ≡ steps_told (calls t mode a s)
    room : Room inputs s
    idled : (h : ℕ) → idles_told h (calls t mode a s) ≡ idles_of t mode h inputs s

  step_more : (y : Input) (a : List Input) (s : State) → taken t mode y s ≡ took (step t mode y s) → StepsOf a (step t mode y s).state → StepsOf (y ∷ a) s
  unfolding calls in_turn steps_told idles_told idles_of pick
  step_more y a s e m = record {
    inputs = y ∷ m.inputs;
    many = rw e (omega (arith, m.many));
    room = omega (arith, m.room, step_clock t mode y s);
    idled = λ h. rw (e, answer_back (step t mode y s).answer, m.idled h);
  }

  refused_more : (y : Input) (a : List Input) (s : State) → eqb (taken t mode y s).told.number 0 ≡ false → (taken t mode y s).state ≡ s
      → (taken t mode y s).told.values ≡ [] → StepsOf a s → StepsOf (y ∷ a) s
  unfolding calls in_turn steps_told idles_told idled_by answer_of pick
  refused_more y a s e k v m = record { inputs = m.inputs; many = rw (e, k) (omega (arith, m.many)); room = m.room; idled = λ h. rw (v, k) (omega (arith, m.idled h)) }

  steps_of : (a : List Input) (s : State) → Fits t s → StepsOf a s
  unfolding calls in_turn steps_told idles_told idles_of
  steps_of [] s f = record { inputs = []; many = refl; room = omega (arith, f.clock_high); idled = λ h. refl }
  steps_of (y ∷ a) s f =
      by_test (eqb (taken t mode y s).told.number 0)
      (λ e. let d = stepped t mode y s (eqb-true _ _ e) in step_more y a s d.step-taken (steps_of a _ (step_fits t mode y s f d.early)))
      (λ e. let d = eqb-false (taken t mode y s).told.number 0 e in
      let n : 0 < (taken t mode y s).told.number = omega (arith, d) in
      refused_more y a s e (refused_keeps t mode y s n) (ap (λ (c : Taken). c.told.values) (refused-whole t mode y s n)) (steps_of a s f))

-- What a figure that is told says.
record Figure (t : Table) (h length most : ℕ) : Type 0 where
  lawful : legal t ≡ true
  in_table : h < t.count
  is : idle_most (thread t h) length ≡ most

figure_by : (t : Table) (h length most : ℕ) → idling t h length ≡ answered (most ∷ []) → Figure t h length most
unfolding idling pick
figure_by t h length most e =
    by_test (legal t)
    (λ a. by_test (ltb h t.count)
    (λ b. let q : answered (idle_most (thread t h) length ∷ []) ≡ answered (most ∷ []) = rw (a, b) at e in
    record { lawful = a; in_table = ltb-true _ _ b; is = ap (λ (w : Told). get_or w.values 0 0) q })
    (λ b. not-answered 15 (answered (most ∷ [])) (rw (a, b) at e) (omega arith) refl))
    (λ a. not-answered 11 (answered (most ∷ [])) (rw a at e) (omega arith) refl)

same-calls : (t : Table) (mode : Mode) (run : List Input) (r n : ℕ)
    → from r n (calls t mode run (fresh t)) ≡ calls t mode (from r n run) (after (taken t mode) (λ (c : Taken). c.state) (take r run) (fresh t))
unfolding calls
same-calls t mode run r n =
    ap (take n) (turns-drop (taken t mode) (λ (c : Taken). c.state) r run (fresh t))
    ∙ turns-take (taken t mode) (λ (c : Taken). c.state) n (drop r run) _

-- The figure holds.
pub idle-within : (t : Table) → Sized t → IdleWithin t
unfolding idle_most
idle-within t z mode h length most e run r n few =
    let q = figure_by t h length most e in
    let g : Legal t = legal_sound t z q.lawful in
    let due : State = after (taken t mode) (λ (c : Taken). c.state) (take r run) (fresh t) in
    let fits : Fits t due = after_keeps (taken t mode) (λ (c : Taken). c.state) (Fits t) (λ y s f. call_fits t mode q.lawful y s f) (take r run) (fresh t)
    (fresh-fits t g.count_high) in
    let part : from r n (calls t mode run (fresh t)) ≡ calls t mode (from r n run) due = same-calls t mode run r n in
    let m = steps_of t mode (from r n run) due fits in
    let short : steps_told (calls t mode (from r n run) due) ≤ length = rw part at few in
    let w = idles_within t mode g h q.in_table m.inputs due fits m.room length (omega (arith, m.many)) in
    rw part (omega (arith, m.idled h, w, q.is))

-- So many calls have at most so many steps: so in any n calls in a row it holds as a class computes it (`accounted`).
steps_few : (n : ℕ) (cs : List Taken) → steps_told (take n cs) ≤ n
unfolding steps_told
steps_few zero cs = zero-le
steps_few (suc n) [] = zero-le
steps_few (suc n) (c ∷ cs) =
    let f = steps_few n cs in
    both_ways (λ (k : ℕ). k + steps_told (take n cs) ≤ suc n) (eqb c.told.number 0) 1 0 (omega (arith, f)) (omega (arith, f))

pub accounted-within : (t : Table) → Sized t → (run : List Input) (h r n most : ℕ) → (accounted t run h r n).most ≡ answered (most ∷ [])
    → (accounted t run h r n).idle ≤ most
unfolding accounted
accounted-within t z run h r n most e = idle-within t z unframed h n most e run r n (steps_few n (drop r (calls t unframed run (fresh t))))
