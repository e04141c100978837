-- What a step does to one thread's progress: it counts the thread that ran, by one, takes one of its execution, and leaves a thread with
-- no rest as the release left it.
use Prim.Native.Nat.{ℕ, ◌+◌, ◌≤◌, ◌<◌}
use mathlib.Core.Path.{◌≡◌, refl, sym, ◌∙◌, ap, subst}
use mathlib.Core.List.{List, [], ◌∷◌}
use mathlib.Core.Bool.{true, false, true≢false}
use mathlib.Core.Logic.{◌≢◌}
use native.Mathlib.Omega.{arith}
use borrow.Author.Tests.{eqb-true, eqb-false, eq-eqb, ne_eqb}
use lib.ListN.{length, get_or, length-set}
use lib.Dec.{eqb}
use Rattle.basis.specs.Tests.{pick}
use Rattle.basis.proofs.TestLaws.{both_ways, either, by_test}
use Rattle.table.specs.Threads.{thread}
use Rattle.table.specs.declared.Table.{Table}
use Rattle.table.specs.declared.Thread.{Thread}
use Rattle.table.specs.Mark.{Mark}
use Rattle.state.specs.State.{progress, put, Fits}
use Rattle.state.specs.Release.{release}
use Rattle.state.specs.Methods.{paid, pay, done, finish, counted, count, aged, tick}
use Rattle.state.specs.declared.Progress.{Progress}
use Rattle.state.specs.declared.State.{State}
use Rattle.state.proofs.ReleaseLaws.{release_length}
use Rattle.state.proofs.TickLaws.{tick-each, tick-same, aged-ran, aged_execution}
use Rattle.frame.specs.Mode.{Mode, threads_at}
use Rattle.walk.specs.Walk.{heard, runs, decided, visit, chosen, walk}
use Rattle.walk.specs.Step.{Input, ticked, advance, marks_at, step, ran_by}
use Rattle.walk.specs.declared.Answer.{Answer}
use Rattle.walk.specs.declared.Answer.TheVariants.{Ran, IdleFor, Idle}
use Rattle.walk.specs.declared.Walked.{Walked}
use Rattle.walk.proofs.WalkLaws.{visit_keeps, walk-length, walk_on, walk-stop}
use Rattle.walk.proofs.HeardLaws.{visit-passes}
use Rattle.walk.proofs.ReachedLaws.{reached_pays, runs_exactly}
use Rattle.walk.proofs.ChoiceLaws.{put_same, visit_others, heard_long}

own-run : (i : ℕ) → ran_by i (Ran i) ≡ 1
unfolding ran_by pick
own-run i = rw (eq-eqb i i refl)

other_run : (i j : ℕ) → i ≢ j → ran_by i (Ran j) ≡ 0
unfolding ran_by pick
other_run i j d = rw (ne_eqb i j d)

visit-none : (m : List Mark) (b i j : ℕ) (s : State) → i ≢ j → ran_by i (visit m b j s).answer ≡ 0
unfolding visit decided ran_by
visit-none m b i j s d =
    let P : Walked → Type 0 = λ w. ran_by i w.answer ≡ 0 in
    both_ways P _ _ _ refl (both_ways P _ _ _ (other_run i j d) (both_ways P _ _ _ refl refl))

-- R after n before: what a step may do to the progress of a thread that runs n times in it, one by one and then together.
pub record Moves (R : Progress → ℕ → Progress → Type 0) : Type 0 where
  pub stays : (p : Progress) → R p 0 p
  pub finishes : (p : Progress) → R (done p) 0 p
  pub pays : (p : Progress) → R (paid p) 0 p
  pub runs-once : (p : Progress) → 0 < p.execution → R (counted p) 1 p
  pub together : (r q p : Progress) (n : ℕ) → R r n q → R q 0 p → R r n p
  pub ages : (th : Thread) (r p : Progress) (n : ℕ) → R r n p → R (aged th r) n p

-- A visit that chooses nobody answers so.
still : (a : Answer) → chosen a ≡ false → a ≡ Idle
still (Ran i) e = absurd (true≢false e)
still (IdleFor i) e = absurd (true≢false e)
still Idle e = refl

module _ (R : Progress → ℕ → Progress → Type 0) (moves : Moves R) where
  module _ (m : List Mark) (b i : ℕ) (s : State) (l : i < length s.threads) where
    heard_moves : R (progress (heard b i s) i) 0 (progress s i)
    unfolding heard finish
    heard_moves =
        both_ways (λ (x : State). R (progress x i) 0 (progress s i)) _ _ _
        (rw (put_same s i (done (progress s i)) l) (moves.finishes (progress s i))) (moves.stays (progress s i))

    after-pay : R (paid (progress (heard b i s) i)) 0 (progress s i)
    after-pay = moves.together _ _ _ 0 (moves.pays (progress (heard b i s) i)) heard_moves

    paid-same : progress (pay (heard b i s) i) i ≡ paid (progress (heard b i s) i)
    unfolding pay
    paid-same = put_same (heard b i s) i _ (rw (heard_long m b i s l) l)

    counted_same : progress (count (pay (heard b i s) i) i) i ≡ counted (paid (progress (heard b i s) i))
    unfolding count pay
    counted_same =
        let p : Progress = paid (progress (heard b i s) i) in
        put_same (put (heard b i s) i p) i _ (rw (length-set (heard b i s).threads i p, heard_long m b i s l) l) ∙ ap counted paid-same

    paid_moves : R (progress (pay (heard b i s) i) i) 0 (progress s i)
    paid_moves = subst (λ (q : Progress). R q 0 (progress s i)) (sym paid-same) after-pay

    run_moves : runs b (progress (heard b i s) i) ≡ true → R (progress (count (pay (heard b i s) i) i) i) (ran_by i (Ran i)) (progress s i)
    run_moves e =
        let w : 0 < (progress (heard b i s) i).execution = ((runs_exactly b (progress (heard b i s) i)).0 e).2 in
        let p : Progress = paid (progress (heard b i s) i) in
        let z : R (counted p) 1 (progress s i) = moves.together _ _ _ 1 (moves.runs-once p w) after-pay in
        subst (λ (n : ℕ). R (progress (count (pay (heard b i s) i) i) i) n (progress s i)) (sym (own-run i))
        (subst (λ (q : Progress). R q 1 (progress s i)) (sym counted_same) z)

    visit-own : R (progress (visit m b i s).state i) (ran_by i (visit m b i s).answer) (progress s i)
    unfolding visit ran_by
    visit-own =
        let P : Walked → Type 0 = λ w. R (progress w.state i) (ran_by i w.answer) (progress s i) in
        either P (eqb (progress s i).rest 0) (λ e. moves.stays _) (λ e. reached_pays m b i (heard b i s) P run_moves paid_moves paid_moves)

  visit_moves : (m : List Mark) (b i j : ℕ) (s : State) → i < length s.threads
      → R (progress (visit m b j s).state i) (ran_by i (visit m b j s).answer) (progress s i)
  visit_moves m b i j s l =
      by_test (eqb i j)
      (λ e. let q : i ≡ j = eqb-true i j e in rw q (visit-own m b j s (rw q at l)))
      (λ e.
      let d : i ≢ j = eqb-false i j e in
      rw (visit_others m b j s i d, visit-none m b i j s d) (moves.stays (progress s i)))

  walk_moves : (m : List Mark) (bs : List ℕ) (i : ℕ) (is : List ℕ) (s : State) → i < length s.threads
      → R (progress (walk m bs is s).state i) (ran_by i (walk m bs is s).answer) (progress s i)
  unfolding walk ran_by
  walk_moves m bs i [] s l = moves.stays _
  walk_moves m bs i (j ∷ js) s l =
      let v = visit_moves m (get_or bs j 0) i j s l in
      let long : length (visit m (get_or bs j 0) j s).state.threads ≡ length s.threads
      = visit_keeps (λ x. length x.threads) (λ x k q. length-set x.threads k q) m (get_or bs j 0) j s in
      by_test (chosen (visit m (get_or bs j 0) j s).answer)
      (λ c. rw (walk-stop m bs j js s c) v)
      (λ c.
      let a : (visit m (get_or bs j 0) j s).answer ≡ Idle = still _ c in
      let z : ran_by i (visit m (get_or bs j 0) j s).answer ≡ 0 = ap (ran_by i) a in
      let u : R (progress (visit m (get_or bs j 0) j s).state i) 0 (progress s i) = rw z at v in
      let w = walk_moves m bs i js (visit m (get_or bs j 0) j s).state (rw long l) in
      rw (walk_on m bs j js s c) (moves.together _ _ _ _ w u))

  -- So a step moves the progress that the release left.
  pub step_moves : (t : Table) (mode : Mode) (x : Input) (s : State) (i : ℕ) → i < length s.threads
      → R (progress (step t mode x s).state i) (ran_by i (step t mode x s).answer) (progress (release t x.mask s) i)
  unfolding step advance ticked
  step_moves t mode x s i l =
      let r : State = release t x.mask s in
      let w : Walked = walk (marks_at t mode s.clock) x.bytes (threads_at t mode s.clock) r in
      let n : ℕ = ran_by i w.answer in
      (tick-each t w.state (λ k p. k ≡ i → R p n (progress r i)) (λ k p u h e. moves.ages (thread t k) p _ n (h e))
      (record { at = λ k e. rw e (walk_moves (marks_at t mode s.clock) x.bytes i (threads_at t mode s.clock) r (rw (release_length t x.mask s) l)) })).at i refl

-- The count of a thread goes up by one in a step exactly if it ran, ..
pub step_counts : (t : Table) (mode : Mode) (x : Input) (s : State) → t.count ≤ 32 → Fits t s → (i : ℕ) → i < t.count
    → (progress (step t mode x s).state i).ran ≡ (progress (release t x.mask s) i).ran + ran_by i (step t mode x s).answer
step_counts t mode x s few f i l = step_moves (λ r n p. r.ran ≡ p.ran + n) counts t mode x s i (rw f.long (omega arith))
  where
    counts : Moves (λ r n p. r.ran ≡ p.ran + n)
    counts = record {
      stays = λ p. omega arith;
      finishes = λ p. omega arith;
      pays = λ p. omega arith;
      runs-once = λ p h. refl;
      together = λ r q p n a b. omega (arith, a, b);
      ages = λ th r p n a. aged-ran th r ∙ a;
    }

-- .. and its rest of execution down by one.
pub step-runs : (t : Table) (mode : Mode) (x : Input) (s : State) (i : ℕ) → i < length s.threads
    → (progress (step t mode x s).state i).execution + ran_by i (step t mode x s).answer ≡ (progress (release t x.mask s) i).execution
step-runs t mode x s i l = step_moves (λ r n p. r.execution + n ≡ p.execution) slows t mode x s i l
  where
    slows : Moves (λ r n p. r.execution + n ≡ p.execution)
    slows = record {
      stays = λ p. omega arith;
      finishes = λ p. omega arith;
      pays = λ p. omega arith;
      runs-once = λ p h. omega arith;
      together = λ r q p n a b. omega (arith, a, b);
      ages = λ th r p n a. omega (arith, a, aged_execution th r);
    }

-- A thread with no rest is passed.
visit_rests : (m : List Mark) (b i j : ℕ) (s : State) → (progress s i).rest ≡ 0 → progress (visit m b j s).state i ≡ progress s i
visit_rests m b i j s z =
    by_test (eqb i j)
    (λ e.
    let q : i ≡ j = eqb-true i j e in
    let n : (progress s j).rest ≡ 0 = rw q at z in
    rw (q, visit-passes m b j s (eq-eqb (progress s j).rest 0 n)))
    (λ e. visit_others m b j s i (eqb-false i j e))

walk_rests : (m : List Mark) (bs : List ℕ) (i : ℕ) (is : List ℕ) (s : State) → (progress s i).rest ≡ 0
    → progress (walk m bs is s).state i ≡ progress s i
unfolding walk
walk_rests m bs i [] s z = refl
walk_rests m bs i (j ∷ js) s z =
    let P : Walked → Type 0 = λ w. progress w.state i ≡ progress s i in
    let v : progress (visit m (get_or bs j 0) j s).state i ≡ progress s i = visit_rests m (get_or bs j 0) i j s z in
    both_ways P _ _ _ v (walk_rests m bs i js _ (ap (λ (q : Progress). q.rest) v ∙ z) ∙ v)

-- A thread that has no rest after the release stays as it is, one tick later.
pub rest_stays : (t : Table) (mode : Mode) (x : Input) (s : State) (i : ℕ) → (progress (release t x.mask s) i).rest ≡ 0
    → progress (step t mode x s).state i ≡ progress (tick t (release t x.mask s)) i
unfolding step advance ticked
rest_stays t mode x s i z =
    let r : State = release t x.mask s in
    tick-same t _ r (walk-length (marks_at t mode s.clock) x.bytes (threads_at t mode s.clock) r) i (walk_rests (marks_at t mode s.clock) x.bytes i (threads_at t mode s.clock) r z)
