-- Who is chosen, and who is left alone: a visit touches its own thread only, and a list that falls has each thread once.
use Prim.Native.Nat.{ℕ, ◌+◌, ◌-◌, ◌≤◌, ◌<◌}
use mathlib.Core.Path.{◌≡◌, refl, sym, ◌∙◌, ap}
use mathlib.Core.List.{List, [], ◌∷◌}
use mathlib.Core.Bool.{true, false, true≢false}
use mathlib.Core.Logic.{◌≢◌, ⊎_elim}
use native.Mathlib.Omega.{arith}
use native.Mathlib.Nat.{lt_trans}
use borrow.Author.Tests.{ne_eqb, eqb-true, lt-ltb}
use lib.ListN.{length, get_or, length-set}
use lib.Seq.{get_or-set_same, get_or-set_other}
use lib.Dec.{eqb}
use Rattle.basis.specs.Tests.{pick, or}
use Rattle.basis.proofs.TestLaws.{both_ways, either, by_test, refuted, fails, or-true, or-false}
use Rattle.table.specs.Threads.{thread}
use Rattle.table.specs.Legal.{Legal}
use Rattle.table.specs.Mark.{marked, marks_of, is_set}
use Rattle.table.specs.declared.Table.{Table}
use Rattle.table.specs.Mark.{Mark}
use Rattle.state.specs.State.{no_progress, progress, put, Fits}
use Rattle.state.specs.Release.{release}
use Rattle.state.specs.Methods.{paid, pay, done, finish, count, tick}
use Rattle.state.specs.declared.Progress.{Progress}
use Rattle.state.specs.declared.State.{State}
use Rattle.state.proofs.ReleaseLaws.{release_length}
use Rattle.state.proofs.TickLaws.{tick_keeps, tick-same, aged_rest, aged-finished}
use Rattle.order.specs.Order.{Stands}
use Rattle.order.proofs.OrderLaws.{FallingFrom}
use Rattle.frame.specs.Mode.{Mode, threads_at, walks}
use Rattle.frame.proofs.ModeLaws.{at_falls_from, at-whole}
use Rattle.walk.specs.Walk.{heard, runs, walked, decided, visit, chosen, walk}
use Rattle.walk.specs.Step.{Input, ticked, advance, marks_at, step, Names, ran, idles, Says}
use Rattle.walk.specs.declared.Answer.{Answer}
use Rattle.walk.specs.declared.Answer.TheVariants.{Ran, IdleFor, Idle}
use Rattle.walk.specs.declared.Walked.{Walked}
use Rattle.walk.specs.Paid.{pays}
use Rattle.walk.proofs.WalkLaws.{visit_keeps, walk-length, walk_on, walk-stop}
use Rattle.walk.proofs.MarksLaws.{at_marks, step_by}
use Rattle.walk.proofs.ReachedLaws.{reached_pays, marked_ends, runs_exactly}

put_other : (s : State) (i k : ℕ) (p : Progress) → k ≢ i → progress (put s i p) k ≡ progress s k
put_other s i k p d = get_or-set_other s.threads i k p no_progress d

pub put_same : (s : State) (i : ℕ) (p : Progress) → i < length s.threads → progress (put s i p) i ≡ p
put_same s i p l = get_or-set_same s.threads i p no_progress l

-- Threads of different priority are two.
apart : (t : Table) (k j : ℕ) → (thread t k).priority < (thread t j).priority → k ≢ j
apart t k j l e = let q : (thread t j).priority < (thread t j).priority = rw e at l in omega arith

own-run : (k i : ℕ) → Names k (Ran i) → k ≡ i
own-run k i ran = refl

own-idle : (k i : ℕ) → Names k (IdleFor i) → k ≡ i
own-idle k i idles = refl

pub nobody : {A : Type 0} (k : ℕ) → Names k Idle → A
nobody k n = elim n [ ]

module _ (m : List Mark) (b i : ℕ) (s : State) where
  -- A visit touches its own thread only.
  pub visit_others : (k : ℕ) → k ≢ i → progress (visit m b i s).state k ≡ progress s k
  unfolding visit decided heard finish pay count
  visit_others k d =
      let Q : State → Type 0 = λ x. progress x k ≡ progress s k in
      let P : Walked → Type 0 = λ w. progress w.state k ≡ progress s k in
      let h : progress (heard b i s) k ≡ progress s k = both_ways Q _ _ _ (put_other s i k _ d) refl in
      let q : progress (pay (heard b i s) i) k ≡ progress s k = put_other (heard b i s) i k _ d ∙ h in
      both_ways P _ _ _ refl (both_ways P _ _ _ (put_other (pay (heard b i s) i) i k _ d ∙ q) (both_ways P _ _ _ (search) (search)))

  -- It names its own thread, or nobody.
  pub visit_names : (k : ℕ) → Names k (visit m b i s).answer → k ≡ i
  unfolding visit decided
  visit_names k =
      let P : Walked → Type 0 = λ w. Names k w.answer → k ≡ i in
      both_ways P _ _ _ (nobody k) (both_ways P _ _ _ (own-run k i) (both_ways P _ _ _ (own-idle k i) (nobody k)))

-- A reached thread that runs is chosen, and its count goes up by one.
pub runs-chosen : (m : List Mark) (i : ℕ) (s : State) → 0 < (progress s i).rest → (progress s i).finished ≡ false → 0 < (progress s i).execution
    → visit m 1 i s ≡ walked (Ran i) (count (pay s i) i)
unfolding visit decided heard runs pick
runs-chosen m i s h f x = rw (ne_eqb (progress s i).rest 0 (λ e. omega arith), f, lt-ltb 0 (progress s i).execution x)

pub runs-counted : (i : ℕ) (s : State) → i < length s.threads → (progress (count (pay s i) i) i).ran ≡ (progress s i).ran + 1
unfolding count pay
runs-counted i s l =
    let p : Progress = paid (progress s i) in
    let e : progress (put s i p) i ≡ p = put_same s i p l in
    ap (λ (q : Progress). q.ran) (put_same (put s i p) i _ (rw (length-set s.threads i p) l)) ∙ ap (λ (q : Progress). q.ran + 1) e

module _ (t : Table) (m : List Mark) (bs : List ℕ) where
  -- The thread that a walk down a falling list names has a priority below p, ..
  walk_named : (i p : ℕ) (is : List ℕ) (s : State) → FallingFrom t p is → Names i (walk m bs is s).answer → (thread t i).priority < p
  unfolding walk
  walk_named i p [] s f n = nobody i n
  walk_named i p (j ∷ js) s f n =
      let P : Walked → Type 0 = λ w. Names i w.answer → (thread t i).priority < p in
      both_ways P _ _ _ (λ v. let e : i ≡ j = visit_names m _ j s i v in rw e f.0)
      (λ w. omega (arith, walk_named i (thread t j).priority js _ f.1 w, f.0))
      n

  -- .. and threads below it are left as they were.
  walk_below : (i k p : ℕ) (is : List ℕ) (s : State) → FallingFrom t p is → Names i (walk m bs is s).answer
      → (thread t k).priority < (thread t i).priority → progress (walk m bs is s).state k ≡ progress s k
  unfolding walk
  walk_below i k p [] s f n l = nobody i n
  walk_below i k p (j ∷ js) s f n l =
      let P : Walked → Type 0 = λ w. Names i w.answer → progress w.state k ≡ progress s k in
      both_ways P _ _ _
      (λ v. let e : i ≡ j = visit_names m _ j s i v in visit_others m _ j s k (apart t k j (rw e at l)))
      (λ w. walk_below i k (thread t j).priority js _ f.1 w l ∙ visit_others m _ j s k (apart t k j (lt_trans l (walk_named i (thread t j).priority js _ f.1 w))))
      n

-- Threads below the chosen one pay nothing, and their bytes are not heard: they are as the release left them, one tick later.
pub below_chosen : (t : Table) (mode : Mode) (x : Input) (s : State) (i k : ℕ) → Names i (step t mode x s).answer → (thread t k).priority < (thread t i).priority
    → progress (step t mode x s).state k ≡ progress (tick t (release t x.mask s)) k
unfolding step advance ticked
below_chosen t mode x s i k n l =
    let r : State = release t x.mask s in
    tick-same t _ r (walk-length (marks_at t mode s.clock) x.bytes (threads_at t mode s.clock) r) k (walk_below t (marks_at t mode s.clock) x.bytes i k 256 (threads_at t mode s.clock) r (at_falls_from t mode s.clock) n l)

-- A thread with a rest is reached.
reached : (m : List Mark) (b i : ℕ) (s : State) → 0 < (progress s i).rest → visit m b i s ≡ decided m b i (heard b i s)
unfolding visit pick
reached m b i s h = rw (ne_eqb (progress s i).rest 0 (λ e. omega arith))

-- One that runs is chosen: its byte is 1, and hearing that changes nothing.
running : (m : List Mark) (b i : ℕ) (s : State) → 0 < (progress s i).rest → runs b (progress s i) ≡ true → chosen (visit m b i s).answer ≡ true
unfolding decided heard runs pick
running m b i s h r =
    let q = (runs_exactly b (progress s i)).0 r in
    rw (reached m b i s h, q.0, q.1, lt-ltb 0 (progress s i).execution q.2)

-- A visit that chooses nobody found no rest, or a thread that neither runs nor is marked.
passed_over : (m : List Mark) (b i : ℕ) (s : State) → chosen (visit m b i s).answer ≡ false → 0 < (progress s i).rest
    → (is_set m i ≡ false) × (runs b (progress s i) ≡ false)
passed_over m b i s e h = (
  fails _ (λ k. refuted (rw (reached m b i s h) (marked_ends m b i (heard b i s) k)) e),
  fails _ (λ k. refuted (running m b i s h k) e),
)

module _ (t : Table) (m : List Mark) (bs : List ℕ) where
  -- A thread that stands in a falling list has a priority below p.
  stands_lower : (i p : ℕ) (is : List ℕ) → FallingFrom t p is → Stands i is → (thread t i).priority < p
  stands_lower i p [] f h = absurd h
  stands_lower i p (j ∷ js) f h =
      ⊎_elim (λ (e : i ≡ j). rw e f.0) (λ (q : Stands i js). omega (arith, stands_lower i (thread t j).priority js f.1 q, f.0)) h

  walk-idle : (i p : ℕ) (is : List ℕ) (s : State) → FallingFrom t p is → (walk m bs is s).answer ≡ Idle → Stands i is → 0 < (progress s i).rest
      → (is_set m i ≡ false) × (runs (get_or bs i 0) (progress s i) ≡ false)
  walk-idle i p [] s f e h r = absurd h
  walk-idle i p (j ∷ js) s f e h r =
      by_test (chosen (visit m (get_or bs j 0) j s).answer)
      (λ c.
      let q : (visit m (get_or bs j 0) j s).answer ≡ Idle = ap (λ (w : Walked). w.answer) (sym (walk-stop m bs j js s c)) ∙ e in
      absurd (true≢false (sym c ∙ ap chosen q)))
      (λ c. ⊎_elim
      (λ (q : i ≡ j). rw q (passed_over m _ j s c (rw q at r)))
      (λ (q : Stands i js).
      let k : progress (visit m (get_or bs j 0) j s).state i ≡ progress s i = visit_others m _ j s i (apart t i j (stands_lower i (thread t j).priority js f.1 q)) in
      let w = walk-idle i (thread t j).priority js _ f.1 (ap (λ (w : Walked). w.answer) (sym (walk_on m bs j js s c)) ∙ e) q (rw k r) in
      rw k at w)
      h)

-- If nobody is chosen, no thread with a rest runs or is marked: the processor idles for want of work only.
pub idle_only : (t : Table) (mode : Mode) → Legal t → (x : Input) (s : State) → (step t mode x s).answer ≡ Idle → (i : ℕ) → i < t.count → walks t mode s.clock i ≡ true
    → 0 < (progress (release t x.mask s) i).rest → (marked t i ≡ false) × (runs (get_or x.bytes i 0) (progress (release t x.mask s) i) ≡ false)
unfolding step advance ticked
idle_only t mode g x s e i l v h =
    let w = walk-idle t (marks_at t mode s.clock) x.bytes i 256 (threads_at t mode s.clock) _ (at_falls_from t mode s.clock) e (at-whole t mode g s.clock i l v) h in
    (sym (at_marks t mode s.clock i l) ∙ w.0, w.1)

-- What a reached thread has left once it has paid.
module _ (m : List Mark) (b i : ℕ) (s : State) (l : i < length s.threads) where
  heard_rest : (progress (heard b i s) i).rest ≡ (progress s i).rest
  unfolding heard finish
  heard_rest = both_ways (λ (x : State). (progress x i).rest ≡ (progress s i).rest) _ _ _ (ap (λ (q : Progress). q.rest) (put_same s i _ l)) refl

  pub heard_long : length (heard b i s).threads ≡ length s.threads
  unfolding heard finish
  heard_long = both_ways (λ (x : State). length x.threads ≡ length s.threads) _ _ _ (length-set s.threads i _) refl

  paid_rest : (progress (pay (heard b i s) i) i).rest ≡ (progress s i).rest - 1
  unfolding pay
  paid_rest = ap (λ (q : Progress). q.rest) (put_same (heard b i s) i _ (rw heard_long l)) ∙ ap (λ n. n - 1) heard_rest

  counted_rest : (progress (count (pay (heard b i s) i) i) i).rest ≡ (progress s i).rest - 1
  unfolding count pay
  counted_rest =
      let q : State = put (heard b i s) i (paid (progress (heard b i s) i)) in
      ap (λ (x : Progress). x.rest) (put_same q i _ (rw (length-set (heard b i s).threads i (paid (progress (heard b i s) i)), heard_long) l)) ∙ paid_rest

  -- Its finish mark, heard, paid and counted.
  heard-mark : (progress (heard b i s) i).finished ≡ or (progress s i).finished (eqb b 2)
  unfolding heard finish
  heard-mark =
      either (λ (x : State). (progress x i).finished ≡ or (progress s i).finished (eqb b 2)) (eqb b 2)
      (λ e. ap (λ (q : Progress). q.finished) (put_same s i (done (progress s i)) l) ∙ sym (rw e (or-true (progress s i).finished)))
      (λ e. sym (rw e (or-false (progress s i).finished)))

  paid-mark : (progress (pay (heard b i s) i) i).finished ≡ (progress (heard b i s) i).finished
  unfolding pay
  paid-mark = ap (λ (q : Progress). q.finished) (put_same (heard b i s) i _ (rw heard_long l))

  counted-mark : (progress (count (pay (heard b i s) i) i) i).finished ≡ (progress (heard b i s) i).finished
  unfolding count pay
  counted-mark =
      let q : State = put (heard b i s) i (paid (progress (heard b i s) i)) in
      ap (λ (x : Progress). x.finished) (put_same q i _ (rw (length-set (heard b i s).threads i (paid (progress (heard b i s) i)), heard_long) l)) ∙ paid-mark

module _ (t : Table) (m : List Mark) (bs : List ℕ) where
  -- Above the thread that a walk names, nobody with a rest runs or is marked.
  walk_first : (i k p : ℕ) (is : List ℕ) (s : State) → FallingFrom t p is → Names k (walk m bs is s).answer
      → (thread t k).priority < (thread t i).priority → Stands i is → 0 < (progress s i).rest
      → (is_set m i ≡ false) × (runs (get_or bs i 0) (progress s i) ≡ false)
  walk_first i k p [] s f n l h r = absurd h
  walk_first i k p (j ∷ js) s f n l h r =
      by_test (chosen (visit m (get_or bs j 0) j s).answer)
      (λ c.
      let v : Names k (visit m (get_or bs j 0) j s).answer = rw (walk-stop m bs j js s c) at n in
      let e : k ≡ j = visit_names m _ j s k v in
      let u : (thread t j).priority < (thread t i).priority = rw e at l in
      ⊎_elim (λ (q : i ≡ j). let z : (thread t j).priority < (thread t j).priority = rw q at u in absurd (omega arith))
      (λ (q : Stands i js). absurd (omega (arith, stands_lower t m bs i _ js f.1 q, u)))
      h)
      (λ c. ⊎_elim
      (λ (q : i ≡ j). rw q (passed_over m _ j s c (rw q at r)))
      (λ (q : Stands i js).
      let o : progress (visit m (get_or bs j 0) j s).state i ≡ progress s i = visit_others m _ j s i (apart t i j (stands_lower t m bs i _ js f.1 q)) in
      let w = walk_first i k (thread t j).priority js _ f.1 (rw (walk_on m bs j js s c) at n) l q (rw o r) in
      rw o at w)
      h)

-- The chosen thread is the first: above it no thread with a rest runs or is marked.
pub chosen-first : (t : Table) (mode : Mode) → Legal t → (x : Input) (s : State) (k i : ℕ) → Names k (step t mode x s).answer
    → (thread t k).priority < (thread t i).priority → i < t.count → walks t mode s.clock i ≡ true → 0 < (progress (release t x.mask s) i).rest
    → (marked t i ≡ false) × (runs (get_or x.bytes i 0) (progress (release t x.mask s) i) ≡ false)
unfolding step advance ticked
chosen-first t mode g x s k i n l c v h =
    let w = walk_first t (marks_at t mode s.clock) x.bytes i k 256 (threads_at t mode s.clock) _ (at_falls_from t mode s.clock) n l (at-whole t mode g s.clock i c v) h in
    (sym (at_marks t mode s.clock i c) ∙ w.0, w.1)

-- Hearing does not change whether a thread runs: its byte is 1 or it does not run before and after.
heard-runs : (b i : ℕ) (s : State) → runs b (progress (heard b i s) i) ≡ runs b (progress s i)
unfolding runs heard pick
heard-runs b i s =
    by_test (eqb b 1)
    (λ e. let one : b ≡ 1 = eqb-true b 1 e in rw one)
    (λ e. rw e)

module _ (m : List Mark) (bs : List ℕ) where
  visit_says : (i : ℕ) (s : State) → Says m bs s (visit m (get_or bs i 0) i s).answer
  unfolding visit decided
  visit_says i s =
      let P : Walked → Type 0 = λ w. Says m bs s w.answer in
      let b : ℕ = get_or bs i 0 in
      either P (eqb (progress s i).rest 0) (λ e. tt)
      (λ e. either P (runs (get_or bs i 0) (progress (heard (get_or bs i 0) i s) i)) (λ r. sym (heard-runs b i s) ∙ r)
      (λ r. either P (is_set m i) (λ k. (k, sym (heard-runs b i s) ∙ r)) (λ k. tt)))

module _ (t : Table) (m : List Mark) (bs : List ℕ) where
  -- What is said of a thread is said where its progress is the same.
  says_back : (s z : State) (a : Answer) → ((k : ℕ) → Names k a → progress z k ≡ progress s k) → Says m bs z a → Says m bs s a
  says_back s z (Ran k) o h = let e : progress z k ≡ progress s k = o k ran in rw e at h
  says_back s z (IdleFor k) o h = let e : progress z k ≡ progress s k = o k idles in (h.0, rw e at h.1)
  says_back s z Idle o h = tt

  walk_says : (p : ℕ) (is : List ℕ) (s : State) → FallingFrom t p is → Says m bs s (walk m bs is s).answer
  unfolding walk
  walk_says p [] s f = tt
  walk_says p (j ∷ js) s f =
      let P : Walked → Type 0 = λ w. Says m bs s w.answer in
      let z : State = (visit m (get_or bs j 0) j s).state in
      both_ways P (chosen (visit m (get_or bs j 0) j s).answer) (visit m (get_or bs j 0) j s) (walk m bs js z) (visit_says m bs j s)
      (says_back s z (walk m bs js z).answer (λ k n. visit_others m _ j s k (apart t k j (walk_named t m bs k _ js z f.1 n)))
      (walk_says (thread t j).priority js z f.1))

  -- A walk leaves alone a thread whose priority is at least p.
  walk-apart : (i p : ℕ) (is : List ℕ) (s : State) → FallingFrom t p is → p ≤ (thread t i).priority → progress (walk m bs is s).state i ≡ progress s i
  unfolding walk
  walk-apart i p [] s f h = refl
  walk-apart i p (j ∷ js) s f h =
      let Q : Walked → Type 0 = λ w. progress w.state i ≡ progress s i in
      let d : i ≢ j = λ e. apart t j i (omega (arith, f.0, h)) (sym e) in
      let o : progress (visit m (get_or bs j 0) j s).state i ≡ progress s i = visit_others m _ j s i d in
      both_ways Q _ _ _ o (walk-apart i (thread t j).priority js _ f.1 (omega (arith, f.0, h)) ∙ o)

  -- A visit that chooses names its thread.
  chosen_named : (b i : ℕ) (s : State) → chosen (visit m b i s).answer ≡ true → Names i (visit m b i s).answer
  unfolding visit decided
  chosen_named b i s =
      let P : Walked → Type 0 = λ w. chosen w.answer ≡ true → Names i w.answer in
      both_ways P _ _ _ (λ c. absurd (true≢false (sym c))) (both_ways P _ _ _ (λ c. ran) (both_ways P _ _ _ (λ c. idles) (λ c. absurd (true≢false (sym c)))))

  -- A visit to a thread with a rest takes one of it.
  visit_takes : (b i : ℕ) (s : State) → i < length s.threads → 0 < (progress s i).rest → (progress (visit m b i s).state i).rest + 1 ≡ (progress s i).rest
  visit_takes b i s l h =
      let P : Walked → Type 0 = λ w. (progress w.state i).rest + 1 ≡ (progress s i).rest in
      rw (reached m b i s h)
      (reached_pays m b i (heard b i s) P (λ _. omega (arith, counted_rest m b i s l)) (omega (arith, paid_rest m b i s l)) (omega (arith, paid_rest m b i s l)))

  -- What a visit does to a thread with a rest, a walk does to it, down to the one that it names or to all if it names nobody.
  walk-leaves : (Q : ℕ → Progress → Progress → Type 0)
      → ((i : ℕ) (s : State) → i < length s.threads → 0 < (progress s i).rest → Q i (progress (visit m (get_or bs i 0) i s).state i) (progress s i))
      → (i p : ℕ) (is : List ℕ) (s : State) → FallingFrom t p is → i < length s.threads → Stands i is → 0 < (progress s i).rest
      → ((k : ℕ) → Names k (walk m bs is s).answer → (thread t k).priority ≤ (thread t i).priority)
      → Q i (progress (walk m bs is s).state i) (progress s i)
  walk-leaves Q visited i p [] s f l h r n = absurd h
  walk-leaves Q visited i p (j ∷ js) s f l h r n =
      let long : length (visit m (get_or bs j 0) j s).state.threads ≡ length s.threads
      = visit_keeps (λ x. length x.threads) (λ x k q. length-set x.threads k q) m (get_or bs j 0) j s in
      by_test (chosen (visit m (get_or bs j 0) j s).answer)
      (λ c.
      let u : (thread t j).priority ≤ (thread t i).priority = n j (rw (walk-stop m bs j js s c) (chosen_named (get_or bs j 0) j s c)) in
      rw (walk-stop m bs j js s c)
      (⊎_elim (λ (q : i ≡ j). rw q (visited j s (rw q at l) (rw q at r)))
      (λ (q : Stands i js). absurd (omega (arith, stands_lower t m bs i _ js f.1 q, u)))
      h))
      (λ c.
      rw (walk_on m bs j js s c)
      (⊎_elim
      (λ (q : i ≡ j).
      let a : progress (walk m bs js (visit m (get_or bs j 0) j s).state).state j ≡ progress (visit m (get_or bs j 0) j s).state j
      = walk-apart j _ js _ f.1 (omega arith) in
      let v = visited j s (rw q at l) (rw q at r) in
      rw (q, a) v)
      (λ (q : Stands i js).
      let o : progress (visit m (get_or bs j 0) j s).state i ≡ progress s i = visit_others m _ j s i (apart t i j (stands_lower t m bs i _ js f.1 q)) in
      let w = walk-leaves Q visited i (thread t j).priority js _ f.1 (rw long l) q (rw o r) (λ k x. n k (rw (walk_on m bs j js s c) x)) in
      rw o at w)
      h))

-- The chosen thread runs, or it is marked and waits.
pub chosen_says : (t : Table) (mode : Mode) (x : Input) (s : State) → Says (marks_of t) x.bytes (release t x.mask s) (step t mode x s).answer
unfolding advance ticked
chosen_says t mode x s = rw (step_by t mode x s) (walk_says t (marks_of t) x.bytes 256 (threads_at t mode s.clock) _ (at_falls_from t mode s.clock))

-- Every thread with a rest, down to the chosen one or all where nobody is chosen, pays one.
pub reached_pay_one : (t : Table) (mode : Mode) → Legal t → (x : Input) (s : State) → Fits t s → (i : ℕ) → i < t.count → walks t mode s.clock i ≡ true
    → 0 < (progress (release t x.mask s) i).rest
    → ((k : ℕ) → Names k (step t mode x s).answer → (thread t k).priority ≤ (thread t i).priority) → pays t mode x s i ≡ 1
unfolding pays step advance ticked
reached_pay_one t mode g x s f i l v h n =
    let long : length (release t x.mask s).threads ≡ 32 = release_length t x.mask s ∙ f.long in
    let few : t.count ≤ 32 = g.count_high in
    let w = walk-leaves t (marks_at t mode s.clock) x.bytes (λ k r p. r.rest + 1 ≡ p.rest) (λ k z u v. visit_takes t (marks_at t mode s.clock) x.bytes (get_or x.bytes k 0) k z u v) i 256 (threads_at t mode s.clock)
    (release t x.mask s) (at_falls_from t mode s.clock) (rw long (omega arith)) (at-whole t mode g s.clock i l v) h n in
    let k = tick_keeps t (λ p. p.rest) aged_rest (walk (marks_at t mode s.clock) x.bytes (threads_at t mode s.clock) (release t x.mask s)).state i in
    omega (arith, w, k)

-- What a finish does to a reached thread: 2 sets the mark, and nothing clears it.
visit_marks : (m : List Mark) (b i : ℕ) (s : State) → i < length s.threads → 0 < (progress s i).rest
    → (progress (visit m b i s).state i).finished ≡ or (progress s i).finished (eqb b 2)
visit_marks m b i s l h =
    let P : Walked → Type 0 = λ w. (progress w.state i).finished ≡ or (progress s i).finished (eqb b 2) in
    let k : (progress (heard b i s) i).finished ≡ or (progress s i).finished (eqb b 2) = heard-mark m b i s l in
    let p : (progress (pay (heard b i s) i) i).finished ≡ or (progress s i).finished (eqb b 2) = paid-mark m b i s l ∙ k in
    rw (reached m b i s h) (reached_pays m b i (heard b i s) P (λ _. counted-mark m b i s l ∙ k) p p)

-- Of every thread with a rest, down to the chosen one or all where nobody is chosen, the finish mark is set then if it was or the byte is 2.
pub reached_marks : (t : Table) (mode : Mode) → Legal t → (x : Input) (s : State) → Fits t s → (i : ℕ) → i < t.count → walks t mode s.clock i ≡ true
    → 0 < (progress (release t x.mask s) i).rest
    → ((k : ℕ) → Names k (step t mode x s).answer → (thread t k).priority ≤ (thread t i).priority)
    → (progress (step t mode x s).state i).finished ≡ or (progress (release t x.mask s) i).finished (eqb (get_or x.bytes i 0) 2)
unfolding step advance ticked
reached_marks t mode g x s f i l v h n =
    let long : length (release t x.mask s).threads ≡ 32 = release_length t x.mask s ∙ f.long in
    let few : t.count ≤ 32 = g.count_high in
    tick_keeps t (λ p. p.finished) aged-finished (walk (marks_at t mode s.clock) x.bytes (threads_at t mode s.clock) (release t x.mask s)).state i
    ∙ walk-leaves t (marks_at t mode s.clock) x.bytes (λ k r p. r.finished ≡ or p.finished (eqb (get_or x.bytes k 0) 2)) (λ k z u v. visit_marks (marks_at t mode s.clock) (get_or x.bytes k 0) k z u v) i 256
    (threads_at t mode s.clock) (release t x.mask s) (at_falls_from t mode s.clock) (rw long (omega arith)) (at-whole t mode g s.clock i l v) h n
