-- What a step does to one thread, without a frame: a thread stands below the chosen one or the walk comes down to it. So where a thread has
-- a rest after the release, it pays or one above it does; and a thread that may run and pays, runs.
use Prim.Native.Nat.{ℕ, ◌≤◌, ◌<◌}
use mathlib.Core.Path.{◌≡◌, refl, sym, ◌∙◌, ap}
use mathlib.Core.Bool.{true, false}
use mathlib.Core.Logic.{⊎_elim}
use native.Mathlib.Nat.{le_refl, eq-or-lt_of_le}
use native.Mathlib.Omega.{arith}
use borrow.Author.Tests.{ltb-true, ltb-false, eqb-true, eqb-false, eq-eqb}
use lib.ListN.{get_or}
use lib.Dec.{eqb, ltb}
use Rattle.basis.specs.Tests.{pick}
use Rattle.basis.proofs.TestLaws.{by_test, refuted}
use Rattle.table.specs.Threads.{thread}
use Rattle.table.specs.Mark.{marks_of}
use Rattle.table.specs.Legal.{Legal}
use Rattle.table.specs.declared.Table.{Table}
use Rattle.state.specs.State.{no_progress, progress, Fits}
use Rattle.state.specs.Release.{release}
use Rattle.state.specs.Methods.{tick}
use Rattle.state.specs.declared.Progress.{Progress}
use Rattle.state.specs.declared.State.{State}
use Rattle.state.proofs.FitLaws.{release-fits}
use Rattle.state.proofs.TickLaws.{tick-leaves}
use Rattle.frame.specs.Mode.{unframed}
use Rattle.frame.proofs.ModeLaws.{unframed_walks}
use Rattle.walk.specs.Walk.{runs}
use Rattle.walk.specs.Step.{Input, step, Rested, Names, ran, idles, Says, ran_by}
use Rattle.walk.specs.Paid.{pays}
use Rattle.walk.specs.declared.Answer.{Answer}
use Rattle.walk.specs.declared.Answer.TheVariants.{Ran, IdleFor, Idle}
use Rattle.walk.proofs.StepLaws.{chosen_rested}
use Rattle.walk.proofs.PaidLaws.{pays-once}
use Rattle.walk.proofs.ReachedLaws.{runs_exactly}
use Rattle.walk.proofs.ChoiceLaws.{nobody, below_chosen, idle_only, chosen-first, chosen_says, reached_pay_one, reached_marks}
use Rattle.walk.proofs.CountLaws.{rest_stays}

-- An answer names one thread.
ran_named : (k j : ℕ) → Names k (Ran j) → k ≡ j
ran_named k j ran = refl

idle_named : (k j : ℕ) → Names k (IdleFor j) → k ≡ j
idle_named k j idles = refl

named_once : (a : Answer) (k j : ℕ) → Names k a → Names j a → k ≡ j
named_once (Ran i) k j n m = ran_named k i n ∙ sym (ran_named j i m)
named_once (IdleFor i) k j n m = idle_named k i n ∙ sym (idle_named j i m)
named_once Idle k j n m = nobody k n

named_rest : (a : Answer) (z : State) → Rested a z → (k : ℕ) → Names k a → 0 < (progress z k).rest
named_rest (Ran i) z r k n = r.ran k (ap Ran (sym (ran_named k i n)))
named_rest (IdleFor i) z r k n = r.idled k (ap IdleFor (sym (idle_named k i n)))
named_rest Idle z r k n = nobody k n

-- Thread i stands below the thread that an answer names, or the walk comes down to it.
pub data Turn (t : Table) (a : Answer) (i : ℕ) : Type 0 where
  below : (k : ℕ) → Names k a → (thread t i).priority < (thread t k).priority → Turn t a i
  come : ((k : ℕ) → Names k a → (thread t k).priority ≤ (thread t i).priority) → Turn t a i

turn_by : (t : Table) (a : Answer) (i j : ℕ) → Names j a → Turn t a i
turn_by t a i j n =
    by_test (ltb (thread t i).priority (thread t j).priority)
    (λ e. below j n (ltb-true _ _ e))
    (λ e. come (λ k m. let q : k ≡ j = named_once a k j m n in rw q (ltb-false _ _ e)))

turn : (t : Table) (a : Answer) (i : ℕ) → Turn t a i
turn t (Ran j) i = turn_by t (Ran j) i j ran
turn t (IdleFor j) i = turn_by t (IdleFor j) i j idles
turn t Idle i = come (λ k n. nobody k n)

-- A thread of at least h's priority that pays one.
pub record Payer (t : Table) (h : ℕ) (x : Input) (s : State) : Type 0 where
  pub payer : ℕ
  pub below : payer < t.count
  pub upper : (thread t h).priority ≤ (thread t payer).priority
  pub one : pays t unframed x s payer ≡ 1

module _ (t : Table) (g : Legal t) (x : Input) (s : State) (f : Fits t s) where
  abbrev begun : State
  begun = release t x.mask s

  abbrev answered : Answer
  answered = (step t unframed x s).answer

  abbrev next : State
  next = (step t unframed x s).state

  -- only a thread of the table has a rest
  rested_below : (k : ℕ) → 0 < (progress begun k).rest → k < t.count
  rested_below k h =
      by_test (ltb k t.count) (ltb-true k t.count)
      (λ e. let z : progress begun k ≡ no_progress = ((release-fits t x.mask s f).at k).unused (ltb-false _ _ e) in
      let n : (progress begun k).rest ≡ 0 = ap (λ (p : Progress). p.rest) z in
      absurd (omega arith))

  chosen_rest : (k : ℕ) → Names k answered → 0 < (progress begun k).rest
  chosen_rest = named_rest answered begun (chosen_rested t unframed x s)

  pub step_payer : (h : ℕ) → h < t.count → 0 < (progress begun h).rest → Payer t h x s
  step_payer h l r = go (turn t answered h)
    where
      go : Turn t answered h → Payer t h x s
      go (come n) = record {
        payer = h;
        below = l;
        upper = le_refl _;
        one = reached_pay_one t unframed g x s f h l (unframed_walks t s.clock h) r n;
      }
      go (below k n u) = record {
        payer = k;
        below = rested_below k (chosen_rest k n);
        upper = omega arith;
        one = reached_pay_one t unframed g x s f k (rested_below k (chosen_rest k n)) (unframed_walks t s.clock k) (chosen_rest k n)
            (λ j m. let q : j ≡ k = named_once answered j k m n in rw q (le_refl _));
      }

  -- a thread that the walk does not change pays nothing
  unchanged_pays : (i : ℕ) → progress next i ≡ progress (tick t begun) i → pays t unframed x s i ≡ 0
  unfolding pays
  unchanged_pays i e =
      let a : (progress next i).rest ≡ (progress (tick t begun) i).rest = ap (λ (p : Progress). p.rest) e in
      omega (arith, (tick-leaves t begun i).0)

  unchanged_mark : (i : ℕ) → progress next i ≡ progress (tick t begun) i → (progress next i).finished ≡ (progress begun i).finished
  unchanged_mark i e = ap (λ (p : Progress). p.finished) e ∙ (tick-leaves t begun i).2

  module _ (i : ℕ) (l : i < t.count) (one : get_or x.bytes i 0 ≡ 1) (unmarked : (progress begun i).finished ≡ false) where
    -- its finish mark stays unset
    pub stays_unmarked : (progress next i).finished ≡ false
    stays_unmarked =
        by_test (eqb (progress begun i).rest 0)
        (λ e. unchanged_mark i (rest_stays t unframed x s i (eqb-true _ _ e)) ∙ unmarked)
        (λ e. let d = eqb-false (progress begun i).rest 0 e in go (omega (arith, d)) (turn t answered i))
      where
        go : 0 < (progress begun i).rest → Turn t answered i → (progress next i).finished ≡ false
        go r (below k n u) = unchanged_mark i (below_chosen t unframed x s k i n u) ∙ unmarked
        go r (come n) = rw (reached_marks t unframed g x s f i l (unframed_walks t s.clock i) r n, unmarked, one)

    -- with execution left, it runs if it pays
    module _ (left : 0 < (progress begun i).execution) where
      would_run : runs (get_or x.bytes i 0) (progress begun i) ≡ true
      would_run = (runs_exactly (get_or x.bytes i 0) (progress begun i)).1 (one, unmarked, left)

      -- the thread that is named is i: one further down would have been chosen behind i, which runs
      itself : 0 < (progress begun i).rest → (j : ℕ) → Names j answered → (thread t j).priority ≤ (thread t i).priority → j ≡ i
      itself r j n u =
          ⊎_elim
          (λ (e : (thread t j).priority ≡ (thread t i).priority). g.distinct j i (rested_below j (chosen_rest j n)) l e)
          (λ (v : (thread t j).priority < (thread t i).priority).
          refuted would_run (chosen-first t unframed g x s j i n v l (unframed_walks t s.clock i) r).1)
          (eq-or-lt_of_le u)

      own-run : ran_by i (Ran i) ≡ 1
      unfolding ran_by pick
      own-run = rw (eq-eqb i i refl)

      by_answer : 0 < (progress begun i).rest → (a : Answer) → answered ≡ a → ((k : ℕ) → Names k a → (thread t k).priority ≤ (thread t i).priority)
          → ran_by i a ≡ 1
      by_answer r (Ran j) e n =
          let m : Names j answered = rw e ran in
          let q : j ≡ i = itself r j m (n j ran) in
          rw q own-run
      by_answer r (IdleFor j) e n =
          let m : Names j answered = rw e idles in
          let q : j ≡ i = itself r j m (n j idles) in
          let w : Says (marks_of t) x.bytes begun (IdleFor i) = rw (e, q) at (chosen_says t unframed x s) in
          refuted would_run w.1
      by_answer r Idle e n = refuted would_run (idle_only t unframed g x s e i l (unframed_walks t s.clock i) r).1

      pub pays_by_running : pays t unframed x s i ≤ ran_by i answered
      pays_by_running =
          by_test (eqb (progress begun i).rest 0)
          (λ e. let z = unchanged_pays i (rest_stays t unframed x s i (eqb-true _ _ e)) in omega arith)
          (λ e. let d = eqb-false (progress begun i).rest 0 e in go (omega (arith, d)) (turn t answered i))
        where
          go : 0 < (progress begun i).rest → Turn t answered i → pays t unframed x s i ≤ ran_by i answered
          go r (below k n u) = let z = unchanged_pays i (below_chosen t unframed x s k i n u) in omega arith
          go r (come n) = omega (arith, by_answer r answered refl n, pays-once t unframed x s i)
