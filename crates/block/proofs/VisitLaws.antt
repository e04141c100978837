-- What the code computes of a visit is the visit, and a walk under way that ends in the whole walk.
use Prim.Native.Nat.{ℕ, ◌+◌, ◌-◌, ◌≤◌, ◌<◌}
use mathlib.Core.Path.{◌≡◌, refl, sym, ◌∙◌, ap, subst}
use mathlib.Core.List.{List, [], ◌∷◌}
use mathlib.Core.Bool.{Bool, true, false, not, true≢false}
use native.Mathlib.Omega.{arith}
use native.Mathlib.Nat.{le_antisymm}
use borrow.Author.Tests.{eq-eqb, ne_eqb, lt-ltb, le-ltb, eqb-true, eqb-false}
use lib.ListN.{length, get_or}
use lib.Seq.{slice, slice_empty}
use lib.Dec.{eqb, ltb}
use Rattle.basis.specs.Tests.{pick, and}
use Rattle.basis.proofs.TestLaws.{by_test}
use Rattle.table.specs.Mark.{Mark}
use Rattle.table.specs.Mark.{is_set}
use Rattle.state.specs.State.{with_finished, progress, put}
use Rattle.state.specs.Methods.{paid, pay, finish, counted, count}
use Rattle.state.specs.Given.{Counted}
use Rattle.state.specs.declared.Progress.{Progress}
use Rattle.state.specs.declared.State.{State}
use Rattle.walk.specs.Walk.{heard, runs, walked, decided, visit, chosen, walk}
use Rattle.walk.specs.declared.Answer.TheVariants.{Ran, IdleFor, Idle}
use Rattle.walk.specs.declared.Walked.{Walked}
use Rattle.walk.proofs.WalkLaws.{passed-each, kept_counts, walk_on, walk-stop}
use Rattle.block.specs.Play.{would_run}
use Rattle.block.specs.Block.{trace}
use Rattle.block.proofs.ThreadLaws.{rest_stored, execution_stored, mark_stored, count_stored, put_back, put-put, put-at, ran-stored, waits_stored}

-- A walk's answer as a byte, with the state behind it.
pub record Traces (w : Walked) (s : State) (a : ℕ) : Type 0 where
  pub state : w.state ≡ s
  pub byte : trace w.answer ≡ a
  pub ends : chosen w.answer ≡ not (eqb a 255)

-- The progress of a thread whose byte is heard, and what a visit then makes of it.
abbrev after_byte : ℕ → Progress → Progress
after_byte b p = with_finished (pick (eqb b 2) true p.finished) p

heard-put : (b i : ℕ) (s : State) → heard b i s ≡ put s i (after_byte b (progress s i))
unfolding heard finish pick
heard-put b i s = by_test (eqb b 2) (λ e. rw e) (λ e. rw e (sym (put_back s i)))

pay-put : (s : State) (i : ℕ) (q : Progress) → i < length s.threads → pay (put s i q) i ≡ put s i (paid q)
unfolding pay
pay-put s i q l = ap (λ (p : Progress). put (put s i q) i (paid p)) (put-at s i q l) ∙ put-put s i q (paid q)

count-put : (s : State) (i : ℕ) (q : Progress) → i < length s.threads → count (put s i q) i ≡ put s i (counted q)
unfolding count
count-put s i q l = ap (λ (p : Progress). put (put s i q) i (counted p)) (put-at s i q l) ∙ put-put s i q (counted q)

decided-put : (m : List Mark) (b i : ℕ) (s : State) (q : Progress) → i < length s.threads
    → decided m b i (put s i q) ≡ pick (runs b q) (walked (Ran i) (put s i (counted (paid q))))
    (pick (is_set m i) (walked (IdleFor i) (put s i (paid q))) (walked Idle (put s i (paid q))))
unfolding decided
decided-put m b i s q l = rw (pay-put s i q l, count-put s i (paid q) l, put-at s i q l)

some_left : (x : ℕ) → ltb 0 x ≡ not (eqb x 0)
some_left x =
    by_test (eqb x 0) (λ e. rw (e, le-ltb 0 x (omega (arith, eqb-true x 0 e))))
    (λ e. rw (e, lt-ltb 0 x (let d = eqb-false x 0 e in omega arith)))

by_cases : (one two f none : Bool) → (two ≡ true → one ≡ false) → pick f false (pick none false one) ≡ and one (and (not (pick two true f)) (not none))
unfolding pick
by_cases false two true none h = refl
by_cases false two false true h = refl
by_cases false two false false h = refl
by_cases true true f none h = absurd (true≢false (h refl))
by_cases true false true none h = refl
by_cases true false false true h = refl
by_cases true false false false h = refl

-- A finish changes nothing of whether a thread runs.
runs_by : (b : ℕ) (p : Progress) → runs b (after_byte b p) ≡ would_run p.finished p.execution b
unfolding would_run runs
runs_by b p =
    ap (λ (z : Bool). and (eqb b 1) (and (not (pick (eqb b 2) true p.finished)) z)) (some_left p.execution)
    ∙ sym (by_cases (eqb b 1) (eqb b 2) p.finished (eqb p.execution 0) (λ two. ne_eqb b 1 (λ z. omega (arith, eqb-true b 2 two, z))))

-- A thread that runs has some execution left, and says 1.
ran_so : (f : Bool) (x b : ℕ) → would_run f x b ≡ true → (0 < x) × (b ≡ 1)
unfolding would_run pick
ran_so true x b e = absurd (true≢false (sym e))
ran_so false x b e =
    by_test (eqb x 0) (λ z. absurd (true≢false (sym (rw z at e))))
    (λ z. (let d = eqb-false x 0 z in omega arith, eqb-true b 1 (rw z at e)))

pub run-left : (f : Bool) (x b : ℕ) → would_run f x b ≡ true → 0 < x
run-left f x b e = (ran_so f x b e).0

unheard : (b : ℕ) (p : Progress) → b ≡ 1 → after_byte b p ≡ p
unfolding pick
unheard b p e = rw (ne_eqb b 2 (λ z. omega arith))

-- What a visit answers and leaves of a thread with a rest.
module _ (m : List Mark) (b i : ℕ) (s : State) (l : i < length s.threads) (e : eqb (progress s i).rest 0 ≡ false) where
  abbrev here : Progress
  here = progress s i

  reached : visit m b i s ≡ decided m b i (put s i (after_byte b here))
  unfolding visit pick
  reached = rw (e, heard-put b i s)

  ran : runs b (after_byte b here) ≡ true → visit m b i s ≡ walked (Ran i) (put s i (counted (paid (after_byte b here))))
  unfolding pick
  ran r = rw (reached, decided-put m b i s (after_byte b here) l, r)

  idled : runs b (after_byte b here) ≡ false → is_set m i ≡ true → visit m b i s ≡ walked (IdleFor i) (put s i (paid (after_byte b here)))
  unfolding pick
  idled r k = rw (reached, decided-put m b i s (after_byte b here) l, r, k)

  went_on : runs b (after_byte b here) ≡ false → is_set m i ≡ false → visit m b i s ≡ walked Idle (put s i (paid (after_byte b here)))
  unfolding pick
  went_on r k = rw (reached, decided-put m b i s (after_byte b here) l, r, k)

-- A walk under way: nobody is chosen yet and the walk goes on from here, or it has ended.
pub data Going (m : List Mark) (bs is : List ℕ) (s : State) (a : ℕ) (whole : Walked) : Type 0 where
  on : a ≡ 255 → Counted 999999999 s → walk m bs is s ≡ whole → Going m bs is s a whole
  off : is ≡ [] → Traces whole s a → Going m bs is s a whole

module _ (m : List Mark) (bs : List ℕ) (whole : Walked) where
  pub going_end : (s : State) (a : ℕ) → Going m bs [] s a whole → Traces whole s a
  unfolding walk
  going_end s a (on e k w) = rw (e, ← w) (record { state = refl; byte = refl; ends = refl })
  going_end s a (off e t) = t

  pub going_counted : (i : ℕ) (is : List ℕ) (s : State) (a : ℕ) → Going m bs (i ∷ is) s a whole → Counted 999999999 s
  going_counted i is s a (on e k w) = k
  going_counted i is s a (off e t) = let z : ◌≡◌ {A = ℕ} 0 1 = cc in absurd (omega arith)

  -- a thread with no rest is passed
  going_past : (i : ℕ) (is : List ℕ) (s : State) (a : ℕ) → (progress s i).rest ≡ 0 → Going m bs (i ∷ is) s a whole → Going m bs is s a whole
  unfolding walk visit pick
  going_past i is s a z (on e k w) = on e k (rw (eq-eqb (progress s i).rest 0 z) at w)
  going_past i is s a z (off e t) = let q : ◌≡◌ {A = ℕ} 0 1 = cc in absurd (omega arith)

  module _ (i : ℕ) (is : List ℕ) (s : State) (l : i < length s.threads) (h : i < 32) (some : eqb (progress s i).rest 0 ≡ false) where
    abbrev heard_here : Progress
    heard_here = after_byte (get_or bs i 0) (progress s i)

    stops : (a c : ℕ) (w : Walked) → visit m (get_or bs i 0) i s ≡ w → chosen w.answer ≡ true → Traces w w.state c → Going m bs (i ∷ is) s a whole
        → Going m bs [] w.state c whole
    stops a c w v k t (on e _ q) =
        off refl (subst (λ (z : Walked). Traces z w.state c) (sym v ∙ sym (walk-stop m bs i is s (ap (λ (z : Walked). chosen z.answer) v ∙ k)) ∙ q) t)
    stops a c w v k t (off e _) = let z : ◌≡◌ {A = ℕ} 0 1 = cc in absurd (omega arith)

    at-run : (a : ℕ) → Going m bs (i ∷ is) s a whole → runs (get_or bs i 0) heard_here ≡ true → Going m bs [] (put s i (counted (paid heard_here))) i whole
    at-run a g r =
        stops a i _ (ran m (get_or bs i 0) i s l some r) refl (record { state = refl; byte = refl; ends = rw (ne_eqb i 255 (λ z. omega arith)) }) g

    at-idle : (a : ℕ) → Going m bs (i ∷ is) s a whole → runs (get_or bs i 0) heard_here ≡ false → is_set m i ≡ true
        → Going m bs [] (put s i (paid heard_here)) (32 + i) whole
    at-idle a g r k =
        stops a (32 + i) _ (idled m (get_or bs i 0) i s l some r k) refl (record { state = refl; byte = refl; ends = rw (ne_eqb (32 + i) 255 (λ z. omega arith)) }) g

    at_next : (a : ℕ) → Going m bs (i ∷ is) s a whole → runs (get_or bs i 0) heard_here ≡ false → is_set m i ≡ false
        → Going m bs is (put s i (paid heard_here)) a whole
    at_next a (on e k w) r u =
        let v = went_on m (get_or bs i 0) i s l some r u in
        let n : chosen (visit m (get_or bs i 0) i s).answer ≡ false = ap (λ (z : Walked). chosen z.answer) v in
        on e (subst (λ (z : Walked). Counted 999999999 z.state) v (passed-each m 32 _ (kept_counts 32 999999999) (get_or bs i 0) i s h k n))
        (ap (λ (z : Walked). walk m bs is z.state) (sym v) ∙ sym (walk_on m bs i is s n) ∙ w)
    at_next a (off e t) r u = let z : ◌≡◌ {A = ℕ} 0 1 = cc in absurd (omega arith)

    runs_here : (a : ℕ) → Going m bs (i ∷ is) s a whole → would_run (progress s i).finished (progress s i).execution (get_or bs i 0) ≡ true
        → Going m bs [] (count_stored (execution_stored (rest_stored s i ((progress s i).rest - 1)) i ((progress s i).execution - 1)) i ((progress s i).ran + 1)) i whole
    runs_here a g w =
        let same = ran-stored s i l ((progress s i).rest - 1) ((progress s i).execution - 1) ((progress s i).ran + 1)
        ∙ ap (λ (q : Progress). put s i (counted (paid q))) (sym (unheard (get_or bs i 0) (progress s i) (ran_so _ _ _ w).1)) in
        subst (λ (z : State). Going m bs [] z i whole) (sym same) (at-run a g (runs_by (get_or bs i 0) (progress s i) ∙ w))

-- One turn of the walk as the code makes it: p is thread i's place.
module _ (m : List Mark) (bs : List ℕ) (whole : Walked) (i : ℕ) (is : List ℕ) (s : State) (l : i < length s.threads) (h : i < 32) where
  abbrev Rested : ℕ → Type 0
  Rested p = (progress s p).rest ≡ 0 → ⊥

  pub going_runs : (a p : ℕ) → Going m bs (i ∷ is) s a whole → p ≡ i → Rested p
      → would_run (progress s p).finished (progress s p).execution (get_or bs p 0) ≡ true
      → Going m bs [] (count_stored (execution_stored (rest_stored s p ((progress s p).rest - 1)) p ((progress s p).execution - 1)) p ((progress s p).ran + 1)) i whole
  going_runs a p g e some w = rw e (runs_here m bs whole i is s l h (ne_eqb (progress s i).rest 0 (rw e at some)) a g (rw e at w))

  pub going_idles : (a p : ℕ) (f : Bool) → Going m bs (i ∷ is) s a whole → p ≡ i → Rested p
      → would_run (progress s p).finished (progress s p).execution (get_or bs p 0) ≡ false
      → f ≡ pick (eqb (get_or bs p 0) 2) true (progress s p).finished → is_set m p ≡ true
      → Going m bs [] (mark_stored (rest_stored s p ((progress s p).rest - 1)) p f) (32 + i) whole
  going_idles a p f g e some w q k =
      rw (e, q, e, waits_stored s i l ((progress s i).rest - 1) (pick (eqb (get_or bs i 0) 2) true (progress s i).finished))
      (at-idle m bs whole i is s l h (ne_eqb (progress s i).rest 0 (rw e at some)) a g (runs_by (get_or bs i 0) (progress s i) ∙ rw e at w) (rw e at k))

  pub going_next : (a p : ℕ) (f : Bool) → Going m bs (i ∷ is) s a whole → p ≡ i → Rested p
      → would_run (progress s p).finished (progress s p).execution (get_or bs p 0) ≡ false
      → f ≡ pick (eqb (get_or bs p 0) 2) true (progress s p).finished → is_set m p ≡ false
      → Going m bs is (mark_stored (rest_stored s p ((progress s p).rest - 1)) p f) a whole
  going_next a p f g e some w q k =
      rw (e, q, e, waits_stored s i l ((progress s i).rest - 1) (pick (eqb (get_or bs i 0) 2) true (progress s i).finished))
      (at_next m bs whole i is s l h (ne_eqb (progress s i).rest 0 (rw e at some)) a g (runs_by (get_or bs i 0) (progress s i) ∙ rw e at w) (rw e at k))

  pub going_passed : (a p : ℕ) → Going m bs (i ∷ is) s a whole → p ≡ i → (progress s p).rest ≡ 0 → Going m bs is s a whole
  going_passed a p g e z = going_past m bs whole i is s a (rw e at z) g

-- The end of the walk.
pub going_done : (m : List Mark) (bs : List ℕ) (whole : Walked) (s : State) (a n : ℕ) (l : List ℕ) (r : ℕ) → r ≤ n → n ≤ r → Going m bs (slice r n l) s a whole → Traces whole s a
going_done m bs whole s a n l r h k g = going_end m bs whole s a (rw (le_antisymm h k, slice_empty n l) at g)
