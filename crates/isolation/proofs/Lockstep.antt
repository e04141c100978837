-- Two walks over one list of threads by falling priority, from states that are alike for d, show d the same and end alike:
-- a thread above a visible one is visible or marked, because the relation is transitive, so no hidden byte moves the walk past it.
use Prim.Native.Nat.{ℕ, ◌<◌}
use native.Mathlib.Omega.{arith}
use mathlib.Core.Path.{◌≡◌, refl, sym, ap, ◌∙◌}
use mathlib.Core.List.{List, [], ◌∷◌}
use mathlib.Core.Bool.{Bool, true, false}
use lib.ListN.{get_or}
use lib.Dec.{eqb}
use Rattle.basis.specs.Told.{answered}
use Rattle.basis.proofs.TestLaws.{either, both, refuted, fails}
use Rattle.table.specs.Threads.{thread}
use Rattle.table.specs.Mark.{marked, is_set}
use Rattle.table.specs.Legal.{Legal}
use Rattle.table.specs.declared.Table.{Table}
use Rattle.table.specs.Mark.{Mark}
use Rattle.state.specs.State.{progress}
use Rattle.state.specs.Methods.{done, counted, paid, pay, finish, count}
use Rattle.state.specs.declared.Progress.{Progress}
use Rattle.state.specs.declared.State.{State}
use Rattle.state.proofs.AccountLaws.{rest_accounted, paid_fair, done_keeps, counted_keeps, keeps_fair}
use Rattle.order.specs.Order.{Below, All, Falling}
use Rattle.walk.specs.Walk.{heard, runs, decided, visit, chosen, walk}
use Rattle.walk.specs.declared.Answer.TheVariants.{Idle}
use Rattle.walk.specs.declared.Walked.{Walked}
use Rattle.walk.proofs.ReachedLaws.{reached_pays, marked_ends}
use Rattle.sight.specs.Shown.{visible, view}
use Rattle.sight.proofs.SightLaws.{unseen_gap, idle-gap, nobody-gap}
use Rattle.sight.proofs.GuardLaws.{guards, Guarded, guarded, guards-of, guard_of}
use Rattle.isolation.proofs.Alike.{Alike, alike_refl, alike_sym, alike_trans, alike_change, alike_kept, alike_hidden}

-- Two walks show d the same and end alike.
pub record Agree (t : Table) (d : ℕ) (v w : Walked) : Type 0 where
  pub same : view t d v.answer ≡ view t d w.answer
  pub alike : Alike t d v.state w.state

-- They also both end at this thread, or both go on.
record Abreast (t : Table) (d : ℕ) (v w : Walked) : Type 0 where
  agree : Agree t d v w
  ends : chosen v.answer ≡ chosen w.answer

-- A walk from s shows d nothing, and changes nothing that matters to d.
record Quiet (t : Table) (d : ℕ) (s : State) (w : Walked) : Type 0 where
  gap : view t d w.answer ≡ answered []
  alike : Alike t d s w.state

-- The marks m are the table's.
abbrev pub Marks : Table → List Mark → Type 0
Marks t m = (i : ℕ) → i < t.count → is_set m i ≡ marked t i

module _ (t : Table) (d : ℕ) where
  quiet_still : (s : State) → Quiet t d s (record { answer = Idle; state = s })
  quiet_still s = record { gap = nobody-gap t d; alike = alike_refl t d s }

  quiet-later : {s r : State} {w : Walked} → Alike t d s r → Quiet t d r w → Quiet t d s w
  quiet-later a q = record { gap = q.gap; alike = alike_trans t d a q.alike }

  quiet_both : {s r : State} {v w : Walked} → Alike t d s r → Quiet t d s v → Quiet t d r w → Agree t d v w
  quiet_both a p q = record {
    same = p.gap ∙ sym q.gap;
    alike = alike_trans t d (alike_sym t d p.alike) (alike_trans t d a q.alike);
  }

  -- What a thread that d may not see says changes nothing that matters to d.
  quiet-heard : (b i : ℕ) (s : State) → visible t d i ≡ false → Alike t d s (heard b i s)
  unfolding heard finish
  quiet-heard b i s v = either (Alike t d s) (eqb b 2) (λ _. alike_kept t d done done_keeps s i v) (λ _. alike_refl t d s)

  -- Reached, it pays whether it runs or waits: d is shown a gap, and the state is alike to the one in which it has just paid.
  hidden_pays : (m : List Mark) (b i : ℕ) (s : State) → visible t d i ≡ false → Quiet t d (pay s i) (decided m b i s)
  unfolding count
  hidden_pays m b i s v =
      reached_pays m b i s (Quiet t d (pay s i))
      (λ _. record { gap = unseen_gap t d i v; alike = alike_kept t d counted counted_keeps (pay s i) i v })
      (record { gap = idle-gap t d i; alike = alike_refl t d (pay s i) })
      (quiet_still (pay s i))

  -- A thread that d may not see, and that stands above no visible one.
  abbrev Hidden : ℕ → Type 0
  Hidden i = (visible t d i ≡ false) × (guards t d i ≡ false)

  hidden_visit : (m : List Mark) (b i : ℕ) (s : State) → Hidden i → Quiet t d s (visit m b i s)
  unfolding visit pay
  hidden_visit m b i s h =
      either (Quiet t d s) (eqb (progress s i).rest 0) (λ _. quiet_still s)
      (λ _. quiet-later (quiet-heard b i s h.0)
      (quiet-later (alike_hidden t d (heard b i s) i _ h.0 h.1) (hidden_pays m b i (heard b i s) h.0)))

  hidden_walk : (m : List Mark) (bs is : List ℕ) (s : State) → All Hidden is → Quiet t d s (walk m bs is s)
  unfolding walk
  hidden_walk m bs [] s h = quiet_still s
  hidden_walk m bs (i ∷ is) s h =
      let q : Quiet t d s (visit m (get_or bs i 0) i s) = hidden_visit m (get_or bs i 0) i s h.0 in
      either (Quiet t d s) (chosen (visit m (get_or bs i 0) i s).answer) (λ _. q)
      (λ _. quiet-later q.alike (hidden_walk m bs is _ h.1))

  -- Both walks pass thread i.
  abreast_still : (s r : State) → Alike t d s r → Abreast t d (record { answer = Idle; state = s }) (record { answer = Idle; state = r })
  abreast_still s r a = record { agree = record { same = refl; alike = a }; ends = refl }

  -- At a thread that d may see, both walks do the same.
  visible-heard : (b i : ℕ) (s r : State) → Alike t d s r → Alike t d (heard b i s) (heard b i r)
  unfolding heard finish
  visible-heard b i s r a =
      both (Alike t d) (eqb b 2) _ refl (λ _. alike_change t d done (keeps_fair done done_keeps) s r i a) (λ _. a)

  visible-decided : (m : List Mark) (b i : ℕ) (s r : State) → visible t d i ≡ true → Alike t d s r
      → Abreast t d (decided m b i s) (decided m b i r)
  unfolding decided count pay
  visible-decided m b i s r v a =
      let p : Alike t d (pay s i) (pay r i) = alike_change t d paid paid_fair s r i a in
      both (Abreast t d) (runs b (progress s i)) _ (ap (runs b) ((a.common i).seen v))
      (λ _. record { agree = record { same = refl; alike = alike_change t d counted (keeps_fair counted counted_keeps) _ _ i p }; ends = refl })
      (λ _. both (Abreast t d) (is_set m i) _ refl
      (λ _. record { agree = record { same = refl; alike = search }; ends = refl }) (λ _. abreast_still _ _ p))

  visible-visit : (m : List Mark) (b i : ℕ) (s r : State) → visible t d i ≡ true → Alike t d s r → Abreast t d (visit m b i s) (visit m b i r)
  unfolding visit
  visible-visit m b i s r v a =
      both (Abreast t d) (eqb (progress s i).rest 0) _ (ap (λ (p : Progress). eqb p.rest 0) ((a.common i).seen v))
      (λ _. abreast_still s r a)
      (λ _. visible-decided m b i _ _ v (visible-heard b i s r a))

  -- At a marked thread, both walks pass it or both end there, whatever it says.
  marked-visit : (m : List Mark) (b c i : ℕ) (s r : State) → visible t d i ≡ false → guards t d i ≡ true → is_set m i ≡ true → Alike t d s r
      → Abreast t d (visit m b i s) (visit m c i r)
  unfolding visit pay
  marked-visit m b c i s r v g e a =
      let heard-alike : Alike t d (heard b i s) (heard c i r)
      = alike_trans t d (alike_sym t d (quiet-heard b i s v)) (alike_trans t d a (quiet-heard c i r v)) in
      both (Abreast t d) (eqb (progress s i).rest 0) _ (ap (λ n. eqb n 0) (rest_accounted (progress s i) (progress r i) ((a.common i).held g)))
      (λ _. abreast_still s r a)
      (λ _. record {
        agree = quiet_both (alike_change t d paid paid_fair _ _ i heard-alike) (hidden_pays m b i _ v) (hidden_pays m c i _ v);
        ends = marked_ends m b i _ e ∙ sym (marked_ends m c i _ e);
      })

  -- Below a hidden thread that stands above no visible one, all are so.
  below_hidden : (i : ℕ) → guards t d i ≡ false → (k : ℕ) → (thread t k).priority < (thread t i).priority → k < t.count → Hidden k
  below_hidden i h k p c = (
    fails (visible t d k) (λ v. refuted (guards-of t d i (record { thread_below = k; in_table = c; seen = v; lower = p })) h),
    fails (guards t d k) (λ g.
        let j : Guarded t d k = guarded t d k g in
        refuted (guards-of t d i (record { thread_below = j.thread_below; in_table = j.in_table; seen = j.seen; lower = omega arith })) h),
  )

  all_hidden : (i : ℕ) → guards t d i ≡ false → (is : List ℕ) → All (λ k. (thread t k).priority < (thread t i).priority) is → Below t.count is
      → All Hidden is
  all_hidden i h [] f c = tt
  all_hidden i h (k ∷ is) f c = (below_hidden i h k f.0 c.0, all_hidden i h is f.1 c.1)

  module _ (l : Legal t) (dd : d < t.domains) (m : List Mark) (marks : Marks t m) where
    -- Two walks over is, from any states that are alike.
    abbrev Onward : List ℕ → List ℕ → List ℕ → Type 0
    Onward bs cs is = (s r : State) → Alike t d s r → Agree t d (walk m bs is s) (walk m cs is r)

    abreast_on : (bs cs : List ℕ) (i : ℕ) (is : List ℕ)
        → ((s r : State) → Alike t d s r → Abreast t d (visit m (get_or bs i 0) i s) (visit m (get_or cs i 0) i r))
        → Onward bs cs is → Onward bs cs (i ∷ is)
    unfolding walk
    abreast_on bs cs i is visits on s r a =
        let w = visits s r a in
        both (Agree t d) (chosen (visit m (get_or bs i 0) i s).answer) _ w.ends (λ _. w.agree) (λ _. on _ _ w.agree.alike)

    pub lockstep : (bs cs : List ℕ) → ((i : ℕ) → visible t d i ≡ true → get_or bs i 0 ≡ get_or cs i 0) → (is : List ℕ) → Falling t is → Below t.count is → Onward bs cs is
    unfolding walk
    lockstep bs cs h [] f c = λ s r a. record { same = refl; alike = a }
    lockstep bs cs h (i ∷ is) f c = go (lockstep bs cs h is f.1 c.1) (visible t d i) refl (guards t d i) refl
      where
        go : Onward bs cs is → (v : Bool) → visible t d i ≡ v → (g : Bool) → guards t d i ≡ g → Onward bs cs (i ∷ is)
        go on true v g q =
            let e : get_or bs i 0 ≡ get_or cs i 0 = h i v in
            abreast_on bs cs i is (λ s r a. rw e (visible-visit m (get_or cs i 0) i s r v a)) on
        go on false v true q =
            abreast_on bs cs i is (λ s r a. marked-visit m _ _ i s r v q (marks i c.0 ∙ guard_of t d l dd i c.0 v q) a) on
        go on false v false q = λ s r a.
            let all : All Hidden (i ∷ is) = ((v, q), all_hidden i q is f.0 c.1) in
            quiet_both a (hidden_walk m bs (i ∷ is) s all) (hidden_walk m cs (i ∷ is) r all)
