-- Laws of the walk: what a visit and a walk keep of each thread's progress.
use Prim.Native.Nat.{ℕ, ◌+◌, ◌≤◌, ◌<◌}
use mathlib.Core.Path.{◌≡◌, refl, ◌∙◌}
use mathlib.Core.List.{List, [], ◌∷◌}
use mathlib.Core.Bool.{Bool, true, false, true≢false}
use native.Mathlib.Numerals.{add-one}
use native.Mathlib.Nat.{le_antisymm}
use lib.ListN.{length, get_or, length-set}
use lib.Seq.{slice, slice-cons, slice_empty}
use lib.Dec.{eqb}
use Rattle.basis.specs.Tests.{pick}
use Rattle.basis.proofs.TestLaws.{by_test, both_ways}
use Rattle.table.specs.Mark.{Mark}
use Rattle.state.specs.State.{put}
use Rattle.state.specs.Methods.{paid, pay, done, finish, counted, count}
use Rattle.state.specs.Given.{Each}
use Rattle.state.specs.declared.Progress.{Progress}
use Rattle.state.specs.declared.State.{State}
use Rattle.state.proofs.StateLaws.{put-each, changed_twice}
use Rattle.order.specs.Order.{Below}
use Rattle.walk.specs.Walk.{heard, walked, decided, visit, chosen, walk}
use Rattle.walk.specs.declared.Answer.TheVariants.{Idle}
use Rattle.walk.specs.declared.Walked.{Walked}

-- One turn of the walk.
pub walk_on : (m : List Mark) (bs : List ℕ) (i : ℕ) (is : List ℕ) (s : State) → chosen (visit m (get_or bs i 0) i s).answer ≡ false
    → walk m bs (i ∷ is) s ≡ walk m bs is (visit m (get_or bs i 0) i s).state
unfolding walk pick
walk_on m bs i is s e = simp e

pub walk-stop : (m : List Mark) (bs : List ℕ) (i : ℕ) (is : List ℕ) (s : State) → chosen (visit m (get_or bs i 0) i s).answer ≡ true
    → walk m bs (i ∷ is) s ≡ visit m (get_or bs i 0) i s
unfolding walk pick
walk-stop m bs i is s e = simp e

pub walk_none : (m : List Mark) (bs l : List ℕ) (n k : ℕ) (s : State) → k ≤ n → n ≤ k → walk m bs (slice k n l) s ≡ walked Idle s
unfolding walk
walk_none m bs l n k s p q = rw (le_antisymm p q, slice_empty)

pub slice_next : (l : List ℕ) (n k : ℕ) → n ≤ length l → k < n → slice k n l ≡ get_or l k 0 ∷ slice (k + 1) n l
slice_next l n k h p = rw add-one (slice-cons k n l 0 p h)

-- Document 01 has a reached thread pay, and then its byte is heard: the definition's other order comes to the same.
pub paid-heard : (b i : ℕ) (s : State) → pay (heard b i s) i ≡ heard b i (pay s i)
unfolding heard finish pay pick
paid-heard b i s =
    by_test (eqb b 2)
    (λ e. rw (e, changed_twice done paid s.threads i, changed_twice paid done s.threads i))
    (λ e. rw e)

-- What paying and finishing keep of each thread below n, up to the choice of a thread.
pub record Kept (n : ℕ) (P : ℕ → Progress → Type 0) : Type 0 where
  pub pays : (i : ℕ) (p : Progress) → i < n → P i p → P i (paid p)
  pub finishes : (i : ℕ) (p : Progress) → i < n → P i p → P i (done p)

module _ (n : ℕ) (P : ℕ → Progress → Type 0) (kept : Kept n P) where
  pub pay-each : (i : ℕ) (s : State) → i < n → Each P s → Each P (pay s i)
  unfolding pay
  pay-each i s l h = put-each P s i _ h (kept.pays i _ l (h.at i))

  pub finish-each : (i : ℕ) (s : State) → i < n → Each P s → Each P (finish s i)
  unfolding finish
  finish-each i s l h = put-each P s i _ h (kept.finishes i _ l (h.at i))

  heard-each : (b i : ℕ) (s : State) → i < n → Each P s → Each P (heard b i s)
  unfolding heard
  heard-each b i s l h = both_ways (Each P) _ _ _ (finish-each i s l h) h

module _ (m : List Mark) (n : ℕ) (P : ℕ → Progress → Type 0) (kept : Kept n P) where
  -- a visit that chooses nobody; `search` takes the state that the definition hands on, heard (k) or paid too (q)
  pub passed-each : (b i : ℕ) (s : State) → i < n → Each P s → chosen (visit m b i s).answer ≡ false → Each P (visit m b i s).state
  unfolding visit decided pay
  passed-each b i s l h =
      let k : Each P (heard b i s) = heard-each n P kept b i s l h in
      let q : Each P (pay (heard b i s) i) = pay-each n P kept i _ l k in
      let R : Walked → Type 0 = λ w. chosen w.answer ≡ false → Each P w.state in
      both_ways R _ _ _ (λ _. h) (both_ways R _ _ _ (λ e. absurd (true≢false e)) (both_ways R _ _ _ (λ _. search) (λ _. search)))

  -- any visit, and a walk: Q is what P becomes where one thread at most is counted
  module _ (Q : ℕ → Progress → Type 0) (weaker : (i : ℕ) (p : Progress) → P i p → Q i p) (counts : (i : ℕ) (p : Progress) → i < n → P i p → Q i (counted p)) where
    weak : (s : State) → Each P s → Each Q s
    weak s h = record { at = λ i. weaker i _ (h.at i) }

    visit-each : (b i : ℕ) (s : State) → i < n → Each P s → Each Q (visit m b i s).state
    unfolding visit decided count pay
    visit-each b i s l h =
        let k : Each P (heard b i s) = heard-each n P kept b i s l h in
        let q : Each P (pay (heard b i s) i) = pay-each n P kept i _ l k in
        let R : Walked → Type 0 = λ w. Each Q w.state in
        let c : Each Q (count (pay (heard b i s) i) i) = put-each Q (pay (heard b i s) i) i _ (weak _ q) (counts i _ l (q.at i)) in
        both_ways R _ _ _ (weak s h) (both_ways R _ _ _ c (both_ways R _ _ _ (weak _ (search)) (weak _ (search))))

    turn : (bs : List ℕ) (i : ℕ) (is : List ℕ) (s : State) → i < n → Each P s → ((z : State) → Each P z → Each Q (walk m bs is z).state)
        → (b : Bool) → chosen (visit m (get_or bs i 0) i s).answer ≡ b → Each Q (walk m bs (i ∷ is) s).state
    turn bs i is s l h rest true e = rw (walk-stop m bs i is s e) (visit-each _ i s l h)
    turn bs i is s l h rest false e = rw (walk_on m bs i is s e) (rest _ (passed-each _ i s l h e))

    pub walk-each : (bs is : List ℕ) (s : State) → Below n is → Each P s → Each Q (walk m bs is s).state
    unfolding walk
    walk-each bs [] s l h = weak s h
    walk-each bs (i ∷ is) s l h = turn bs i is s l.0 h (λ z k. walk-each bs is z l.1 k) _ refl

-- what every store keeps is kept by a walk
module _ {A : Type 0} (f : State → A) (kept : (s : State) (i : ℕ) (p : Progress) → f (put s i p) ≡ f s) where
  pub visit_keeps : (m : List Mark) (b i : ℕ) (s : State) → f (visit m b i s).state ≡ f s
  unfolding visit decided heard finish pay count
  visit_keeps m b i s =
      let Q : State → Type 0 = λ x. f x ≡ f s in
      let P : Walked → Type 0 = λ w. f w.state ≡ f s in
      let k : f (heard b i s) ≡ f s = both_ways Q _ _ _ (kept _ _ _) refl in
      let q : f (pay (heard b i s) i) ≡ f s = kept _ _ _ ∙ k in
      both_ways P _ _ _ refl (both_ways P _ _ _ (kept _ _ _ ∙ q) (both_ways P _ _ _ (search) (search)))

  pub walk_keeps : (m : List Mark) (bs is : List ℕ) (s : State) → f (walk m bs is s).state ≡ f s
  unfolding walk
  walk_keeps m bs [] s = refl
  walk_keeps m bs (i ∷ is) s =
      let P : Walked → Type 0 = λ w. f w.state ≡ f s in
      both_ways P _ _ _ (visit_keeps m _ i s) (walk_keeps m bs is _ ∙ visit_keeps m _ i s)

pub walk_clock : (m : List Mark) (bs is : List ℕ) (s : State) → (walk m bs is s).state.clock ≡ s.clock
walk_clock m bs is s = walk_keeps (λ s. s.clock) (λ s i p. refl) m bs is s

pub walk-length : (m : List Mark) (bs is : List ℕ) (s : State) → length (walk m bs is s).state.threads ≡ length s.threads
walk-length m bs is s = walk_keeps (λ s. length s.threads) (λ s i p. length-set s.threads i p) m bs is s

-- Paying and finishing leave the counts.
pub kept_counts : (n c : ℕ) → Kept n (λ i p. p.ran ≤ c)
kept_counts n c = record { pays = λ i p l h. h; finishes = λ i p l h. h }
