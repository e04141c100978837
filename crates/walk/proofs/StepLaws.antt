-- A step hands back a state that fits again, one clock on, and chooses only a thread that had a rest when the walk began: no
-- visit raises a rest, so a thread reached with one had it before.
use Prim.Native.Nat.{ℕ, ◌+◌, ◌≤◌, ◌<◌}
use mathlib.Core.Path.{◌≡◌, refl, sym, ◌∙◌, subst}
use mathlib.Core.List.{List, [], ◌∷◌}
use mathlib.Core.Bool.{Bool, true, false}
use native.Mathlib.Omega.{arith}
use native.Mathlib.Nat.{le_refl}
use borrow.Author.Tests.{eqb-false, ne_eqb}
use lib.ListN.{get_or}
use lib.Dec.{eqb}
use Rattle.basis.proofs.TestLaws.{both_ways, either}
use Rattle.table.specs.declared.Table.{Table}
use Rattle.table.specs.Mark.{Mark}
use Rattle.state.specs.State.{progress, last_clock, PlaceFits, Fits}
use Rattle.state.specs.Release.{release}
use Rattle.state.specs.Methods.{tick}
use Rattle.state.specs.Given.{Each}
use Rattle.state.specs.declared.State.{State}
use Rattle.state.proofs.ReleaseLaws.{release_clock, release_length}
use Rattle.state.proofs.FitLaws.{release-fits, aged-fits, later-fits}
use Rattle.state.proofs.TickLaws.{tick-length, tick-each}
use Rattle.order.specs.Order.{Below}
use Rattle.frame.specs.Mode.{Mode, threads_at}
use Rattle.frame.proofs.ModeLaws.{at_below}
use Rattle.walk.specs.Walk.{decided, visit, chosen, walk}
use Rattle.walk.specs.Step.{Input, ticked, advance, marks_at, step, Rested}
use Rattle.walk.specs.declared.Answer.{Answer}
use Rattle.walk.specs.declared.Answer.TheVariants.{Ran, IdleFor, Idle}
use Rattle.walk.specs.declared.Walked.{Walked}
use Rattle.walk.proofs.WalkLaws.{Kept, passed-each, walk-each, walk_clock, walk-length, walk_on, walk-stop}

module _ (t : Table) (c : ℕ) where
  kept_fit : Kept t.count (PlaceFits t c)
  kept_fit = record {
    pays = λ i p l h. record {
      rest_high = λ u. omega (arith, h.rest_high u);
      execution_high = h.execution_high;
      ran_high = h.ran_high;
      since_high = h.since_high;
      unused = λ u. absurd (omega arith);
    };
    finishes = λ i p l h. record {
      rest_high = h.rest_high;
      execution_high = h.execution_high;
      ran_high = h.ran_high;
      since_high = h.since_high;
      unused = λ u. absurd (omega arith);
    };
  }

module _ (t : Table) (m : List Mark) (is : List ℕ) (x : Input) (s : State) where
  pub advance_clock : (advance t m is x s).state.clock ≡ s.clock + 1
  unfolding advance ticked tick
  advance_clock = rw (walk_clock, release_clock)

  -- a step over any list of threads of the table
  pub advance-fits : Below t.count is → Fits t s → s.clock < last_clock → Fits t (advance t m is x s).state
  unfolding advance ticked
  advance-fits l f h =
      let c = s.clock in
      let w : Each (PlaceFits t (c + 1)) (walk m x.bytes is (release t x.mask s)).state
      = walk-each m t.count (PlaceFits t c) (kept_fit t c) (PlaceFits t (c + 1)) (later-fits t c)
      (λ i p l k. record {
        rest_high = k.rest_high;
        execution_high = λ u. omega (arith, k.execution_high u);
        ran_high = omega (arith, k.ran_high);
        since_high = k.since_high;
        unused = λ u. absurd (omega arith);
      })
      x.bytes is _ l (release-fits t x.mask s f) in
      let a : Each (PlaceFits t (c + 1)) (advance t m is x s).state = tick-each t _ (PlaceFits t (c + 1)) (aged-fits t (c + 1)) w in
      record {
        clock_high = rw advance_clock (omega arith);
        long = tick-length t _ ∙ walk-length m x.bytes is (release t x.mask s) ∙ release_length t x.mask s ∙ f.long;
        places = λ i. subst (λ (k : ℕ). PlaceFits t k i (progress (advance t m is x s).state i)) (sym advance_clock) (a.at i);
      }

module _ (t : Table) (mode : Mode) (x : Input) (s : State) where
  pub step_clock : (step t mode x s).state.clock ≡ s.clock + 1
  unfolding step
  step_clock = advance_clock t (marks_at t mode s.clock) (threads_at t mode s.clock) x s

  pub step_fits : Fits t s → s.clock < last_clock → Fits t (step t mode x s).state
  unfolding step
  step_fits f h = advance-fits t (marks_at t mode s.clock) (threads_at t mode s.clock) x s (at_below t mode s.clock) f h

-- No thread has more rest than in s.
abbrev pub Spent : State → State → Type 0
Spent s z = Each (λ i p. p.rest ≤ (progress s i).rest) z

pub kept_spent : (n : ℕ) (s : State) → Kept n (λ i p. p.rest ≤ (progress s i).rest)
kept_spent n s = record { pays = λ i p l h. omega arith; finishes = λ i p l h. h }

-- The thread chosen has a rest of 0 in a state.
abbrev unrested : Answer → State → Bool
unrested (Ran i) s = eqb (progress s i).rest 0
unrested (IdleFor i) s = eqb (progress s i).rest 0
unrested Idle s = false

-- The thread that a visit chooses has a rest there, and so in every state with no less rest.
visit_rested : (m : List Mark) (b i : ℕ) (s : State) → unrested (visit m b i s).answer s ≡ false
unfolding visit decided
visit_rested m b i s =
    let R : Walked → Type 0 = λ w. unrested w.answer s ≡ false in
    either R (eqb (progress s i).rest 0) (λ e. refl) (λ e. both_ways R _ _ _ e (both_ways R _ _ _ e refl))

had_rest : (s z : State) → Spent s z → (i : ℕ) → eqb (progress z i).rest 0 ≡ false → eqb (progress s i).rest 0 ≡ false
had_rest s z h i e = ne_eqb (progress s i).rest 0 (λ q. eqb-false (progress z i).rest 0 e (omega (arith, h.at i)))

rested_before : (s z : State) → Spent s z → (a : Answer) → unrested a z ≡ false → unrested a s ≡ false
rested_before s z h (Ran i) e = had_rest s z h i e
rested_before s z h (IdleFor i) e = had_rest s z h i e
rested_before s z h Idle e = refl

module _ (m : List Mark) (bs : List ℕ) (s : State) where
  turn : (i : ℕ) (is : List ℕ) (z : State) → Spent s z → ((y : State) → Spent s y → unrested (walk m bs is y).answer s ≡ false)
      → (b : Bool) → chosen (visit m (get_or bs i 0) i z).answer ≡ b → unrested (walk m bs (i ∷ is) z).answer s ≡ false
  turn i is z h rest true e = rw (walk-stop m bs i is z e) (rested_before s z h (visit m (get_or bs i 0) i z).answer (visit_rested m (get_or bs i 0) i z))
  turn i is z h rest false e =
      rw (walk_on m bs i is z e) (rest _ (passed-each m (i + 1) _ (kept_spent (i + 1) s) _ i z (omega arith) h e))

  walk_rested : (is : List ℕ) (z : State) → Spent s z → unrested (walk m bs is z).answer s ≡ false
  unfolding walk
  walk_rested [] z h = refl
  walk_rested (i ∷ is) z h = turn i is z h (walk_rested is) _ refl

above : (n : ℕ) → eqb n 0 ≡ false → 0 < n
above n e = let d = eqb-false n 0 e in omega arith

rested_of : (a : Answer) (s : State) → unrested a s ≡ false → Rested a s
rested_of (Ran j) s e = record {
  ran = λ i q. let z : j ≡ i = cc in rw z at (above (progress s j).rest e);
  idled = λ i q. let z : ◌≡◌ {A = ℕ} 0 1 = cc in absurd (omega arith);
}
rested_of (IdleFor j) s e = record {
  ran = λ i q. let z : ◌≡◌ {A = ℕ} 0 1 = cc in absurd (omega arith);
  idled = λ i q. let z : j ≡ i = cc in rw z at (above (progress s j).rest e);
}
rested_of Idle s e = record {
  ran = λ i q. let z : ◌≡◌ {A = ℕ} 0 1 = cc in absurd (omega arith);
  idled = λ i q. let z : ◌≡◌ {A = ℕ} 0 1 = cc in absurd (omega arith);
}

-- The thread chosen had a rest above 0 when the walk began.
pub chosen_rested : (t : Table) (mode : Mode) (x : Input) (s : State) → Rested (step t mode x s).answer (release t x.mask s)
unfolding step advance ticked
chosen_rested t mode x s =
    let r = release t x.mask s in
    rested_of _ r (walk_rested (marks_at t mode s.clock) x.bytes r (threads_at t mode s.clock) r (record { at = λ i. le_refl _ }))
