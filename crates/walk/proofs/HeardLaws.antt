-- Bytes that are not heard change nothing: along the walk, a visit either passes without its byte or hears the same one.
use Prim.Native.Nat.{ℕ}
use mathlib.Core.Path.{◌≡◌, refl, sym, ◌∙◌}
use mathlib.Core.List.{List, [], ◌∷◌}
use mathlib.Core.Bool.{Bool, true, false}
use lib.ListN.{get_or}
use lib.Dec.{eqb}
use Rattle.basis.specs.Tests.{pick}
use Rattle.basis.proofs.TestLaws.{both_ways}
use Rattle.table.specs.Mark.{Mark}
use Rattle.state.specs.declared.State.{State}
use Rattle.walk.specs.declared.Answer.TheVariants.{Idle}
use Rattle.state.specs.State.{progress}
use Rattle.order.specs.Order.{All}
use Rattle.walk.specs.Walk.{walked, visit, chosen, walk}
use Rattle.walk.specs.Heard.{heard_by, Alike}

-- A thread with a rest of 0 is passed, whatever its byte.
pub visit-passes : (m : List Mark) (b i : ℕ) (s : State) → eqb (progress s i).rest 0 ≡ true → visit m b i s ≡ walked Idle s
unfolding visit pick
visit-passes m b i s e = rw e

walk-passes : (m : List Mark) (bs : List ℕ) (i : ℕ) (is : List ℕ) (s : State) → eqb (progress s i).rest 0 ≡ true → walk m bs (i ∷ is) s ≡ walk m bs is s
unfolding walk pick
walk-passes m bs i is s e = rw (visit-passes m (get_or bs i 0) i s e)

module _ (m : List Mark) (bs cs : List ℕ) where
  -- the visits are the same where the bytes are, and the walk stops or goes on with both
  heard_turn : (i : ℕ) (is : List ℕ) (s : State) → get_or bs i 0 ≡ get_or cs i 0
      → ((z : State) → Alike bs cs (heard_by m bs is z) → walk m bs is z ≡ walk m cs is z)
      → (b : Bool) → chosen (visit m (get_or bs i 0) i s).answer ≡ b
      → Alike bs cs (pick b [] (heard_by m bs is (visit m (get_or bs i 0) i s).state)) → walk m bs (i ∷ is) s ≡ walk m cs (i ∷ is) s
  unfolding walk pick
  heard_turn i is s q on true e h = rw (← q, e)
  heard_turn i is s q on false e h = rw (← q, e) (on _ h)

  turn : (i : ℕ) (is : List ℕ) (s : State) → ((z : State) → Alike bs cs (heard_by m bs is z) → walk m bs is z ≡ walk m cs is z)
      → (b : Bool) → eqb (progress s i).rest 0 ≡ b → Alike bs cs (heard_by m bs (i ∷ is) s) → walk m bs (i ∷ is) s ≡ walk m cs (i ∷ is) s
  unfolding heard_by pick
  turn i is s on true e h = walk-passes m bs i is s e ∙ on s (rw e at h) ∙ sym (walk-passes m cs i is s e)
  turn i is s on false e h =
      let k : Alike bs cs (i ∷ pick (chosen (visit m (get_or bs i 0) i s).answer) [] (heard_by m bs is (visit m (get_or bs i 0) i s).state)) = rw e at h in
      heard_turn i is s k.0 on _ refl k.1

  pub walk_hears : (is : List ℕ) (s : State) → Alike bs cs (heard_by m bs is s) → walk m bs is s ≡ walk m cs is s
  unfolding walk
  walk_hears [] s h = refl
  walk_hears (i ∷ is) s h = turn i is s (walk_hears is) _ refl h

-- Only threads of the list are heard: bytes that are alike for all of them are alike where they are heard.
pub alike_heard : (m : List Mark) (bs cs is : List ℕ) (s : State) → All (λ i. get_or bs i 0 ≡ get_or cs i 0) is → Alike bs cs (heard_by m bs is s)
unfolding heard_by
alike_heard m bs cs [] s h = tt
alike_heard m bs cs (i ∷ is) s h =
    both_ways (Alike bs cs) _ _ _ (alike_heard m bs cs is s h.1)
    (h.0, both_ways (Alike bs cs) _ _ _ tt (alike_heard m bs cs is _ h.1))
