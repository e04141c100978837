-- Laws of inputs taken in turn: how many answers, two lists one after the other, parts of a list, and what two runs have in common.
use Prim.Native.Nat.{ℕ, zero, suc}
use mathlib.Core.Path.{◌≡◌, refl, ap, ap₂}
use mathlib.Core.List.{List, [], ◌∷◌, ◌++◌, map}
use lib.ListN.{length, take, drop}
use Rattle.basis.specs.Turns.{in_turn, after}

module _ {I S O : Type 0} (f : I → S → O) (next : O → S) where
  -- One answer for each input.
  pub turns-length : (is : List I) (s : S) → length (in_turn f next is s) ≡ length is
  unfolding in_turn
  turns-length [] s = refl
  turns-length (i ∷ is) s = ap (λ (n : ℕ). suc n) (turns-length is _)

  -- Two lists one after the other: the second starts where the first ended.
  pub turns_join : (is js : List I) (s : S) → in_turn f next (is ++ js) s ≡ in_turn f next is s ++ in_turn f next js (after f next is s)
  unfolding in_turn after
  turns_join [] js s = refl
  turns_join (i ∷ is) js s = ap (λ (os : List O). f i s ∷ os) (turns_join is js _)

  pub after_join : (is js : List I) (s : S) → after f next (is ++ js) s ≡ after f next js (after f next is s)
  unfolding after
  after_join [] js s = refl
  after_join (i ∷ is) js s = after_join is js _

  -- The answers to the first n inputs, and to those from place n on.
  pub turns-take : (n : ℕ) (is : List I) (s : S) → take n (in_turn f next is s) ≡ in_turn f next (take n is) s
  unfolding in_turn
  turns-take zero is s = refl
  turns-take (suc n) [] s = refl
  turns-take (suc n) (i ∷ is) s = ap (λ (os : List O). f i s ∷ os) (turns-take n is _)

  pub turns-drop : (n : ℕ) (is : List I) (s : S) → drop n (in_turn f next is s) ≡ in_turn f next (drop n is) (after f next (take n is) s)
  unfolding in_turn after
  turns-drop zero is s = refl
  turns-drop (suc n) [] s = refl
  turns-drop (suc n) (i ∷ is) s = turns-drop n is _

  -- What a state has and each turn keeps, the state after all has.
  pub after_keeps : (P : S → Type 0) → ((i : I) (s : S) → P s → P (next (f i s))) → (is : List I) (s : S) → P s → P (after f next is s)
  unfolding after
  after_keeps P keep [] s p = p
  after_keeps P keep (i ∷ is) s p = after_keeps P keep is _ (keep i s p)

-- The answers of one run, seen through a map, are those of another where each turn gives the same from states that a relation joins.
module _ {I S O J Z Q A : Type 0} (f : I → S → O) (next : O → S) (g : J → Z → Q) (then : Q → Z) (see : O → A) (look : Q → A)
    (R : S → Z → Type 0) (E : I → J) (same : (i : I) (s : S) (z : Z) → R s z → (see (f i s) ≡ look (g (E i) z)) × R (next (f i s)) (then (g (E i) z))) where
  pub turns_same : (is : List I) (s : S) (z : Z) → R s z → map see (in_turn f next is s) ≡ map look (in_turn g then (map E is) z)
  unfolding in_turn
  turns_same [] s z r = refl
  turns_same (i ∷ is) s z r = let h = same i s z r in ap₂ ◌∷◌ h.0 (turns_same is _ _ h.1)
