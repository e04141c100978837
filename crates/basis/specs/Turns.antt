-- Inputs taken in turn, each with the state that the one before it handed back.
use Rattle.std.specs.Prelude.{List, [], ◌∷◌}

-- What each input gives: f takes an input and a state, and next is the state in what it gives.
unfoldable pub in_turn : {I S O : Type 0} → (I → S → O) → (O → S) → List I → S → List O
in_turn f next [] s = []
in_turn f next (i ∷ is) s = f i s ∷ in_turn f next is (next (f i s))

-- The state after all of them.
unfoldable pub after : {I S O : Type 0} → (I → S → O) → (O → S) → List I → S → S
after f next [] s = s
after f next (i ∷ is) s = after f next is (next (f i s))
