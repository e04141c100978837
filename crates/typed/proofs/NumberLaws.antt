-- A word is spelt character by character.
use Prim.Native.Nat.{ℕ, ◌+◌, ◌≤◌, ◌<◌}
use mathlib.Core.Path.{◌≡◌, refl, sym, ap}
use mathlib.Core.List.{List}
use lib.ListN.{length, get_or, drop, drop_of_length-le}
use Rattle.basis.proofs.ListLaws.{drop-some}
use Rattle.typed.specs.Fields.{Field, taken}
use Rattle.typed.specs.Numbers.{spelt}

module _ (f : Field) (s : List ℕ) (i : ℕ) where
  pub spelt_next : {g : Field} → g ≡ taken f (get_or s i 0) → i < length s → spelt f (drop i s) ≡ spelt g (drop (i + 1) s)
  unfolding spelt
  spelt_next {g} e h = rw (drop-some s i (get_or s i 0) refl h) (ap (λ (x : Field). spelt x (drop (i + 1) s)) (sym e))

  pub spelt_end : length s ≤ i → spelt f (drop i s) ≡ f
  unfolding spelt
  spelt_end h = rw (drop_of_length-le s h)
