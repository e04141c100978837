-- The reader answers exactly what the rules say: its answer is a judgment, and there is one only.
use mathlib.Core.Path.{◌≡◌, subst}
use mathlib.Core.List.{List}
use mathlib.Core.Logic.{◌↔◌}
use Prim.Native.Nat.{ℕ}
use Rattle.basis.specs.Told.{Told}
use Rattle.reader.specs.Reader.{reading}
use Rattle.codec.specs.Judging.{Judgment}
use Rattle.numeral.specs.NumberRules.{Bytes}
use Rattle.codec.proofs.JudgedSound.{judged}
use Rattle.codec.proofs.JudgedOnce.{judged-once}

pub judged_exactly : (s : List ℕ) → Bytes s → (o : Told) → ((reading s).told ≡ o) ↔ Judgment s o
judged_exactly s hs o =
    (λ e. subst (λ (t : Told). Judgment s t) e (judged s hs), λ j. judged-once s (reading s).told o (judged s hs) j)
