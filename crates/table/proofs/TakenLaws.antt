-- A list of 256 tests keeps which priorities the first threads have.
use Prim.Native.Nat.{ℕ, ◌+◌, ◌<◌}
use mathlib.Core.Path.{◌≡◌, refl, sym, ◌∙◌}
use mathlib.Core.Bool.{Bool, true, false}
use mathlib.Core.List.{List}
use native.Mathlib.Omega.{arith}
use native.Mathlib.Numerals.{add-one}
use lib.ListN.{length, get_or, set, replicate, length-set, length-replicate}
use lib.Seq.{get_or-set_same, get_or-set_other}
use lib.Dec.{eqb}
use borrow.Author.Tests.{eqb-true, eqb-false}
use Rattle.basis.specs.Tests.{or, some}
use Rattle.basis.proofs.TestLaws.{by_test, some-none, some_hit}
use Rattle.basis.proofs.ListLaws.{all_alike}
use Rattle.table.specs.Threads.{none}
use Rattle.table.specs.Legal.{taken}
use Rattle.table.specs.declared.Thread.{Thread}

-- The tests of the priorities of the first i threads.
pub record Kept (ths : List Thread) (i : ℕ) (tests : List Bool) : Type 0 where
  pub long : length tests ≡ 256
  pub at : (p : ℕ) → p < 256 → get_or tests p false ≡ taken ths i p

pub kept-none : (ths : List Thread) → Kept ths 0 (replicate 256 false)
unfolding taken
kept-none ths = record { long = length-replicate 256 false; at = λ p h. all_alike 256 p false ∙ sym (some-none _) }

or_nothing : (b : Bool) → or b false ≡ b
or_nothing true = refl
or_nothing false = refl

some_over : (f : ℕ → Bool) (i : ℕ) → f i ≡ false → some (i + 1) f ≡ some i f
unfolding some
some_over f i e = rw (add-one, e) (or_nothing (some i f))

pub kept_next : (ths : List Thread) (i : ℕ) (tests : List Bool) → Kept ths i tests → (get_or ths i none).priority < 256
    → Kept ths (i + 1) (set tests (get_or ths i none).priority true)
unfolding taken
kept_next ths i tests k h =
    let q : ℕ = (get_or ths i none).priority in
    record {
      long = length-set tests q true ∙ k.long;
      at = λ p l. by_test (eqb q p)
          (λ e. rw (← eqb-true q p e) (get_or-set_same tests q true false (rw k.long h)) ∙ sym (some_hit _ i (i + 1) e (omega arith)))
          (λ e. get_or-set_other tests q p true false (λ x. eqb-false q p e (sym x)) ∙ k.at p l ∙ sym (some_over _ i e));
    }
