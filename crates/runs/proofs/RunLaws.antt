-- A run by the number that refuses it: none of it, or what single calls make.
use Prim.Native.Nat.{ℕ}
use mathlib.Core.Path.{◌≡◌, sym, ◌∙◌, ap}
use mathlib.Core.List.{List}
use borrow.Author.Tests.{ne_eqb}
use lib.ListN.{length}
use Rattle.basis.specs.Tests.{pick}
use Rattle.table.specs.declared.Table.{Table}
use Rattle.state.specs.State.{Fits}
use Rattle.state.specs.declared.State.{State}
use Rattle.frame.specs.Mode.{Mode}
use Rattle.runs.specs.Playing.{Played, whole_steps, run_refusal, run_number, refused_run, ran}
use Rattle.runs.specs.Stopping.{Plays}
use Rattle.runs.proofs.OneLaws.{plays_only}

module _ (t : Table) (mode : Mode) (masks bs : List ℕ) (s : State) (part : List ℕ) where
  -- By the steps and the number that the code has.
  module _ (steps why : ℕ) (e : steps ≡ whole_steps t masks bs) (g : why ≡ run_refusal t mode s steps (length part)) where
    numbered : run_number t mode masks bs s part ≡ why
    numbered = ap (λ (n : ℕ). run_refusal t mode s n (length part)) (sym e) ∙ sym g

    pub ran-refused : (why ≡ 0 → ⊥) → refused_run why s part ≡ ran t mode masks bs s part
    unfolding ran pick
    ran-refused d = rw (numbered, ne_eqb why 0 d)

    pub ran-made : why ≡ 0 → Fits t s → (r : Played) (part' : List ℕ) → Plays t mode s masks bs part r part' → (r, part') ≡ ran t mode masks bs s part
    unfolding ran pick
    ran-made z f r part' p = rw (numbered ∙ z) (plays_only t mode s f masks bs part r part' p)
