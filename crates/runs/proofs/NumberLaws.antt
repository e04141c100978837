-- Each number that refuses a run is given exactly when its row holds, by asking the tests in turn; what holds where none is given.
use Prim.Native.Nat.{ℕ, ◌≤◌}
use mathlib.Core.Path.{◌≡◌}
use mathlib.Core.Bool.{true}
use mathlib.Core.Logic.{◌↔◌}
use native.Mathlib.Omega.{arith}
use borrow.Author.Tests.{leb-true, leb-false, le-leb, lt-leb}
use lib.ListN.{length}
use lib.Dec.{leb}
use Rattle.basis.specs.Tests.{pick}
use Rattle.basis.proofs.TestLaws.{by_test}
use Rattle.basis.proofs.BackLaws.{exactly_by, row_here}
use Rattle.table.specs.Legal.{legal, Sized, Legal}
use Rattle.table.specs.declared.Table.{Table}
use Rattle.table.proofs.LegalLaws.{legal_sound}
use Rattle.state.specs.State.{fits, Fits}
use Rattle.state.specs.declared.State.{State}
use Rattle.state.proofs.FitLaws.{fits_sound}
use Rattle.frame.specs.Mode.{Mode, mode_ok}
use Rattle.runs.specs.Playing.{run_refusal}
use Rattle.runs.specs.Numbered.{RunNumbered, not-legal, bad-frame, not-fitting, no_room, starts}

module _ (t : Table) (mode : Mode) (s : State) (steps room : ℕ) where
  abbrev number : ℕ
  number = run_refusal t mode s steps room

  pub number_only : {n : ℕ} → RunNumbered t mode s steps room n → number ≡ n
  unfolding run_refusal pick
  number_only (not-legal l) = rw l
  number_only (bad-frame l o) = rw (l, o)
  number_only (not-fitting l o f) = rw (l, o, f)
  number_only (no_room l o f h) = rw (l, o, f, lt-leb steps room h)
  number_only (starts l o f h) = rw (l, o, f, le-leb steps room h)

  here : {n : ℕ} → RunNumbered t mode s steps room n → RunNumbered t mode s steps room number
  here r = row_here (RunNumbered t mode s steps room) r (number_only r)

  number-given : RunNumbered t mode s steps room number
  number-given =
      by_test (legal t)
      (λ l. by_test (mode_ok t mode)
      (λ o. by_test (fits t s)
      (λ f. by_test (leb steps room) (λ h. here (starts l o f (leb-true _ _ h))) (λ h. here (no_room l o f (leb-false _ _ h))))
      (λ f. here (not-fitting l o f)))
      (λ o. here (bad-frame l o)))
      (λ l. here (not-legal l))

  pub run_number_exactly : (n : ℕ) → (number ≡ n) ↔ RunNumbered t mode s steps room n
  run_number_exactly = exactly_by (RunNumbered t mode s steps room) number-given (λ n r. number_only r)

-- What a run that none refuses has.
pub record Ready (t : Table) (mode : Mode) (s : State) (steps room : ℕ) : Type 0 where
  pub lawful : Legal t
  pub moded : mode_ok t mode ≡ true
  pub fitting : Fits t s
  pub roomy : steps ≤ room

module _ (t : Table) (mode : Mode) (s : State) (steps room : ℕ) (sized : Sized t) (long : length s.threads ≡ 32) where
  ready_by : {n : ℕ} → RunNumbered t mode s steps room n → n ≡ 0 → Ready t mode s steps room
  ready_by (not-legal l) e = absurd (omega arith)
  ready_by (bad-frame l o) e = absurd (omega arith)
  ready_by (not-fitting l o f) e = absurd (omega arith)
  ready_by (no_room l o f h) e = absurd (omega arith)
  ready_by (starts l o f h) e =
      let g : Legal t = legal_sound t sized l in
      record { lawful = g; moded = o; fitting = fits_sound t s g.count_high long f; roomy = h }

  pub ready : run_refusal t mode s steps room ≡ 0 → Ready t mode s steps room
  ready e = ready_by (number-given t mode s steps room) e
