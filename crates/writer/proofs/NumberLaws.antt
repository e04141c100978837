-- Each number of the writer is given exactly when its row holds, by asking the tests in turn.
use Prim.Native.Nat.{ℕ, ◌+◌}
use mathlib.Core.Path.{◌≡◌}
use mathlib.Core.List.{List}
use mathlib.Core.Logic.{◌↔◌}
use lib.ListN.{length}
use lib.Dec.{leb}
use borrow.Author.Tests.{leb-true, leb-false, le-leb, lt-leb}
use Rattle.basis.specs.Tests.{pick}
use Rattle.basis.proofs.TestLaws.{by_test}
use Rattle.basis.proofs.BackLaws.{exactly_by, row_here}
use Rattle.table.specs.Legal.{legal}
use Rattle.table.specs.declared.Table.{Table}
use Rattle.writer.specs.Format.{bytes}
use Rattle.writer.specs.Writer.{writing}
use Rattle.writer.specs.Numbered.{WriteNumbered, not-legal, no_room, writes}

module _ (b : List ℕ) (at : ℕ) (t : Table) where
  write_only : {n : ℕ} → WriteNumbered b at t n → (writing b at t).number ≡ n
  unfolding writing pick
  write_only (not-legal l) = rw l
  write_only (no_room l h) = rw (l, lt-leb _ _ h)
  write_only (writes l h) = rw (l, le-leb _ _ h)

  here : {n : ℕ} → WriteNumbered b at t n → WriteNumbered b at t (writing b at t).number
  here r = row_here (WriteNumbered b at t) r (write_only r)

  write_given : WriteNumbered b at t (writing b at t).number
  write_given =
      by_test (legal t)
      (λ l. by_test (leb (at + length (bytes t)) (length b)) (λ h. here (writes l (leb-true _ _ h))) (λ h. here (no_room l (leb-false _ _ h))))
      (λ l. here (not-legal l))

  pub write_number_exactly : (n : ℕ) → ((writing b at t).number ≡ n) ↔ WriteNumbered b at t n
  write_number_exactly = exactly_by (WriteNumbered b at t) write_given (λ n r. write_only r)
