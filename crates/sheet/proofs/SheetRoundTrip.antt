-- Both round trips of the comma form, from the one statement that a table is accepted exactly from its own text.
use Prim.Native.Nat.{ℕ, ◌+◌, ◌≤◌}
use mathlib.Core.Path.{◌≡◌, ap}
use mathlib.Core.Bool.{true}
use mathlib.Core.List.{List, [], ◌∷◌}
use lib.ListN.{length, take, drop}
use lib.Dec.{leb}
use borrow.Author.Tests.{le-leb}
use Rattle.basis.specs.Tests.{pick}
use Rattle.basis.specs.Told.{Told, answered}
use Rattle.table.specs.Legal.{Sized}
use Rattle.table.specs.declared.Table.{Table}
use Rattle.table.proofs.LegalLaws.{legal_sound, legal_complete}
use Rattle.reader.specs.Reader.{accepted}
use Rattle.writer.specs.Writer.{overlaid}
use Rattle.sheet.specs.Text.{text}
use Rattle.sheet.specs.Sheet.{sheet_reading}
use Rattle.sheet.specs.SheetWriter.{sheet_writing, sheet_written}
use Rattle.sheet.proofs.SheetWriterLaws.{written_so, sheet_laid}
use Rattle.sheet.proofs.SheetAccepted.{sheet_accepted_exactly}

-- Reading an accepted text and writing the table gives the same text, wherever there is room for it.
pub sheet_read_write : (s : List ℕ) (t : Table) → sheet_reading s ≡ accepted t → (b : List ℕ) (at : ℕ) → at + length s ≤ length b →
    (sheet_writing b at t ≡ answered ((at + length s) ∷ [])) × (sheet_written b at t ≡ overlaid b at s)
unfolding sheet_writing sheet_written pick
sheet_read_write s t e b at h =
    let r = (sheet_accepted_exactly s t).0 e in
    let l : leb (at + length (text t)) (length b) ≡ true = rw (← r.1) (le-leb _ _ h) in
    (rw (legal_complete t r.0, l, ← r.1), rw (legal_complete t r.0, l, ← r.1))

-- Writing a legal table and reading what was written gives the same table.
pub sheet_write_read : (t : Table) → Sized t → (b : List ℕ) (at next : ℕ) → sheet_writing b at t ≡ answered (next ∷ []) →
    sheet_reading (drop at (take next (sheet_written b at t))) ≡ accepted t
sheet_write_read t z b at next e =
    let l = (written_so b at t (ap (λ (o : Told). o.number) e)).0 in
    (sheet_accepted_exactly (drop at (take next (sheet_written b at t))) t).1 (legal_sound t z l, (sheet_laid b at t next e).part)
