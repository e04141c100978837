-- Demand 2: both round trips, from the one statement that a table is accepted exactly from its own bytes.
use Prim.Native.Nat.{ℕ, ◌+◌, ◌≤◌}
use mathlib.Core.Path.{◌≡◌, refl, ap}
use mathlib.Core.Bool.{true}
use mathlib.Core.Logic.{◌↔◌}
use mathlib.Core.List.{List, [], ◌∷◌}
use native.Mathlib.Omega.{arith}
use lib.ListN.{length, take, drop}
use lib.Dec.{leb}
use borrow.Author.Tests.{le-leb}
use Rattle.basis.specs.Tests.{pick}
use Rattle.basis.specs.Told.{Told, answered, refused}
use Rattle.basis.proofs.TestLaws.{by_test}
use Rattle.table.specs.Legal.{legal, Sized, Legal}
use Rattle.table.specs.declared.Table.{Table}
use Rattle.table.proofs.LegalLaws.{legal_sound, legal_complete}
use Rattle.writer.specs.Format.{bytes}
use Rattle.reader.specs.Reader.{accepted, reading}
use Rattle.writer.specs.Writer.{overlaid, writing, written}
use Rattle.writer.proofs.WriterLaws.{written_laid}
use Rattle.numeral.specs.NumberRules.{Bytes}
use Rattle.codec.proofs.Sound.{sound}
use Rattle.codec.proofs.Complete.{complete}

-- `read` accepts t from s exactly when t is legal and s is the bytes of t.
pub accepted_exactly : (s : List ℕ) → Bytes s → (t : Table) → (reading s ≡ accepted t) ↔ (Legal t × (s ≡ bytes t))
accepted_exactly s hs t = (λ e. let r = sound s hs t e in (r.1, r.0), λ p. complete s t p.0 p.1)

-- Reading accepted bytes and writing the table gives the same bytes, wherever there is room for them.
pub read_write : (s : List ℕ) → Bytes s → (t : Table) → reading s ≡ accepted t → (b : List ℕ) (at : ℕ) → at + length s ≤ length b →
    (writing b at t ≡ answered ((at + length s) ∷ [])) × (written b at t ≡ overlaid b at s)
unfolding writing written pick
read_write s hs t e b at h =
    let r = sound s hs t e in
    let l : leb (at + length (bytes t)) (length b) ≡ true = rw (← r.0) (le-leb _ _ h) in
    (rw (legal_complete t r.1, l, ← r.0), rw (legal_complete t r.1, l, ← r.0))

-- Writing a legal table and reading what was written gives the same table.
pub write_read : (t : Table) → Sized t → (b : List ℕ) (at next : ℕ) → writing b at t ≡ answered (next ∷ []) →
    reading (drop at (take next (written b at t))) ≡ accepted t
unfolding writing pick
write_read t z b at next e =
    by_test (legal t) (λ l. rw (written_laid b at t next e).part (complete (bytes t) t (legal_sound t z l) refl))
    (λ l. let f : refused 11 ≡ answered (next ∷ []) = rw l at e in
    let n = ap (λ (w : Told). w.number) f in absurd (omega arith))
