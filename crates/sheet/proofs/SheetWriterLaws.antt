-- Writing the comma form: each number is given exactly in its row, what is written is the text and all else stays, and no second result fits.
use Prim.Native.Nat.{ℕ, ◌+◌, ◌≤◌, ◌<◌}
use mathlib.Core.Path.{◌≡◌, ap, sym, ◌∙◌}
use mathlib.Core.Logic.{◌↔◌}
use mathlib.Core.Bool.{true, false}
use mathlib.Core.List.{List, [], ◌∷◌}
use native.Mathlib.Omega.{arith}
use lib.ListN.{length}
use lib.Dec.{leb}
use borrow.Author.Tests.{le-leb, lt-leb, leb-true, leb-false}
use Rattle.std.specs.Prelude.{Result}
use Rattle.basis.specs.Tests.{pick}
use Rattle.basis.specs.Told.{Told, answered, refused}
use Rattle.basis.proofs.TestLaws.{by_test}
use Rattle.basis.specs.declared.refusal.Refusal.{Refusal}
use Rattle.basis.proofs.RefusalLaws.{number-apart}
use Rattle.basis.proofs.BackLaws.{exactly_by, row_here}
use Rattle.table.specs.Legal.{legal}
use Rattle.table.specs.declared.Table.{Table}
use Rattle.writer.specs.Buffer.{Put}
use Rattle.writer.specs.Writer.{told, Laid}
use Rattle.writer.proofs.WriterLaws.{put-overlaid, overlaid_laid}
use Rattle.sheet.specs.Text.{text}
use Rattle.sheet.specs.SheetWriter.{sheet_writing, sheet_written, SheetNumbered, not-legal, no_room, writes}

module _ (b : List ℕ) (at : ℕ) (t : Table) where
  -- what is answered, and what the buffer then holds, in the three cases
  pub told-bad : legal t ≡ false → (refused 11 ≡ sheet_writing b at t) × (b ≡ sheet_written b at t)
  unfolding sheet_writing sheet_written pick
  told-bad e = (rw e, rw e)

  pub told-short : legal t ≡ true → length b < at + length (text t) → (refused 16 ≡ sheet_writing b at t) × (b ≡ sheet_written b at t)
  unfolding sheet_writing sheet_written pick
  told-short e h = let l = lt-leb (at + length (text t)) (length b) h in (rw (e, l), rw (e, l))

  pub told_done : {b' : List ℕ} {k : ℕ} → legal t ≡ true → at + length (text t) ≤ length b → Put b at b' k (text t)
      → (answered (k ∷ []) ≡ sheet_writing b at t) × (b' ≡ sheet_written b at t)
  unfolding sheet_writing sheet_written pick
  told_done e h f =
      let l = le-leb (at + length (text t)) (length b) h in
      (rw (e, l, f.end), rw (e, l) (put-overlaid f h))

  sheet_only : {n : ℕ} → SheetNumbered b at t n → (sheet_writing b at t).number ≡ n
  unfolding sheet_writing pick
  sheet_only (not-legal l) = rw l
  sheet_only (no_room l h) = rw (l, lt-leb _ _ h)
  sheet_only (writes l h) = rw (l, le-leb _ _ h)

  here : {n : ℕ} → SheetNumbered b at t n → SheetNumbered b at t (sheet_writing b at t).number
  here r = row_here (SheetNumbered b at t) r (sheet_only r)

  sheet_given : SheetNumbered b at t (sheet_writing b at t).number
  sheet_given =
      by_test (legal t)
      (λ l. by_test (leb (at + length (text t)) (length b)) (λ h. here (writes l (leb-true _ _ h))) (λ h. here (no_room l (leb-false _ _ h))))
      (λ l. here (not-legal l))

  -- Each number is given exactly when its row holds.
  pub sheet_number_exactly : (n : ℕ) → ((sheet_writing b at t).number ≡ n) ↔ SheetNumbered b at t n
  sheet_number_exactly = exactly_by (SheetNumbered b at t) sheet_given (λ n r. sheet_only r)

  -- Where nothing is refused the table is legal, and there is room for its text.
  written_by : {n : ℕ} → SheetNumbered b at t n → n ≡ 0 → (legal t ≡ true) × (at + length (text t) ≤ length b)
  written_by (not-legal l) z = absurd (omega arith)
  written_by (no_room l h) z = absurd (omega arith)
  written_by (writes l h) z = (l, h)

  pub written_so : (sheet_writing b at t).number ≡ 0 → (legal t ≡ true) × (at + length (text t) ≤ length b)
  written_so z = written_by sheet_given z

  -- An answered writing left the text of its table from its place up to the place told, and all other bytes as they were.
  pub sheet_laid : (next : ℕ) → sheet_writing b at t ≡ answered (next ∷ []) → Laid b at next (text t) (sheet_written b at t)
  unfolding sheet_writing sheet_written pick
  sheet_laid next e =
      let p = written_so (ap (λ (o : Told). o.number) e) in
      let m = le-leb (at + length (text t)) (length b) p.1 in
      let f : answered ((at + length (text t)) ∷ []) ≡ answered (next ∷ []) = rw (p.0, m) at e in
      let v = ap (λ (w : Told). w.values) f in
      let q : at + length (text t) ≡ next = cc in
      rw (p.0, m, ← q) (overlaid_laid b at (text t) p.1)

  -- A refused writing left every byte as it was.
  pub sheet_stays : 0 < (sheet_writing b at t).number → sheet_written b at t ≡ b
  unfolding sheet_writing sheet_written pick
  sheet_stays h =
      by_test (legal t)
      (λ l. by_test (leb (at + length (text t)) (length b)) (λ m. let z : 0 < 0 = rw (l, m) at h in absurd (omega arith)) (λ m. rw (l, m))) (λ l. rw l)

  -- No second answer and no second final buffer fit `write`.
  pub sheet_write_unique : (a a' : Result ℕ Refusal) (c c' : List ℕ) →
      (told a ≡ sheet_writing b at t) × (c ≡ sheet_written b at t) → (told a' ≡ sheet_writing b at t) × (c' ≡ sheet_written b at t) → (a ≡ a') × (c ≡ c')
  sheet_write_unique a a' c c' p q = (number-apart a a' (p.0 ∙ sym q.0), p.1 ∙ sym q.1)
