-- Text in a buffer: pieces put one after the other into a text of 64 bytes, and that text laid into a buffer whole or not at all.
use Prim.Native.Nat.{ℕ, ◌+◌, ◌≤◌, ◌<◌}
use mathlib.Core.Path.{◌≡◌, ap, sym, ◌∙◌}
use mathlib.Core.List.{List, [], ◌∷◌}
use native.Mathlib.Omega.{arith}
use Rattle.std.specs.Prelude.{Result}
use lib.ListN.{length, take, drop}
use lib.Seq.{sets-eq, take_at}
use lib.Dec.{leb}
use borrow.Author.Tests.{le-leb, lt-leb, leb-true}
use Rattle.basis.specs.Tests.{pick}
use Rattle.basis.specs.Told.{Told, answered, refused}
use Rattle.basis.specs.declared.refusal.Refusal.{Refusal}
use Rattle.basis.proofs.TestLaws.{by_test}
use Rattle.basis.proofs.RefusalLaws.{number-apart}
use Rattle.writer.specs.Buffer.{Room, Put}
use Rattle.writer.specs.Writer.{Laid}
use Rattle.writer.proofs.WriterLaws.{put-length, put-overlaid, overlaid_laid}
use Rattle.report.specs.Printing.{told, printing, printed}

-- A buffer has room for ys behind xs where it is long enough for both.
pub room_behind : {b : List ℕ} {at : ℕ} {b' : List ℕ} {k : ℕ} {xs : List ℕ} (ys : List ℕ) →
    Put b at b' k xs → at + length xs + length ys ≤ length b → Room b' k ys
room_behind ys f h = record { fits = omega (arith, f.end, put-length f) }

-- A text that was put from the start on stands there.
pub text-put : {b b' : List ℕ} {k : ℕ} {xs : List ℕ} → Put b 0 b' k xs → length xs ≤ length b → take k b' ≡ xs
text-put {b} {b'} {k} {xs} f h =
    let e : k ≡ length xs = omega (arith, f.end) in
    rw (f.holds, sets-eq xs b 0 (omega arith)) (take_at xs (drop (0 + length xs) b) k (sym e))

-- What is answered, and what the buffer then holds.
module _ (b : List ℕ) (at : ℕ) (text : List ℕ) where
  pub print_short : length b < at + length text → (refused 16 ≡ printing b at text) × (b ≡ printed b at text)
  unfolding printing printed pick
  print_short h = let l = lt-leb (at + length text) (length b) h in (rw l, rw l)

  pub print_done : {b' : List ℕ} {k : ℕ} → at + length text ≤ length b → Put b at b' k text →
      (answered (k ∷ []) ≡ printing b at text) × (b' ≡ printed b at text)
  unfolding printing printed pick
  print_done h f = let l = le-leb (at + length text) (length b) h in (rw (l, f.end), rw l (put-overlaid f h))

  -- An answered line stands from its place up to the place told, and all other bytes are as they were.
  pub printed_laid : (next : ℕ) → printing b at text ≡ answered (next ∷ []) → Laid b at next text (printed b at text)
  unfolding printing printed pick
  printed_laid next e =
      by_test (leb (at + length text) (length b))
      (λ m. let f : answered ((at + length text) ∷ []) ≡ answered (next ∷ []) = rw m at e in
      let v = ap (λ (w : Told). w.values) f in
      let q : at + length text ≡ next = cc in
      rw (m, ← q) (overlaid_laid b at text (leb-true _ _ m)))
      (λ m. let f : refused 16 ≡ answered (next ∷ []) = rw m at e in
      let q : ◌≡◌ {A = ℕ} 16 0 = ap (λ (x : Told). x.number) f in absurd (omega arith))

  -- A refused line left every byte as it was.
  pub print_refused_stays : 0 < (printing b at text).number → printed b at text ≡ b
  unfolding printing printed pick
  print_refused_stays h =
      by_test (leb (at + length text) (length b)) (λ m. let z : 0 < 0 = rw m at h in absurd (omega arith)) (λ m. rw m)

-- No second answer and no second final buffer fit a line.
pub print_unique : (text b : List ℕ) (at : ℕ) (a a' : Result ℕ Refusal) (c c' : List ℕ) →
    (told a ≡ printing b at text) × (c ≡ printed b at text) → (told a' ≡ printing b at text) × (c' ≡ printed b at text) → (a ≡ a') × (c ≡ c')
print_unique text b at a a' c c' p q = (number-apart a a' (p.0 ∙ sym q.0), p.1 ∙ sym q.1)
