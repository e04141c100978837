-- A table is accepted exactly from its own text: the numbers of a text that is read are those that the byte form reads to the same table.
use Prim.Native.Nat.{ℕ, ◌<◌}
use mathlib.Core.Path.{◌≡◌, refl, ap, sym, ◌∙◌, subst}
use mathlib.Core.Bool.{false}
use mathlib.Core.List.{List, []}
use mathlib.Core.Logic.{◌↔◌}
use native.Mathlib.Omega.{arith}
use lib.ListN.{length, take}
use lib.Seq.{take-length}
use Rattle.basis.specs.Told.{Told, answered}
use Rattle.table.specs.Legal.{Legal}
use Rattle.table.specs.declared.Table.{Table}
use Rattle.numeral.specs.Number.{Number}
use Rattle.numeral.specs.Number.{Refused}
use Rattle.numeral.specs.Number.{number_at, encode_all}
use Rattle.numeral.specs.NumberRules.{Bytes, NoNumber}
use Rattle.numeral.proofs.NumberLaws.{ToldWhy, number_why}
use Rattle.numeral.proofs.RuleLaws.{number_exactly}
use Rattle.reader.specs.Reader.{Read, accepted, reading}
use Rattle.reader.proofs.ReaderLaws.{accepted-plain}
use Rattle.writer.specs.Format.{numbers, bytes}
use Rattle.codec.specs.Judging.{wanted, Before, place, Judgment, no_number, objected, extra, all_read}
use Rattle.codec.proofs.JudgingLaws.{judged_exactly}
use Rattle.codec.proofs.RoundTrip.{accepted_exactly}
use Rattle.sheet.specs.Text.{text, text_of}
use Rattle.sheet.specs.Sheet.{table_by, judged_text, sheet_reading}
use Rattle.sheet.specs.SheetJudging.{SheetBefore}
use Rattle.sheet.proofs.EncodeLaws.{Low, bytes-all, encode-all_same}
use Rattle.sheet.proofs.LegalNumbers.{numbers_low, legal-bytes}
use Rattle.sheet.proofs.TextNumbers.{text-numbers}
use Rattle.sheet.proofs.ByteVerdicts.{Passing, passing_before, before_low, all_pass}
use Rattle.sheet.proofs.SheetJudged.{AllRead}
use Rattle.sheet.proofs.SheetReaderLaws.{sheet_accepted, all_read_by}

-- All of the text is the text of its numbers.
text-whole : {s vs : List ℕ} → AllRead s vs → s ≡ text_of vs
text-whole {s} {vs} a = sym (take-length s) ∙ subst (λ (n : ℕ). take n s ≡ text_of vs) (sym a.long) a.before.begins

-- The byte form accepts the numbers of a text that is all read.
record Both (vs : List ℕ) : Type 0 where
  lawful : Legal (table_by vs)
  same : vs ≡ numbers (table_by vs)

both_read : {s vs : List ℕ} → AllRead s vs → Both vs
unfolding table_by bytes
both_read {s} {vs} a =
    let b : List ℕ = encode_all vs in
    let p : Passing vs = passing_before a.before in
    let low : Low vs = before_low p in
    let e : reading b ≡ accepted (reading b).table = accepted-plain b (ap (λ (o : Told). o.number) (all_pass vs p a.whole)) in
    let r = (accepted_exactly b (bytes-all vs low) (reading b).table).0 e in
    record { lawful = r.0; same = encode-all_same vs (numbers (reading b).table) low (numbers_low (reading b).table r.0) r.1 }

-- An accepted text is the text of its table, which is legal.
text_sound : (s : List ℕ) (t : Table) → sheet_reading s ≡ accepted t → Legal t × (s ≡ text t)
text_sound s t e =
    let vs : List ℕ = (judged_text s).numbers in
    let a : AllRead s vs = all_read_by s (ap (λ (r : Read). r.told.number) e) in
    let b : Both vs = both_read a in
    let q : table_by vs ≡ t = ap (λ (r : Read). r.table) (sym (sheet_accepted s vs a) ∙ e) in
    (subst (λ (u : Table). Legal u) q b.lawful, text-whole a ∙ ap text_of b.same ∙ text-numbers (table_by vs) ∙ ap text q)

-- The numbers of bytes that are not refused.
record Whole (b : List ℕ) : Type 0 where
  vs : List ℕ
  before : Before b vs
  enough : wanted vs ≡ false
  long : length b ≡ place vs

no_number_why : (s : List ℕ) (why : ℕ) → NoNumber s why → 0 < why
unfolding number_at
no_number_why s why r = subst (λ (n : Number). ToldWhy n) ((number_exactly s 0 (Refused why)).1 r) (number_why 0 s)

whole_by : (b : List ℕ) (o : Told) → o.number ≡ 0 → Judgment b o → Whole b
whole_by b o z (no_number vs why p w r) = absurd (omega (arith, z, no_number_why _ why r))
whole_by b o z (objected vs v next p w r h) = absurd (omega (arith, z, h))
whole_by b o z (extra vs p w h) = absurd (omega (arith, z))
whole_by b o z (all_read vs p w l) = record { vs = vs; before = p; enough = w; long = l }

whole_same : (b : List ℕ) (h : Whole b) → encode_all h.vs ≡ b
whole_same b h = sym h.before.stands ∙ subst (λ (n : ℕ). take n b ≡ b) h.long (take-length b)

-- The text of a legal table is read to that table.
text_complete : (t : Table) → Legal t → sheet_reading (text t) ≡ accepted t
unfolding table_by bytes
text_complete t g =
    let s : List ℕ = text t in
    let hs : Bytes (bytes t) = legal-bytes t g in
    let r : reading (bytes t) ≡ accepted t = (accepted_exactly (bytes t) hs t).1 (g, refl) in
    let h : Whole (bytes t) = whole_by (bytes t) (answered []) refl ((judged_exactly (bytes t) hs (answered [])).0 (ap (λ (q : Read). q.told) r)) in
    let n : h.vs ≡ numbers t = encode-all_same h.vs (numbers t) (before_low h.before) (numbers_low t g) (whole_same (bytes t) h) in
    let u : text_of h.vs ≡ s = ap text_of n ∙ text-numbers t in
    let b : SheetBefore s h.vs = record {
      begins = subst (λ (l : List ℕ). take (length l) s ≡ l) (sym u) (take-length s);
      wants = h.before.wants;
      passed = h.before.passed;
    } in
    sheet_accepted s h.vs (record { before = b; whole = h.enough; long = ap length (sym u) })
    ∙ ap accepted (ap table_by n ∙ ap (λ (q : Read). q.table) r)

-- The comma form's reader accepts t from s exactly when t is legal and s is the text of t.
pub sheet_accepted_exactly : (s : List ℕ) (t : Table) → (sheet_reading s ≡ accepted t) ↔ (Legal t × (s ≡ text t))
sheet_accepted_exactly s t =
    (text_sound s t, λ p. subst (λ (l : List ℕ). sheet_reading l ≡ accepted t) (sym p.1) (text_complete t p.0))

-- A table is read from one text only.
pub one-text : (t : Table) (r s : List ℕ) → sheet_reading r ≡ accepted t → sheet_reading s ≡ accepted t → r ≡ s
one-text t r s e f = (text_sound r t e).1 ∙ sym (text_sound s t f).1

-- Two legal tables with the same text are one.
pub text_same : (t u : Table) → Legal t → Legal u → text t ≡ text u → t ≡ u
text_same t u g h e =
    let f : sheet_reading (text u) ≡ accepted t = (sheet_accepted_exactly (text u) t).1 (g, sym e) in
    ap (λ (r : Read). r.table) (sym f ∙ text_complete u h)

-- Both forms of a legal table are read to that table.
pub both_forms : (t : Table) → Legal t → (reading (bytes t) ≡ accepted t) × (sheet_reading (text t) ≡ accepted t)
both_forms t g = ((accepted_exactly (bytes t) (legal-bytes t g) t).1 (g, refl), text_complete t g)
