-- Reading the comma form: what is told is exactly what the rules say, an accepted text has the table of its numbers and a refused one the
-- zero table, and no second answer fits.
use Prim.Native.Nat.{ℕ, ◌<◌}
use mathlib.Core.Path.{◌≡◌, ap, sym, ◌∙◌, subst}
use mathlib.Core.List.{List, []}
use mathlib.Core.Logic.{◌↔◌}
use native.Mathlib.Omega.{arith}
use borrow.Author.Tests.{eq-eqb, ne_eqb}
use Rattle.std.specs.Prelude.{Result}
use Rattle.basis.specs.Tests.{pick}
use Rattle.basis.specs.Told.{Told, answered}
use Rattle.table.specs.declared.Table.{Table}
use Rattle.reader.specs.declared.Fault.{Fault}
use Rattle.reader.specs.Reader.{Read, no_table, accepted, read_of}
use Rattle.reader.proofs.ReaderLaws.{read_injective}
use Rattle.sheet.specs.Sheet.{table_by, judged_text, sheet_reading}
use Rattle.sheet.specs.SheetJudging.{SheetJudgment, all_read}
use Rattle.sheet.proofs.SheetJudged.{AllRead, sheet_judged, sheet_all_read}
use Rattle.sheet.proofs.SheetOnce.{same-all, sheet_judged_once}

-- The reader of the comma form answers exactly what the rules say.
pub sheet_judged_exactly : (s : List ℕ) (o : Told) → ((sheet_reading s).told ≡ o) ↔ SheetJudgment s o
sheet_judged_exactly s o =
    (λ e. subst (λ (t : Told). SheetJudgment s t) e (sheet_judged s), λ j. sheet_judged_once s (sheet_reading s).told o (sheet_judged s) j)

-- What it answers, by a judgment of the text.
read_same : {o p : Told} {x y : Table} → o ≡ p → x ≡ y → ◌≡◌ {A = Read} (record { told = o; table = x }) (record { told = p; table = y })
read_same e f = cc

pub sheet_refused : (s : List ℕ) (o : Told) → SheetJudgment s o → 0 < o.number → sheet_reading s ≡ record { told = o; table = no_table }
unfolding sheet_reading pick
sheet_refused s o j h =
    let e : (judged_text s).told ≡ o = (sheet_judged_exactly s o).1 j in
    let n : (judged_text s).told.number ≡ o.number = ap (λ (p : Told). p.number) e in
    read_same e (rw (ne_eqb (judged_text s).told.number 0 (λ z. omega arith)))

pub sheet_accepted : (s vs : List ℕ) → AllRead s vs → sheet_reading s ≡ accepted (table_by vs)
unfolding sheet_reading pick
sheet_accepted s vs b =
    let e : (judged_text s).told ≡ answered [] = (sheet_judged_exactly s (answered [])).1 (all_read vs b.before b.whole b.long) in
    let n : (judged_text s).told.number ≡ 0 = ap (λ (p : Told). p.number) e in
    let a : AllRead s (judged_text s).numbers = sheet_all_read s n in
    read_same e (rw (eq-eqb (judged_text s).told.number 0 n) (ap table_by (same-all s _ vs a.before a.whole b.before b.whole)))

-- A text that is not refused is all read.
pub all_read_by : (s : List ℕ) → (sheet_reading s).told.number ≡ 0 → AllRead s (judged_text s).numbers
unfolding sheet_reading
all_read_by s z = sheet_all_read s z

-- The table of a refused text is all zero.
pub sheet_refused_zero : (s : List ℕ) → 0 < (sheet_reading s).told.number → (sheet_reading s).table ≡ no_table
sheet_refused_zero s h = ap (λ (r : Read). r.table) (sheet_refused s (sheet_reading s).told (sheet_judged s) h)

-- A text that is not refused is accepted.
pub sheet_accepted_plain : (s : List ℕ) → (sheet_reading s).told.number ≡ 0 → sheet_reading s ≡ accepted (sheet_reading s).table
sheet_accepted_plain s z =
    let e = sheet_accepted s (judged_text s).numbers (all_read_by s z) in
    e ∙ ap accepted (ap (λ (r : Read). r.table) (sym e))

-- No second answer fits the comma form's reader.
pub sheet_read_unique : (s : List ℕ) (r q : Result Table Fault) → read_of r ≡ sheet_reading s → read_of q ≡ sheet_reading s → r ≡ q
sheet_read_unique s r q e f = read_injective r q (e ∙ sym f)
