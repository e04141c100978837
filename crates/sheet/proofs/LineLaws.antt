-- The text of a table as it is put: a line grows by a field and its end, the threads by a line, and three parts make the text.
use Prim.Native.Nat.{ℕ, zero, suc, ◌+◌, ◌≤◌, ◌<◌}
use mathlib.Core.Path.{◌≡◌, refl, ap, ◌∙◌}
use mathlib.Core.Bool.{Bool, true, false}
use mathlib.Core.List.{List, [], ◌∷◌, ◌++◌}
use native.Mathlib.Omega.{arith}
use native.Mathlib.Numerals.{add-one}
use lib.ListN.{length, get_or, take, length-append}
use lib.Seq.{take-suc}
use lib.Dec.{eqb}
use Rattle.basis.specs.Tests.{pick}
use Rattle.basis.specs.Search.{listed}
use Rattle.table.specs.Threads.{none}
use Rattle.table.specs.declared.Table.{Table}
use Rattle.table.specs.declared.Thread.{Thread}
use Rattle.decimal.specs.Decimal.{decimal}
use Rattle.writer.specs.Format.{row_numbers, written_fields}
use Rattle.writer.proofs.WriterLaws.{grown_room}
use Rattle.sheet.specs.Text.{ending, line_part, line, thread_lines, text}

-- What stands behind a field.
pub ending-last : {last : Bool} → last ≡ true → ending last ≡ 0x0D ∷ 0x0A ∷ []
unfolding ending pick
ending-last e = rw e

pub ending_more : {last : Bool} → last ≡ false → ending last ≡ 0x2C ∷ []
unfolding ending pick
ending_more e = rw e

-- Field i of a line, with what is due behind it.
abbrev pub field_text : List ℕ → ℕ → List ℕ
field_text vs i = decimal (get_or vs i 0) ++ ending (eqb (i + 1) (length vs))

pub line-next : (vs : List ℕ) (i : ℕ) → line_part vs (i + 1) ≡ line_part vs i ++ field_text vs i
unfolding line_part
line-next vs i = rw add-one

pub line-length : (vs : List ℕ) (i : ℕ) → length (line_part vs (i + 1)) ≡ length (line_part vs i) + length (field_text vs i)
line-length vs i = ap length (line-next vs i) ∙ length-append (line_part vs i) (field_text vs i)

pub line_room : (vs : List ℕ) (i : ℕ) → i < length vs → length (line_part vs i ++ field_text vs i) ≤ length (line vs)
line_room vs = grown_room (line_part vs) (field_text vs) (length vs) (λ i h. line-next vs i)

-- The rows of n domains are the first n.
pub rows_taken : (rows : List ℕ) (n : ℕ) → n ≤ length rows → row_numbers rows n ≡ take n rows
unfolding row_numbers listed
rows_taken rows zero h = refl
rows_taken rows (suc n) h = rw (take-suc rows n 0 h, ← rows_taken rows n (omega arith))

-- One thread more.
pub thread_lines-next : (v : ℕ) (ths : List Thread) (i : ℕ) → thread_lines v ths (i + 1) ≡ thread_lines v ths i ++ line (written_fields v (get_or ths i none))
unfolding thread_lines
thread_lines-next v ths i = rw add-one

pub thread_lines-length : (v : ℕ) (ths : List Thread) (i : ℕ) →
    length (thread_lines v ths (i + 1)) ≡ length (thread_lines v ths i) + length (line (written_fields v (get_or ths i none)))
thread_lines-length v ths i = ap length (thread_lines-next v ths i) ∙ length-append (thread_lines v ths i) (line (written_fields v (get_or ths i none)))

pub thread_lines_room : (v : ℕ) (ths : List Thread) (n i : ℕ) → i < n →
    length (thread_lines v ths i ++ line (written_fields v (get_or ths i none))) ≤ length (thread_lines v ths n)
thread_lines_room v ths n = grown_room (thread_lines v ths) (λ i. line (written_fields v (get_or ths i none))) n (λ i h. thread_lines-next v ths i)

-- The three parts in which the text of a table is put.
abbrev pub head_line : Table → List ℕ
head_line t = line (t.version ∷ t.domains ∷ t.count ∷ [])

abbrev pub rows_line : Table → List ℕ
rows_line t = line (row_numbers t.rows t.domains)

abbrev pub thread_part : Table → List ℕ
thread_part t = thread_lines t.version t.threads t.count

pub text_parts : (t : Table) → text t ≡ (head_line t ++ rows_line t) ++ thread_part t
unfolding text
text_parts t = refl

pub parts_length : (t : Table) → length (text t) ≡ length (head_line t) + length (rows_line t) + length (thread_part t)
parts_length t =
    omega (arith, ap length (text_parts t), length-append (head_line t ++ rows_line t) (thread_part t), length-append (head_line t) (rows_line t))

pub parts_room : (t : Table) → (length (head_line t) ≤ length (text t)) × (length (head_line t ++ rows_line t) ≤ length (text t))
    × (length ((head_line t ++ rows_line t) ++ thread_part t) ≤ length (text t))
parts_room t = omega (arith, parts_length t, ap length (text_parts t), length-append (head_line t) (rows_line t))
