-- The text of a legal table has at most 1386 characters, by the ranges of its numbers, and a table whose text has as many.
use Prim.Native.Nat.{ℕ, zero, suc, ◌+◌, ◌-◌, ◌*◌, ◌≤◌, ◌<◌}
use mathlib.Core.Path.{◌≡◌, refl, ap, ◌∙◌}
use mathlib.Core.Bool.{true}
use mathlib.Core.List.{List, [], ◌∷◌}
use native.Mathlib.Numerals.{add-one}
use native.Mathlib.Nat.{suc-mul}
use native.Mathlib.Omega.{arith}
use lib.ListN.{length, get_or, take, replicate, length-append}
use lib.Dec.{eqb}
use borrow.Author.Tests.{eq-eqb, ne_eqb}
use Rattle.basis.specs.Tests.{pick}
use Rattle.basis.specs.Search.{listed}
use Rattle.basis.proofs.TestLaws.{by_test}
use Rattle.basis.proofs.SearchLaws.{length-listed}
use Rattle.table.specs.Threads.{none, fields, fields_in}
use Rattle.table.specs.Legal.{Legal, LegalThread, legal}
use Rattle.table.specs.declared.Table.{Table}
use Rattle.table.specs.declared.Thread.{Thread}
use Rattle.table.proofs.LegalLaws.{legal_sound}
use Rattle.decimal.specs.Decimal.{decimal}
use Rattle.decimal.proofs.DecimalLaws.{decimal-short}
use Rattle.writer.specs.Format.{row_numbers, written_fields}
use Rattle.sheet.specs.Text.{ending, line_part, line, thread_lines, text}
use Rattle.sheet.specs.Opened.{opened}
use Rattle.sheet.proofs.LineLaws.{ending-last, ending_more, line-length, thread_lines-length, parts_length}
use Rattle.sheet.proofs.TextNumbers.{rows_long}
use Rattle.sheet.proofs.EncodeLaws.{Low}
use Rattle.sheet.proofs.LegalNumbers.{rows_low}

-- How many digits the first n numbers have.
unfoldable digits : List ℕ → ℕ → ℕ
digits vs zero = 0
digits vs (suc i) = digits vs i + length (decimal (get_or vs i 0))

-- A line is its digits, a comma behind each number but the last, and CRLF.
field_takes : (vs : List ℕ) (i : ℕ) →
    length (line_part vs (suc i)) ≡ length (line_part vs i) + (length (decimal (get_or vs i 0)) + length (ending (eqb (suc i) (length vs))))
field_takes vs i = rw add-one at (line-length vs i) ∙ rw (length-append (decimal (get_or vs i 0)) (ending (eqb (suc i) (length vs))))

part_takes : (vs : List ℕ) (i : ℕ) → i < length vs → length (line_part vs i) ≡ digits vs i + i
unfolding digits line_part
part_takes vs zero h = refl
part_takes vs (suc i) h =
    let e : length (ending (eqb (suc i) (length vs))) ≡ 1 = ap length (ending_more (ne_eqb (suc i) (length vs) (λ q. omega arith))) in
    omega (arith, field_takes vs i, part_takes vs i (omega arith), e)

line_takes : (vs : List ℕ) (n : ℕ) → length vs ≡ suc n → length (line vs) ≡ digits vs (suc n) + n + 2
unfolding digits
line_takes vs n h =
    let e : length (ending (eqb (suc n) (length vs))) ≡ 2 = ap length (ending-last (eq-eqb (suc n) (length vs) (omega arith))) in
    rw h (omega (arith, field_takes vs n, part_takes vs n (omega arith), e))

-- At most five digits for each row.
digits-most : (vs : List ℕ) (n : ℕ) → Low vs → digits vs n ≤ 5 * n
unfolding digits
digits-most vs zero b = omega arith
digits-most vs (suc n) b = omega (arith, digits-most vs n b, decimal-short 5 (get_or vs n 0) (omega arith) (omega (arith, b.each n)))

rows-most : (t : Table) → Legal t → length (line (row_numbers t.rows t.domains)) ≤ 97
rows-most t g =
    let vs : List ℕ = row_numbers t.rows t.domains in
    let n : ℕ = t.domains - 1 in
    let e : length vs ≡ suc n = rows_long t.rows t.domains ∙ omega (arith, g.domains_low) in
    omega (arith, line_takes vs n e, digits-most vs (suc n) (rows_low t g), g.domains_high)

-- The first line: one digit, two and two.
head_most : (v d n : ℕ) → v ≤ 2 → d ≤ 16 → n ≤ 32 → length (line (v ∷ d ∷ n ∷ [])) ≤ 9
unfolding digits
head_most v d n h k l =
    omega (
      arith,
      line_takes (v ∷ d ∷ n ∷ []) 2 refl,
      decimal-short 1 v (omega arith) (omega arith),
      decimal-short 2 d (omega arith) (omega arith),
      decimal-short 2 n (omega arith) (omega arith),
    )

-- The longest line of a thread: domain 2 digits, priority 3, the others 5 each, and 1 more for its kind.
module _ (v d : ℕ) (th : Thread) (h : d ≤ 16) (g : LegalThread v d th) where
  seven-digits : digits (fields th) 7 ≤ 30
  unfolding digits
  seven-digits =
      omega (
        arith,
        decimal-short 2 th.domain (omega arith) (omega (arith, g.domain_high)),
        decimal-short 3 th.priority (omega arith) (omega (arith, g.priority_high)),
        decimal-short 5 th.period (omega arith) (omega (arith, g.period_high)),
        decimal-short 5 th.offset (omega arith) (omega (arith, g.offset_high, g.period_high)),
        decimal-short 5 th.budget (omega arith) (omega (arith, g.budget_high, g.period_high)),
        decimal-short 5 th.deadline (omega arith) (omega (arith, g.deadline_high, g.period_high)),
        decimal-short 5 th.blocking (omega arith) (omega (arith, g.blocking_high, g.budget_high, g.period_high)),
      )

  seven-most : length (line (take 7 (fields th))) ≤ 38
  unfolding digits
  seven-most = omega (arith, line_takes (take 7 (fields th)) 6 refl, seven-digits)

  all_most : length (line (fields th)) ≤ 40
  unfolding digits
  all_most = omega (arith, line_takes (fields th) 7 refl, seven-digits, decimal-short 1 th.kind (omega arith) (omega (arith, g.kind_high)))

  thread_most : length (line (written_fields v th)) ≤ 40
  unfolding fields_in pick
  thread_most = by_test (eqb v 1) (λ e. rw e (omega (arith, seven-most))) (λ e. rw e all_most)

  thread_most-one : v ≡ 1 → length (line (written_fields v th)) ≤ 38
  unfolding fields_in pick
  thread_most-one e = rw e seven-most

threads_most : (m v : ℕ) (ths : List Thread) (n : ℕ) → ((i : ℕ) → i < n → length (line (written_fields v (get_or ths i none))) ≤ m)
    → length (thread_lines v ths n) ≤ n * m
unfolding thread_lines
threads_most m v ths zero g = omega arith
threads_most m v ths (suc n) g =
    let e : length (thread_lines v ths (suc n)) ≡ length (thread_lines v ths n) + length (line (written_fields v (get_or ths n none)))
    = rw add-one at (thread_lines-length v ths n) in
    omega (arith, e, suc-mul n m, threads_most m v ths n (λ i k. g i (omega arith)), g n (omega arith))

-- The text of a legal table has at most 1386 characters, and that of one of version 1 at most 1322.
pub longest-text : (t : Table) → Legal t → length (text t) ≤ 1386
longest-text t g =
    omega (
      arith,
      parts_length t,
      head_most t.version t.domains t.count g.version_high g.domains_high g.count_high,
      rows-most t g,
      threads_most 40 t.version t.threads t.count (λ i h. thread_most t.version t.domains _ g.domains_high (g.threads i h)),
      g.count_high,
    )

pub longest_text_one : (t : Table) → Legal t → t.version ≡ 1 → length (text t) ≤ 1322
longest_text_one t g e =
    omega (
      arith,
      parts_length t,
      head_most t.version t.domains t.count g.version_high g.domains_high g.count_high,
      rows-most t g,
      threads_most 38 t.version t.threads t.count (λ i h. thread_most-one t.version t.domains _ g.domains_high (g.threads i h) e),
      g.count_high,
    )

-- Every number as long as it may be, at the top of its range: 16 full rows, 32 threads of domain 15, with priorities up to 255.
abbrev long_thread : ℕ → Thread
long_thread i = record {
  domain = 15;
  priority = 224 + i;
  period = 60000;
  offset = 59999;
  budget = 60000;
  deadline = 60000;
  blocking = 60000;
  kind = 0;
}

abbrev pub long_sheet : ℕ → Table
long_sheet v = record { version = v; domains = 16; count = 32; rows = replicate 16 65535; threads = listed 32 long_thread }

pub long_sheet_takes : length (text (long_sheet 2)) ≡ 1386
unfolding opened
long_sheet_takes = refl

pub long_sheet_one_takes : length (text (long_sheet 1)) ≡ 1322
unfolding opened
long_sheet_one_takes = refl

-- 16 full rows have no gap: all 16 * 16 * 16 triples are tried.
long_legal : (legal (long_sheet 2) ≡ true) × (legal (long_sheet 1) ≡ true)
unfolding opened
long_legal = (refl, refl)

pub long_sheet-legal : Legal (long_sheet 2)
long_sheet-legal = legal_sound (long_sheet 2) (record { rows = refl; threads = length-listed 32 long_thread }) long_legal.0

pub long_sheet_one_legal : Legal (long_sheet 1)
long_sheet_one_legal = legal_sound (long_sheet 1) (record { rows = refl; threads = length-listed 32 long_thread }) long_legal.1
