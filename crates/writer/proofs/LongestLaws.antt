-- The bytes of a legal table are at most 659, by the ranges of its numbers, and a table that takes as many.
use Prim.Native.Nat.{ℕ, zero, suc, ◌+◌, ◌*◌, ◌≤◌, ◌<◌}
use mathlib.Core.Path.{◌≡◌, refl}
use mathlib.Core.Bool.{true}
use mathlib.Core.List.{List}
use native.Mathlib.Numerals.{add-one}
use native.Mathlib.Nat.{suc-mul}
use native.Mathlib.Omega.{arith}
use lib.ListN.{length, get_or, take, replicate, length-append}
use lib.Dec.{eqb, ltb}
use borrow.Author.Tests.{ltb-true, ltb-false}
use Rattle.basis.specs.Tests.{pick, every, some}
use Rattle.basis.specs.Search.{listed, first}
use Rattle.basis.proofs.TestLaws.{by_test}
use Rattle.basis.proofs.SearchLaws.{length-listed}
use Rattle.flow.specs.Flow.{flows, row_ok}
use Rattle.flow.specs.Gap.{broken, gap_at, gap_by_c, gap_by_b, first_gap}
use Rattle.table.specs.Threads.{none, fields, fields_in}
use Rattle.table.specs.Ranges.{within, field_ranges, field_range}
use Rattle.table.specs.Legal.{Legal, LegalThread, legal, row_legal, field_ok, thread_ok, taken, place_legal}
use Rattle.table.specs.declared.Table.{Table}
use Rattle.table.specs.declared.Thread.{Thread}
use Rattle.table.proofs.LegalLaws.{legal_sound}
use Rattle.numeral.specs.Number.{encode, encode_all}
use Rattle.writer.specs.Format.{row_numbers, written_fields, thread_numbers, numbers, bytes}
use Rattle.numeral.proofs.NumberLaws.{encode_one, encode-two, encode-three}
use Rattle.writer.proofs.WriterLaws.{rows-length, threads_length, bytes-length}

-- One byte below 128, at most two below 16,384, at most three.
one : (v : ℕ) → v < 128 → length (encode v) ≡ 1
one v h = rw (encode_one v h)

at_most_two : (v : ℕ) → v < 16384 → length (encode v) ≤ 2
at_most_two v h =
    by_test (ltb v 128) (λ e. omega (arith, one v (ltb-true _ _ e))) (λ e. rw (encode-two v (ltb-false _ _ e) h) (omega arith))

at_most-three : (v : ℕ) → length (encode v) ≤ 3
at_most-three v =
    by_test (ltb v 16384) (λ e. omega (arith, at_most_two v (ltb-true _ _ e))) (λ e. rw (encode-three v (ltb-false _ _ e)) (omega arith))

rows-most : (rows : List ℕ) (n : ℕ) → length (encode_all (row_numbers rows n)) ≤ 3 * n
unfolding row_numbers listed encode_all
rows-most rows zero = omega arith
rows-most rows (suc n) =
    let e : length (encode_all (row_numbers rows (suc n))) ≡ length (encode_all (row_numbers rows n)) + length (encode (get_or rows n 0))
    = rw add-one at (rows-length rows n) in
    omega (arith, e, rows-most rows n, at_most-three (get_or rows n 0))

-- The most bytes that a thread takes: domain 1, priority 2, the others 3 each, and 1 more for its kind.
module _ (v d : ℕ) (th : Thread) (h : d ≤ 16) (g : LegalThread v d th) where
  seven-most : length (encode_all (take 7 (fields th))) ≤ 18
  unfolding encode_all
  seven-most =
      simp length-append
      (omega (
        arith,
        one th.domain (omega (arith, g.domain_high)),
        at_most_two th.priority (omega (arith, g.priority_high)),
        at_most-three th.period,
        at_most-three th.offset,
        at_most-three th.budget,
        at_most-three th.deadline,
        at_most-three th.blocking,
      ))

  all_most : length (encode_all (fields th)) ≤ 19
  unfolding encode_all
  all_most =
      simp length-append
      (omega (
        arith,
        one th.domain (omega (arith, g.domain_high)),
        at_most_two th.priority (omega (arith, g.priority_high)),
        at_most-three th.period,
        at_most-three th.offset,
        at_most-three th.budget,
        at_most-three th.deadline,
        at_most-three th.blocking,
        one th.kind (omega (arith, g.kind_high)),
      ))

  thread_most : length (encode_all (written_fields v th)) ≤ 19
  unfolding fields_in pick
  thread_most = by_test (eqb v 1) (λ e. rw e (omega (arith, seven-most))) (λ e. rw e all_most)

  thread_most-one : v ≡ 1 → length (encode_all (written_fields v th)) ≤ 18
  unfolding fields_in pick
  thread_most-one e = rw e seven-most

threads_most : (m v : ℕ) (ths : List Thread) (n : ℕ) → ((i : ℕ) → i < n → length (encode_all (written_fields v (get_or ths i none))) ≤ m)
    → length (encode_all (thread_numbers v ths n)) ≤ n * m
unfolding thread_numbers encode_all
threads_most m v ths zero g = omega arith
threads_most m v ths (suc n) g =
    let e : length (encode_all (thread_numbers v ths (suc n)))
    ≡ length (encode_all (thread_numbers v ths n)) + length (encode_all (written_fields v (get_or ths n none)))
    = rw add-one at (threads_length v ths n) in
    omega (arith, e, suc-mul n m, threads_most m v ths n (λ i k. g i (omega arith)), g n (omega arith))

-- A legal table takes at most 659 bytes, and one of version 1 at most 627.
pub longest : (t : Table) → Legal t → length (bytes t) ≤ 659
longest t g =
    omega (
      arith,
      bytes-length t g.version_high g.domains_high g.count_high,
      rows-most t.rows t.domains,
      threads_most 19 t.version t.threads t.count (λ i h. thread_most t.version t.domains _ g.domains_high (g.threads i h)),
      g.domains_high,
      g.count_high,
    )

pub longest-one : (t : Table) → Legal t → t.version ≡ 1 → length (bytes t) ≤ 627
longest-one t g e =
    omega (
      arith,
      bytes-length t g.version_high g.domains_high g.count_high,
      rows-most t.rows t.domains,
      threads_most 18 t.version t.threads t.count (λ i h. thread_most-one t.version t.domains _ g.domains_high (g.threads i h) e),
      g.domains_high,
      g.count_high,
    )

-- Every number as long as it may be: version 2, 16 full rows, 32 threads, with priorities from 128 on.
abbrev long_thread : ℕ → Thread
long_thread i = record {
  domain = 0;
  priority = 128 + i;
  period = 60000;
  offset = 20000;
  budget = 20000;
  deadline = 20000;
  blocking = 20000;
  kind = 0;
}

abbrev pub long_table : Table
long_table = record { version = 2; domains = 16; count = 32; rows = replicate 16 65535; threads = listed 32 long_thread }

pub long_takes : length (bytes long_table) ≡ 659
unfolding bytes numbers row_numbers thread_numbers fields_in listed encode_all encode pick
long_takes = refl

-- 16 full rows have no gap: all 16 * 16 * 16 triples are tried.
pub long_legal : legal long_table ≡ true
unfolding legal row_legal place_legal thread_ok field_ok field_range field_ranges within taken first_gap gap_by_b gap_by_c gap_at broken flows row_ok first every some listed pick
long_legal = refl

pub long_is_legal : Legal long_table
long_is_legal = legal_sound long_table (record { rows = refl; threads = length-listed 32 long_thread }) long_legal
