-- The verdict on a table is settled by its first bytes: at most three numbers, 16 rows and the fields of 32 threads are read, of at most
-- three bytes each, and then it matters only whether one byte more is there.
use Prim.Native.Nat.{ℕ, zero, suc, ◌+◌, ◌-◌, ◌*◌, ◌≤◌, ◌<◌}
use mathlib.Core.Path.{◌≡◌, refl, sym}
use mathlib.Core.Bool.{Bool}
use mathlib.Core.List.{List, [], ◌∷◌}
use native.Mathlib.Omega.{arith}
use native.Mathlib.Nat.{zero-add, suc-add}
use lib.Seq.{take-nil}
use lib.ListN.{length, take, drop, length-take}
use lib.Dec.{ltb}
use borrow.Author.Tests.{lt-ltb, le-ltb, ltb-true, ltb-false}
use Rattle.basis.proofs.TestLaws.{by_test, both_ways}
use Rattle.table.specs.Threads.{field_count, fields_in}
use Rattle.table.specs.Ranges.{versions, domain_counts, thread_counts, field_range}
use Rattle.table.specs.declared.Range.{Range}
use Rattle.table.specs.declared.Thread.{Thread}
use Rattle.numeral.specs.Number.{Number, third, second, number, number_at}
use Rattle.table.proofs.RangeLaws.{fields_in-most}
use Rattle.reader.specs.Reader.{Cursor, RowsRead, took, good, number_from, judged, ranged, row_from, rows_from, field_from, fields_from, threads_from, ended, after_rows, version_from, domains_from, count_from, reading}
use Rattle.reader.proofs.ReaderLaws.{ranged_le}

-- So many bytes: 826.
abbrev pub front : ℕ
front = 3 * (3 + 16 + 32 * field_count) + 1

-- A thread's fields end so many bytes on at the latest.
abbrev thread_most : ℕ
thread_most = 3 * field_count

-- A number is told by the first three bytes where it stands.
number-front : (p m : ℕ) (l : List ℕ) → number p (take (suc (suc (suc m))) l) ≡ number p l
unfolding number second third
number-front p m [] = refl
number-front p m (b ∷ []) = refl
number-front p m (b ∷ c ∷ []) = refl
number-front p m (b ∷ c ∷ d ∷ l) = refl

drop-take : (p k : ℕ) (l : List ℕ) → drop p (take (p + k) l) ≡ take k (drop p l)
drop-take zero k l = rw zero-add
drop-take (suc p) k [] = rw (suc-add p k) (sym (take-nil k))
drop-take (suc p) k (x ∷ l) = rw (suc-add p k) (drop-take p k l)

number_at-front : (n p : ℕ) (s : List ℕ) → p + 3 ≤ n → number_at (take n s) p ≡ number_at s p
unfolding number_at
number_at-front n p s h =
    let m : ℕ = n - (p + 3) in
    let e : n ≡ p + suc (suc (suc m)) = omega arith in
    rw (e, drop-take p (suc (suc (suc m))) s) (number-front p m (drop p s))

-- A cursor stands before a place.
record Before (c : Cursor) (b : ℕ) : Type 0 where
  start : c.start ≤ b
  next : c.next ≤ b

-- What is read at p ends at p + 3 at the latest.
abbrev Near : ℕ → Number → Type 0
Near p x = Before (took p x) (p + 3)

third_near : (p at v : ℕ) (l : List ℕ) → at + 1 ≤ p + 3 → Near p (third at v l)
unfolding third
third_near p at v [] h = record { start = omega arith; next = omega arith }
third_near p at v (b ∷ l) h =
    both_ways (Near p) _ _ _ (record { start = omega arith; next = omega arith })
    (both_ways (Near p) _ _ _ (record { start = omega arith; next = omega arith })
    (both_ways (Near p) _ _ _ (record { start = omega arith; next = omega arith }) (record { start = omega arith; next = h })))

second_near : (p at v : ℕ) (l : List ℕ) → at + 2 ≤ p + 3 → Near p (second at v l)
unfolding second
second_near p at v [] h = record { start = omega arith; next = omega arith }
second_near p at v (b ∷ l) h =
    both_ways (Near p) _ _ _ (record { start = omega arith; next = omega arith })
    (both_ways (Near p) _ _ _ (record { start = omega arith; next = omega arith })
    (third_near p (at + 1) (v + 128 * (b - 128)) l (omega arith)))

number_near : (p : ℕ) (l : List ℕ) → Near p (number p l)
unfolding number
number_near p [] = record { start = omega arith; next = omega arith }
number_near p (b ∷ l) =
    both_ways (Near p) _ _ _ (record { start = omega arith; next = omega arith }) (second_near p (p + 1) (b - 128) l (omega arith))

later : {c : Cursor} {a : ℕ} (b : ℕ) → Before c a → a ≤ b → Before c b
later b h k = record { start = omega (arith, h.start); next = omega (arith, h.next) }

module _ (n : ℕ) (s : List ℕ) where
  -- a number that starts before b is read before b + 3, and its verdict stands there too
  from_near : (c : Cursor) (b : ℕ) → Before c b → Before (number_from s c) (b + 3)
  unfolding number_from number_at
  from_near c b h =
      both_ways (λ (x : Cursor). Before x (b + 3)) _ _ _ (later (b + 3) (number_near c.next (drop c.next s)) (omega (arith, h.next)))
      (record { start = omega (arith, h.start); next = omega (arith, h.start) })

  judged_near : (c : Cursor) (ok : Bool) (why b : ℕ) → Before c b → Before (judged c ok why) b
  unfolding judged
  judged_near c ok why b h =
      both_ways (λ (x : Cursor). Before x b) _ _ _
      (both_ways (λ (x : Cursor). Before x b) _ _ _ h (record { start = h.start; next = h.start })) (record { start = h.start; next = h.start })

  from-same : (c : Cursor) (b : ℕ) → Before c b → b + 3 ≤ n → number_from (take n s) c ≡ number_from s c
  unfolding number_from
  from-same c b h k = rw (number_at-front n c.next s (omega (arith, h.next)))

  ranged_near : (c : Cursor) (r : Range) (why b : ℕ) → Before c b → Before (ranged s c r why) (b + 3)
  unfolding ranged
  ranged_near c r why b h = judged_near (number_from s c) _ why (b + 3) (from_near c b h)

  ranged-same : (c : Cursor) (r : Range) (why b : ℕ) → Before c b → b + 3 ≤ n → ranged (take n s) c r why ≡ ranged s c r why
  unfolding ranged
  ranged-same c r why b h k = rw (from-same c b h k)

  -- the rows
  module _ (x d : ℕ) where
    row_near : (i : ℕ) (c : Cursor) (b : ℕ) → Before c b → Before (row_from s d i c) (b + 3)
    unfolding row_from
    row_near i c b h = judged_near (number_from s c) _ 6 (b + 3) (from_near c b h)

    row_same : (i : ℕ) (c : Cursor) (b : ℕ) → Before c b → b + 3 ≤ n → row_from (take n s) d i c ≡ row_from s d i c
    unfolding row_from
    row_same i c b h k = rw (from-same c b h k)

    rows_near : (c : Cursor) (b i : ℕ) → Before c b → Before (rows_from s d c i).cursor (b + i * 3)
    unfolding rows_from
    rows_near c b zero h = later (b + 0 * 3) h (omega arith)
    rows_near c b (suc i) h =
        later (b + suc i * 3) (row_near i (rows_from s d c i).cursor (b + i * 3) (rows_near c b i h)) (omega arith)

    rows_same : (c : Cursor) (b i : ℕ) → Before c b → b + i * 3 ≤ n → rows_from (take n s) d c i ≡ rows_from s d c i
    unfolding rows_from
    rows_same c b zero h k = refl
    rows_same c b (suc i) h k =
        rw (rows_same c b i h (omega arith), row_same i (rows_from s d c i).cursor (b + i * 3) (rows_near c b i h) (omega arith))

    -- the fields of a thread
    module _ (ths : List Thread) (j : ℕ) where
      field_near : (vs : List ℕ) (k : ℕ) (c : Cursor) (b : ℕ) → Before c b → Before (field_from s x d ths j vs k c) (b + 3)
      unfolding field_from
      field_near vs k c b h = judged_near (ranged s c (field_range x d vs k) 8) _ 9 (b + 3) (ranged_near c (field_range x d vs k) 8 b h)

      field-same : (vs : List ℕ) (k : ℕ) (c : Cursor) (b : ℕ) → Before c b → b + 3 ≤ n →
          field_from (take n s) x d ths j vs k c ≡ field_from s x d ths j vs k c
      unfolding field_from
      field-same vs k c b h l = rw (ranged-same c (field_range x d vs k) 8 b h l)

      fields_near : (c : Cursor) (b k : ℕ) → Before c b → Before (fields_from s x d ths j c k).cursor (b + k * 3)
      unfolding fields_from
      fields_near c b zero h = later (b + 0 * 3) h (omega arith)
      fields_near c b (suc k) h =
          later (b + suc k * 3)
          (field_near (fields_from s x d ths j c k).fields k (fields_from s x d ths j c k).cursor (b + k * 3) (fields_near c b k h)) (omega arith)

      fields-same : (c : Cursor) (b k : ℕ) → Before c b → b + k * 3 ≤ n → fields_from (take n s) x d ths j c k ≡ fields_from s x d ths j c k
      unfolding fields_from
      fields-same c b zero h l = refl
      fields-same c b (suc k) h l =
          rw (
            fields-same c b k h (omega arith),
            field-same (fields_from s x d ths j c k).fields k (fields_from s x d ths j c k).cursor (b + k * 3) (fields_near c b k h) (omega arith),
          )

    -- the threads
    threads_near : (c : Cursor) (b i : ℕ) → Before c b → Before (threads_from s x d c i).cursor (b + i * thread_most)
    unfolding threads_from
    threads_near c b zero h = later (b + 0 * thread_most) h (omega arith)
    threads_near c b (suc i) h =
        later (b + suc i * thread_most)
        (fields_near (threads_from s x d c i).threads i (threads_from s x d c i).cursor (b + i * thread_most) (fields_in x) (threads_near c b i h)) (omega (arith, fields_in-most x))

    threads_same : (c : Cursor) (b i : ℕ) → Before c b → b + i * thread_most ≤ n → threads_from (take n s) x d c i ≡ threads_from s x d c i
    unfolding threads_from
    threads_same c b zero h k = refl
    threads_same c b (suc i) h k =
        rw (
          threads_same c b i h (omega arith),
          fields-same (threads_from s x d c i).threads i (threads_from s x d c i).cursor (b + i * thread_most) (fields_in x) (threads_near c b i h)
              (omega (arith, fields_in-most x)),
        )

  -- whether a byte stands at a place before n
  more_same : (p : ℕ) → p < n → ltb p (length (take n s)) ≡ ltb p (length s)
  more_same p h =
      by_test (ltb p (length s)) (λ e. rw e (lt-ltb p (length (take n s)) (omega (arith, length-take n s, ltb-true p (length s) e))))
      (λ e. rw e (le-ltb p (length (take n s)) (omega (arith, length-take n s, ltb-false p (length s) e))))

  after_same : (x d m : ℕ) (r : RowsRead) (b : ℕ) → Before r.cursor b → b + m * thread_most < n → after_rows (take n s) x d m r ≡ after_rows s x d m r
  unfolding after_rows ended
  after_same x d m r b h k =
      let t = threads_near x d r.cursor b m h in
      rw (threads_same x d r.cursor b m h (omega arith), more_same (threads_from s x d r.cursor m).cursor.next (omega (arith, t.next)))

  -- version, domains and count
  version_near : Before (version_from s) 3
  unfolding version_from
  version_near = ranged_near (good 0 0 0) versions 4 0 (record { start = omega arith; next = omega arith })

  domains_near : Before (domains_from s) 6
  unfolding domains_from
  domains_near = ranged_near (version_from s) domain_counts 5 3 version_near

  count_near : Before (count_from s) 9
  unfolding count_from
  count_near = ranged_near (domains_from s) thread_counts 5 6 domains_near

  version_same : front ≤ n → version_from (take n s) ≡ version_from s
  unfolding version_from
  version_same h = ranged-same (good 0 0 0) versions 4 0 (record { start = omega arith; next = omega arith }) (omega arith)

  domains-same : front ≤ n → domains_from (take n s) ≡ domains_from s
  unfolding domains_from
  domains-same h = rw (version_same h) (ranged-same (version_from s) domain_counts 5 3 version_near (omega arith))

  count_same : front ≤ n → count_from (take n s) ≡ count_from s
  unfolding count_from
  count_same h = rw (domains-same h) (ranged-same (domains_from s) thread_counts 5 6 domains_near (omega arith))

  domains_few : (domains_from s).value ≤ 16
  unfolding domains_from
  domains_few = ranged_le s (version_from s) domain_counts 5

  count_few : (count_from s).value ≤ 32
  unfolding count_from
  count_few = ranged_le s (domains_from s) thread_counts 5

  -- So the first bytes of a file, `front` or more, have the verdict and the table of the whole.
  pub reading-front : front ≤ n → reading (take n s) ≡ reading s
  unfolding reading
  reading-front h =
      let x = (version_from s).value in
      let d = (domains_from s).value in
      let few = domains_few in
      let many = count_few in
      let near = rows_near x d (count_from s) 9 d count_near in
      rw (count_same h, domains-same h, version_same h, rows_same x d (count_from s) 9 d count_near (omega arith))
      (after_same x d (count_from s).value (rows_from s d (count_from s) d) (9 + d * 3) near (omega arith))
