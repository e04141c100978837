-- Writing: runs of bytes put one after the other join into one run, bytes outside it stay, and the answer of `write` and its buffer are unique.
use Prim.Native.Nat.{ℕ, zero, suc, ◌+◌, ◌-◌, ◌≤◌, ◌<◌}
use mathlib.Core.Path.{◌≡◌, refl, ap, sym, ◌∙◌}
use mathlib.Core.Bool.{true, false}
use mathlib.Core.List.{List, [], ◌∷◌, ◌++◌, append_assoc}
use native.Mathlib.Omega.{arith}
use native.Mathlib.Numerals.{add-one}
use native.Mathlib.Nat.{add-zero}
use native.Mathlib.Decide.{le_ind}
use lib.ListN.{length, get_or, set, take, drop, length-append, length-drop, get_or-append}
use lib.Seq.{sets, sets-eq, length-sets, take-suc, take_all, length-take-le, take_at, drop_at, get_or-take, get_or-drop, get_or-append-add}
use lib.Dec.{leb}
use borrow.Author.Tests.{le-leb, lt-leb, leb-true}
use Rattle.std.specs.Prelude.{Result}
use Rattle.basis.specs.Tests.{pick}
use Rattle.basis.specs.Search.{listed}
use Rattle.basis.specs.Told.{Told, answered, refused}
use Rattle.basis.proofs.TestLaws.{by_test}
use Rattle.table.specs.Threads.{none, fields, fields_in}
use Rattle.table.specs.Legal.{legal}
use Rattle.table.proofs.RangeLaws.{fields_in-most}
use Rattle.table.specs.declared.Table.{Table}
use Rattle.table.specs.declared.Thread.{Thread}
use Rattle.basis.specs.declared.refusal.Refusal.{Refusal}
use Rattle.basis.proofs.RefusalLaws.{number-apart}
use Rattle.numeral.specs.Number.{encode, encode_all}
use Rattle.writer.specs.Format.{row_numbers, written_fields, thread_numbers, numbers, bytes}
use Rattle.writer.specs.Buffer.{Room, Put}
use Rattle.writer.specs.Writer.{overlaid, writing, written, told, Laid}
use Rattle.numeral.proofs.NumberLaws.{encode_one, encode_all-append, encode_all-last}

-- Two runs put one after the other are one.
sets_join : (xs ys l : List ℕ) (i : ℕ) → sets (sets l i xs) (i + length xs) ys ≡ sets l i (xs ++ ys)
sets_join [] ys l i = rw add-zero
sets_join (x ∷ xs) ys l i =
    let e : i + suc (length xs) ≡ suc i + length xs = omega arith in rw e (sets_join xs ys (set l i x) (suc i))

pub put-none : (b : List ℕ) (at : ℕ) → Put b at b at []
put-none b at = record { end = omega arith; holds = refl }

pub put_join : {b : List ℕ} {at : ℕ} {b' : List ℕ} {k : ℕ} {xs b'' : List ℕ} {k' : ℕ} {ys : List ℕ} →
    Put b at b' k xs → Put b' k b'' k' ys → Put b at b'' k' (xs ++ ys)
put_join {b} {at} {b'} {k} {xs} {b''} {k'} {ys} f g = record {
  end = omega (arith, f.end, g.end, length-append xs ys);
  holds = g.holds ∙ rw (f.end, f.holds) (sets_join xs ys b at);
}

pub put-length : {b : List ℕ} {at : ℕ} {b' : List ℕ} {k : ℕ} {xs : List ℕ} → Put b at b' k xs → length b' ≡ length b
put-length {b} {at} {b'} {k} {xs} f = ap length f.holds ∙ length-sets b at xs

-- There is room for ys after xs where there was room for what holds both.
pub put_room : {b : List ℕ} {at : ℕ} {b' : List ℕ} {k : ℕ} {xs ys zs : List ℕ} →
    Put b at b' k xs → Room b at zs → length (xs ++ ys) ≤ length zs → Room b' k ys
put_room {xs = xs} {ys = ys} f l h = record { fits = omega (arith, f.end, l.fits, put-length f, length-append xs ys) }

pub room_part : {b : List ℕ} {at : ℕ} {xs zs : List ℕ} → Room b at zs → length xs ≤ length zs → Room b at xs
room_part l h = record { fits = omega (arith, l.fits) }

-- A run that there was room for is overlaid.
pub put-overlaid : {b : List ℕ} {at : ℕ} {b' : List ℕ} {k : ℕ} {xs : List ℕ} → Put b at b' k xs → at + length xs ≤ length b → b' ≡ overlaid b at xs
unfolding overlaid
put-overlaid {b} {at} {b'} {k} {xs} f h = f.holds ∙ sets-eq xs b at h

-- Bytes that grow by g i at each i below n.
module _ (f g : ℕ → List ℕ) (n : ℕ) (next : (i : ℕ) → i < n → f (i + 1) ≡ f i ++ g i) where
  -- what one turn puts has room in the whole
  pub grown_room : (i : ℕ) → i < n → length (f i ++ g i) ≤ length (f n)
  grown_room i h =
      le_ind (λ (m : ℕ). m ≤ n → length (f i ++ g i) ≤ length (f m))
      (λ l. rw (← add-one i, next i h) (omega arith))
      (λ m l r k. rw (← add-one m) (omega (arith, r (omega arith), ap length (next m k), length-append (f m) (g m)))) n h (omega arith)

-- The numbers of a list, of the rows and of the threads are written one at a time.
pub numbers-next : (vs : List ℕ) (i : ℕ) → i < length vs → encode_all (take (i + 1) vs) ≡ encode_all (take i vs) ++ encode (get_or vs i 0)
numbers-next vs i h = rw (add-one, take-suc vs i 0 h) (encode_all-last (take i vs) (get_or vs i 0))

pub numbers-length : (vs : List ℕ) (i : ℕ) → i < length vs →
    length (encode_all (take (i + 1) vs)) ≡ length (encode_all (take i vs)) + length (encode (get_or vs i 0))
numbers-length vs i h = ap length (numbers-next vs i h) ∙ length-append (encode_all (take i vs)) (encode (get_or vs i 0))

pub numbers_room : (vs : List ℕ) (i : ℕ) → i < length vs → length (encode_all (take i vs) ++ encode (get_or vs i 0)) ≤ length (encode_all vs)
numbers_room vs i h =
    rw (take_all (length vs) vs (omega arith)) at
    (grown_room (λ i. encode_all (take i vs)) (λ i. encode (get_or vs i 0)) (length vs) (numbers-next vs) i h)

rows_next : (rows : List ℕ) (i : ℕ) → encode_all (row_numbers rows (i + 1)) ≡ encode_all (row_numbers rows i) ++ encode (get_or rows i 0)
unfolding row_numbers listed
rows_next rows i = rw add-one (encode_all-last (row_numbers rows i) (get_or rows i 0))

pub rows-length : (rows : List ℕ) (i : ℕ) →
    length (encode_all (row_numbers rows (i + 1))) ≡ length (encode_all (row_numbers rows i)) + length (encode (get_or rows i 0))
rows-length rows i = ap length (rows_next rows i) ∙ length-append (encode_all (row_numbers rows i)) (encode (get_or rows i 0))

-- The rows that are written stand first among all rows.
pub rows-take : (rows : List ℕ) (n : ℕ) → n ≤ length rows → row_numbers rows n ≡ take n rows
unfolding row_numbers listed
rows-take rows zero h = refl
rows-take rows (suc n) h = rw (take-suc rows n 0 h) (ap (λ (xs : List ℕ). xs ++ (get_or rows n 0 ∷ [])) (rows-take rows n (omega arith)))

pub threads_next : (v : ℕ) (ths : List Thread) (i : ℕ) →
    encode_all (thread_numbers v ths (i + 1)) ≡ encode_all (thread_numbers v ths i) ++ encode_all (written_fields v (get_or ths i none))
unfolding thread_numbers
threads_next v ths i = rw add-one (encode_all-append (thread_numbers v ths i) (written_fields v (get_or ths i none)))

pub threads_length : (v : ℕ) (ths : List Thread) (i : ℕ) →
    length (encode_all (thread_numbers v ths (i + 1))) ≡ length (encode_all (thread_numbers v ths i)) + length (encode_all (written_fields v (get_or ths i none)))
threads_length v ths i = ap length (threads_next v ths i) ∙ length-append (encode_all (thread_numbers v ths i)) (encode_all (written_fields v (get_or ths i none)))

pub threads_room : (v : ℕ) (ths : List Thread) (n i : ℕ) → i < n →
    length (encode_all (thread_numbers v ths i) ++ encode_all (written_fields v (get_or ths i none))) ≤ length (encode_all (thread_numbers v ths n))
threads_room v ths n =
    grown_room (λ i. encode_all (thread_numbers v ths i)) (λ i. encode_all (written_fields v (get_or ths i none))) n (λ i h. threads_next v ths i)

-- A thread has as many fields as are written.
pub enough : (th : Thread) (v n : ℕ) (vs : List ℕ) → vs ≡ fields th → n ≡ fields_in v → n ≤ length vs
enough th v n vs e f = rw (e, f) (fields_in-most v)

-- The first n threads have the numbers that all have up to n.
pub threads-take : (v : ℕ) (ths : List Thread) (n m : ℕ) → m ≤ n → thread_numbers v (take n ths) m ≡ thread_numbers v ths m
unfolding thread_numbers
threads-take v ths n zero h = refl
threads-take v ths n (suc m) h = rw (threads-take v ths n m (omega arith), get_or-take n ths m none h)

module _ (v : ℕ) (ths : List Thread) (n : ℕ) (h : n ≤ length ths) (i : ℕ) where
  pub first_room : i < length (take n ths) →
      length (encode_all (thread_numbers v (take n ths) i) ++ encode_all (written_fields v (get_or (take n ths) i none))) ≤ length (encode_all (thread_numbers v ths n))
  first_room k = rw (threads-take v ths n n (omega arith)) at (threads_room v (take n ths) n i (omega (arith, length-take-le n ths h)))

  pub first_all : i ≤ length (take n ths) → length (take n ths) ≤ i → thread_numbers v (take n ths) i ≡ thread_numbers v ths n
  first_all k l =
      let e : i ≡ n = omega (arith, length-take-le n ths h) in
      rw e (threads-take v ths n n (omega arith))

-- The three parts in which the bytes of a table are written.
abbrev pub head_bytes : Table → List ℕ
head_bytes t = encode_all (t.version ∷ t.domains ∷ t.count ∷ [])

abbrev pub rows_bytes : Table → List ℕ
rows_bytes t = encode_all (row_numbers t.rows t.domains)

abbrev pub threads_bytes : Table → List ℕ
threads_bytes t = encode_all (thread_numbers t.version t.threads t.count)

pub bytes_parts : (t : Table) → bytes t ≡ (head_bytes t ++ rows_bytes t) ++ threads_bytes t
unfolding bytes numbers
bytes_parts t =
    let h : List ℕ = t.version ∷ t.domains ∷ t.count ∷ [] in
    let r : List ℕ = row_numbers t.rows t.domains in
    let s : List ℕ = thread_numbers t.version t.threads t.count in
    encode_all-append h (r ++ s) ∙ rw (encode_all-append r s) (sym (append_assoc (encode_all h) (encode_all r) (encode_all s)))

pub parts_length : (t : Table) → length (bytes t) ≡ length (head_bytes t) + length (rows_bytes t) + length (threads_bytes t)
parts_length t =
    omega (arith, ap length (bytes_parts t), length-append (head_bytes t ++ rows_bytes t) (threads_bytes t), length-append (head_bytes t) (rows_bytes t))

pub parts_room : (t : Table) → (length (head_bytes t) ≤ length (bytes t)) × (length (head_bytes t ++ rows_bytes t) ≤ length (bytes t))
    × (length ((head_bytes t ++ rows_bytes t) ++ threads_bytes t) ≤ length (bytes t))
parts_room t = omega (arith, parts_length t, ap length (bytes_parts t), length-append (head_bytes t) (rows_bytes t))

-- Version, domains and count of a table that is not too large take a byte each.
pub bytes-length : (t : Table) → t.version ≤ 2 → t.domains ≤ 16 → t.count ≤ 32 → length (bytes t) ≡ 3 + length (rows_bytes t) + length (threads_bytes t)
unfolding encode_all
bytes-length t g h k =
    rw (encode_one t.version (omega arith), encode_one t.domains (omega arith), encode_one t.count (omega arith)) at (parts_length t)

-- What is answered, and what the buffer then holds, in the three cases.
module _ (b : List ℕ) (at : ℕ) (t : Table) where
  pub told-bad : legal t ≡ false → (refused 11 ≡ writing b at t) × (b ≡ written b at t)
  unfolding writing written pick
  told-bad e = (rw e, rw e)

  pub told-short : legal t ≡ true → length b < at + length (bytes t) → (refused 16 ≡ writing b at t) × (b ≡ written b at t)
  unfolding writing written pick
  told-short e h = let l = lt-leb (at + length (bytes t)) (length b) h in (rw (e, l), rw (e, l))

  pub told-done : {b' : List ℕ} {k : ℕ} → legal t ≡ true → at + length (bytes t) ≤ length b → Put b at b' k (bytes t)
      → (answered (k ∷ []) ≡ writing b at t) × (b' ≡ written b at t)
  unfolding writing written pick
  told-done e h f =
      let l = le-leb (at + length (bytes t)) (length b) h in
      (rw (e, l, f.end), rw (e, l) (put-overlaid f h))

-- What is overlaid stands there, and every byte outside it stays.
pub overlaid_laid : (b : List ℕ) (at : ℕ) (xs : List ℕ) → at + length xs ≤ length b → Laid b at (at + length xs) xs (overlaid b at xs)
unfolding overlaid
overlaid_laid b at xs h =
    let l : length (take at b) ≡ at = length-take-le at b (omega arith) in
    let m : length (take at b ++ xs) ≡ at + length xs = length-append (take at b) xs ∙ rw l in
    let rest : List ℕ = drop (at + length xs) b in
    record {
      part = rw (take_at (take at b ++ xs) rest (at + length xs) m) (drop_at (take at b) xs at l);
      before = λ i k.
          get_or-append (take at b ++ xs) rest 0 i (omega (arith, m)) ∙ get_or-append (take at b) xs 0 i (rw l k) ∙ get_or-take at b i 0 k;
      behind = λ i k.
          let q : length (take at b ++ xs) + (i - (at + length xs)) ≡ i = omega (arith, m) in
          let r : at + length xs + (i - (at + length xs)) ≡ i = omega arith in
          (rw q at (get_or-append-add (take at b ++ xs) rest (i - (at + length xs)) 0)) ∙ get_or-drop (at + length xs) b (i - (at + length xs)) 0 ∙ rw r;
      long = length-append (take at b ++ xs) rest ∙ omega (arith, m, length-drop (at + length xs) b);
    }

-- An answered writing left the bytes of its table from its place up to the place told, and all other bytes as they were.
pub written_laid : (b : List ℕ) (at : ℕ) (t : Table) (next : ℕ) → writing b at t ≡ answered (next ∷ []) → Laid b at next (bytes t) (written b at t)
unfolding writing written pick
written_laid b at t next e =
    by_test (legal t)
    (λ l. by_test (leb (at + length (bytes t)) (length b))
    (λ m. let f : answered ((at + length (bytes t)) ∷ []) ≡ answered (next ∷ []) = rw (l, m) at e in
    let v = ap (λ (w : Told). w.values) f in
    let q : at + length (bytes t) ≡ next = cc in
    rw (l, m, ← q) (overlaid_laid b at (bytes t) (leb-true _ _ m)))
    (λ m. wrong 16 next (omega arith) (rw (l, m) at e)))
    (λ l. wrong 11 next (omega arith) (rw l at e))
  where
    wrong : {A : Type 0} (w next : ℕ) → 0 < w → refused w ≡ answered (next ∷ []) → A
    wrong w next h f = let q : w ≡ 0 = ap (λ (x : Told). x.number) f in absurd (omega arith)

-- A refused writing left every byte as it was.
pub refused_stays : (b : List ℕ) (at : ℕ) (t : Table) → 0 < (writing b at t).number → written b at t ≡ b
unfolding writing written pick
refused_stays b at t h =
    by_test (legal t)
    (λ l. by_test (leb (at + length (bytes t)) (length b)) (λ m. let z : 0 < 0 = rw (l, m) at h in absurd (omega arith)) (λ m. rw (l, m))) (λ l. rw l)

-- No second answer and no second final buffer fit `write`.
pub write_unique : (t : Table) (b : List ℕ) (at : ℕ) (a a' : Result ℕ Refusal) (c c' : List ℕ) →
    (told a ≡ writing b at t) × (c ≡ written b at t) → (told a' ≡ writing b at t) × (c' ≡ written b at t) → (a ≡ a') × (c ≡ c')
write_unique t b at a a' c c' p q = (number-apart a a' (p.0 ∙ sym q.0), p.1 ∙ sym q.1)
