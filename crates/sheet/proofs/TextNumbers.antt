-- The text of a table is the text of its numbers, each with the end that is due: its lines one after the other.
use Prim.Native.Nat.{ℕ, zero, suc, ◌+◌, ◌-◌, ◌*◌, ◌%◌, ◌≤◌, ◌<◌}
use mathlib.Core.Path.{◌≡◌, refl, ap, sym, ◌∙◌, subst}
use mathlib.Core.Bool.{Bool}
use mathlib.Core.List.{List, [], ◌∷◌, ◌++◌, append_assoc, append-nil}
use native.Mathlib.Omega.{arith}
use lib.ListN.{length, get_or, take, length-append}
use lib.Seq.{take-suc, take-length, length-take-le}
use lib.Dec.{eqb, leb}
use borrow.Author.Tests.{le-leb, lt-leb, eq-eqb, ne_eqb, eqb-true, eqb-false}
use Rattle.basis.specs.Tests.{and, or}
use Rattle.basis.proofs.TestLaws.{by_test}
use Rattle.basis.proofs.SearchLaws.{length-listed}
use Rattle.table.specs.Threads.{none, fields, fields_in}
use Rattle.table.specs.declared.Table.{Table}
use Rattle.table.specs.declared.Thread.{Thread}
use Rattle.table.proofs.RangeLaws.{by_fields}
use Rattle.writer.specs.Format.{row_numbers, written_fields, thread_numbers, numbers}
use Rattle.sheet.specs.Text.{line_part, line, thread_lines, text, line_over, text_part, text_of}
use Rattle.sheet.proofs.TextLaws.{text-last}

-- Numbers ws behind the numbers us, where a line ends behind the last of them and not before: the line of ws.
module _ (us ws : List ℕ) (over : (i : ℕ) → i < length ws → line_over (us ++ take (suc i) ws) ≡ eqb (suc i) (length ws)) where
  stretch : (i : ℕ) → i ≤ length ws → text_of (us ++ take i ws) ≡ text_of us ++ line_part ws i
  unfolding line_part
  stretch zero h = ap text_of (append-nil us) ∙ sym (append-nil (text_of us))
  stretch (suc i) h =
      let v : ℕ = get_or ws i 0 in
      let e : us ++ take (suc i) ws ≡ us ++ take i ws ++ (v ∷ []) = rw (take-suc ws i 0 h) (sym (append_assoc us (take i ws) (v ∷ []))) in
      let o : line_over (us ++ take i ws ++ (v ∷ [])) ≡ eqb (suc i) (length ws) = subst (λ (l : List ℕ). line_over l ≡ eqb (suc i) (length ws)) e (over i h) in
      ap text_of e ∙ text-last (us ++ take i ws) v ∙ rw (stretch i (omega arith), o) (append_assoc (text_of us) (line_part ws i) _)

  line-behind : text_of (us ++ ws) ≡ text_of us ++ line ws
  line-behind = subst (λ (l : List ℕ). text_of (us ++ l) ≡ text_of us ++ line ws) (take-length ws) (stretch (length ws) (omega arith))

-- Where lines end, by how many numbers stand behind the first three.
module _ (x d : ℕ) where
  unfoldable ended : ℕ → Bool
  ended m = or (eqb m 0) (and (leb d m) (eqb ((m - d) % fields_in x) 0))

  -- Behind the last row.
  rows_over : (i : ℕ) → i < d → ended (suc i) ≡ eqb (suc i) d
  unfolding ended
  rows_over i l =
      let a = ne_eqb (suc i) 0 (λ z. omega arith) in
      by_test (eqb (suc i) d)
      (λ e. let q : suc i ≡ d = eqb-true _ _ e in
      let z : (suc i - d) % fields_in x ≡ 0 = by_fields (λ (w : ℕ). (suc i - d) % w ≡ 0) x (omega arith) (omega arith) in
      rw (a, e, le-leb d (suc i) (omega arith), eq-eqb ((suc i - d) % fields_in x) 0 z))
      (λ e. let n = eqb-false (suc i) d e in rw (a, e, lt-leb d (suc i) (omega arith)))

  -- Behind the last field of each thread.
  record Left (w k j m : ℕ) : Type 0 where
    last : suc j ≡ w → (m - d) % w ≡ 0
    inner : (suc j ≡ w → ⊥) → (m - d) % w ≡ 0 → ⊥

  left : (k j m : ℕ) → m ≡ d + (fields_in x * k + suc j) → j < fields_in x → Left (fields_in x) k j m
  left k j m =
      by_fields (λ (w : ℕ). m ≡ d + (w * k + suc j) → j < w → Left w k j m) x
      (λ q l. record { last = λ e. omega arith; inner = λ n z. omega arith })
      (λ q l. record { last = λ e. omega arith; inner = λ n z. omega arith })

  thread_over : (k j m : ℕ) → m ≡ d + (fields_in x * k + suc j) → j < fields_in x → ended m ≡ eqb (suc j) (fields_in x)
  unfolding ended
  thread_over k j m q l =
      let a = ne_eqb m 0 (λ z. omega arith) in
      let b = le-leb d m (omega arith) in
      let r : Left (fields_in x) k j m = left k j m q l in
      by_test (eqb (suc j) (fields_in x))
      (λ e. rw (a, b, e, eq-eqb ((m - d) % fields_in x) 0 (r.last (eqb-true _ _ e))))
      (λ e. rw (a, b, e, ne_eqb ((m - d) % fields_in x) 0 (r.inner (eqb-false _ _ e))))

-- How many numbers.
fields_long : (x : ℕ) (th : Thread) → length (written_fields x th) ≡ fields_in x
fields_long x th = by_fields (λ (w : ℕ). length (take w (fields th)) ≡ w) x refl refl

threads_long : (x : ℕ) (ths : List Thread) (n : ℕ) → length (thread_numbers x ths n) ≡ fields_in x * n
unfolding thread_numbers
threads_long x ths zero = omega arith
threads_long x ths (suc n) =
    let e = length-append (thread_numbers x ths n) (written_fields x (get_or ths n none)) in
    omega (arith, e, threads_long x ths n, fields_long x (get_or ths n none))

pub rows_long : (rows : List ℕ) (n : ℕ) → length (row_numbers rows n) ≡ n
unfolding row_numbers
rows_long rows n = length-listed n _

-- The lines of a table: of its first three numbers, of the rows, of each thread.
module _ (x d n : ℕ) (rows : List ℕ) (ths : List Thread) where
  over_by : (l : List ℕ) (m : ℕ) → length l ≡ m → line_over (x ∷ d ∷ n ∷ l) ≡ ended x d m
  unfolding line_over ended
  over_by l m e = rw e

  head_text : text_of (x ∷ d ∷ n ∷ []) ≡ line (x ∷ d ∷ n ∷ [])
  unfolding text_part line_part line_over
  head_text = refl

  rows-text : text_of (x ∷ d ∷ n ∷ row_numbers rows d) ≡ line (x ∷ d ∷ n ∷ []) ++ line (row_numbers rows d)
  rows-text =
      let rs : List ℕ = row_numbers rows d in
      line-behind (x ∷ d ∷ n ∷ []) rs
      (λ i h. let l : i < d = omega (arith, rows_long rows d) in
      over_by (take (suc i) rs) (suc i) (length-take-le (suc i) rs h) ∙ rows_over x d i l ∙ rw (rows_long rows d))
      ∙ ap (λ (l : List ℕ). l ++ line rs) head_text

  threads_text : (k : ℕ) → text_of (x ∷ d ∷ n ∷ (row_numbers rows d ++ thread_numbers x ths k))
      ≡ line (x ∷ d ∷ n ∷ []) ++ line (row_numbers rows d) ++ thread_lines x ths k
  unfolding thread_numbers thread_lines
  threads_text zero = rw (append-nil (row_numbers rows d)) (rows-text ∙ sym (append-nil (line (x ∷ d ∷ n ∷ []) ++ line (row_numbers rows d))))
  threads_text (suc k) =
      let rs : List ℕ = row_numbers rows d in
      let ts : List ℕ = thread_numbers x ths k in
      let ws : List ℕ = written_fields x (get_or ths k none) in
      let w : length ws ≡ fields_in x = fields_long x (get_or ths k none) in
      let front : List ℕ = line (x ∷ d ∷ n ∷ []) ++ line rs in
      let e : rs ++ ts ++ ws ≡ rs ++ (ts ++ ws) = append_assoc rs ts ws in
      let over : (i : ℕ) → i < length ws → line_over (x ∷ d ∷ n ∷ (rs ++ ts ++ take (suc i) ws)) ≡ eqb (suc i) (length ws)
      = λ i h.
      let l : i < fields_in x = omega (arith, w) in
      let m : length (rs ++ ts ++ take (suc i) ws) ≡ d + (fields_in x * k + suc i) = omega (
        arith,
        length-append (rs ++ ts) (take (suc i) ws),
        length-append rs ts,
        rows_long rows d,
        threads_long x ths k,
        length-take-le (suc i) ws h,
      ) in
      over_by (rs ++ ts ++ take (suc i) ws) _ m ∙ thread_over x d k i _ refl l ∙ rw w in
      ap (λ (l : List ℕ). text_of (x ∷ d ∷ n ∷ l)) (sym e)
      ∙ line-behind (x ∷ d ∷ n ∷ (rs ++ ts)) ws over
      ∙ ap (λ (l : List ℕ). l ++ line ws) (threads_text k)
      ∙ append_assoc front (thread_lines x ths k) (line ws)

pub text-numbers : (t : Table) → text_of (numbers t) ≡ text t
unfolding numbers text
text-numbers t = threads_text t.version t.domains t.count t.rows t.threads t.count
