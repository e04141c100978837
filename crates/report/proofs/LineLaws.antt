-- How long a line is: the text of 64 bytes holds every one. And the lines of a trace, one byte more.
use Prim.Native.Nat.{ℕ, suc, ◌+◌, ◌≤◌, ◌<◌}
use mathlib.Core.Path.{◌≡◌, sym}
use mathlib.Core.List.{List, [], ◌∷◌, ◌++◌, append-nil, append_assoc}
use native.Mathlib.Omega.{arith}
use native.Mathlib.Numerals.{add-one}
use lib.ListN.{length, get_or, take, length-append}
use lib.Seq.{take-suc, length-take-le}
use Rattle.decimal.specs.Decimal.{decimal}
use Rattle.report.specs.Lines.{counted_line, step_line, answer, trace_lines, refused_line, refused_word, space, line_feed}
use Rattle.decimal.proofs.DecimalLaws.{decimal_long}

-- Two runs of bytes take no more than the most of each.
pub join_long : (xs ys : List ℕ) (m n : ℕ) → length xs ≤ m → length ys ≤ n → length (xs ++ ys) ≤ m + n
join_long xs ys m n h k = omega (arith, length-append xs ys)

pub counted_long : (word : List ℕ) (n : ℕ) → length word ≤ 8 → length (counted_line word n) ≤ 29
counted_long word n h = join_long (word ++ decimal n) line_feed 28 1 (join_long word (decimal n) 8 20 h (decimal_long n)) (omega arith)

-- The lines of one byte more.
pub trace_lines-last : (clock : ℕ) (bs : List ℕ) (b : ℕ) → trace_lines clock (bs ++ (b ∷ [])) ≡ trace_lines clock bs ++ step_line (clock + length bs) (answer b)
unfolding trace_lines
trace_lines-last clock [] b = let e : clock + 0 ≡ clock = omega arith in rw e (append-nil (step_line clock (answer b)))
trace_lines-last clock (x ∷ bs) b =
    let e : clock + suc (length bs) ≡ clock + 1 + length bs = omega arith in
    rw (e, trace_lines-last (clock + 1) bs b)
    (sym (append_assoc (step_line clock (answer x)) (trace_lines (clock + 1) bs) (step_line (clock + 1 + length bs) (answer b))))

pub trace_lines-next : (clock : ℕ) (bs : List ℕ) (k : ℕ) → k < length bs
    → trace_lines clock (take (k + 1) bs) ≡ trace_lines clock (take k bs) ++ step_line (clock + k) (answer (get_or bs k 0))
trace_lines-next clock bs k h =
    let e : length (take k bs) ≡ k = length-take-le k bs (omega arith) in
    rw (add-one k, take-suc bs k 0 h, trace_lines-last clock (take k bs) (get_or bs k 0), e)

-- `refused`, the number and a space, and the whole line.
pub refused_start_long : (number : ℕ) → length (refused_word ++ decimal number ++ space) ≤ 29
refused_start_long number =
    join_long (refused_word ++ decimal number) space 28 1 (join_long refused_word (decimal number) 8 20 (omega arith) (decimal_long number)) (omega arith)

pub refused_long : (number place : ℕ) → length (refused_line number place) ≤ 50
unfolding refused_line
refused_long number place =
    join_long (refused_word ++ decimal number ++ space ++ decimal place) line_feed 49 1
    (join_long (refused_word ++ decimal number ++ space) (decimal place) 29 20 (refused_start_long number) (decimal_long place)) (omega arith)
