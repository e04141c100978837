-- Laws of a table's numbers: they grow by one row and by one thread, and do not change with a store behind them.
use Prim.Native.Nat.{ℕ, zero, suc, ◌≤◌, ◌<◌}
use mathlib.Core.Path.{◌≡◌, refl, ap}
use mathlib.Core.List.{List, ◌++◌}
use native.Mathlib.Omega.{arith}
use lib.ListN.{get_or, set}
use lib.Seq.{get_or-set_other}
use lib.Dec.{eqb}
use Rattle.basis.specs.Search.{listed}
use Rattle.basis.proofs.TestLaws.{some_same}
use Rattle.table.specs.Threads.{none}
use Rattle.table.specs.Legal.{taken}
use Rattle.table.specs.declared.Thread.{Thread}
use Rattle.numeral.specs.Number.{encode, encode_all}
use Rattle.writer.specs.Format.{row_numbers, written_fields, thread_numbers}
use Rattle.numeral.proofs.NumberLaws.{encode_all-append, encode_all-last}

pub rows_more : (rows : List ℕ) (i : ℕ) → encode_all (row_numbers rows (suc i)) ≡ encode_all (row_numbers rows i) ++ encode (get_or rows i 0)
unfolding row_numbers listed
rows_more rows i = encode_all-last (listed i (λ i. get_or rows i 0)) (get_or rows i 0)

pub threads_more : (v : ℕ) (ths : List Thread) (i : ℕ) →
    encode_all (thread_numbers v ths (suc i)) ≡ encode_all (thread_numbers v ths i) ++ encode_all (written_fields v (get_or ths i none))
unfolding thread_numbers
threads_more v ths i = encode_all-append (thread_numbers v ths i) (written_fields v (get_or ths i none))

pub rows-set : (rows : List ℕ) (i j v : ℕ) → i ≤ j → row_numbers (set rows j v) i ≡ row_numbers rows i
unfolding row_numbers listed
rows-set rows zero j v h = refl
rows-set rows (suc i) j v h = rw (rows-set rows i j v (omega arith), get_or-set_other rows j i v 0 (λ z. omega arith))

pub threads_set : (v : ℕ) (ths : List Thread) (i j : ℕ) (th : Thread) → i ≤ j → thread_numbers v (set ths j th) i ≡ thread_numbers v ths i
unfolding thread_numbers
threads_set v ths zero j th h = refl
threads_set v ths (suc i) j th h = rw (threads_set v ths i j th (omega arith), get_or-set_other ths j i th none (λ z. omega arith))

-- Whether a priority is taken is decided by the threads before.
pub taken-same : (a b : List Thread) (i p : ℕ) → ((j : ℕ) → j < i → get_or a j none ≡ get_or b j none) → taken a i p ≡ taken b i p
unfolding taken
taken-same a b i p h = some_same _ _ i (λ j l. ap (λ (th : Thread). eqb th.priority p) (h j l))
