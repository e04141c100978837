-- The numbers of a legal table are below 65,536, so that its byte form is bytes.
use Prim.Native.Nat.{ℕ, zero, suc, ◌≤◌, ◌<◌}
use mathlib.Core.List.{List, [], ◌∷◌}
use native.Mathlib.Omega.{arith}
use lib.ListN.{get_or, take}
use Rattle.basis.specs.Search.{listed}
use Rattle.flow.proofs.FlowLaws.{row_small}
use Rattle.table.specs.Threads.{none, fields}
use Rattle.table.specs.Legal.{Legal, LegalThread}
use Rattle.table.specs.declared.Table.{Table}
use Rattle.table.specs.declared.Thread.{Thread}
use Rattle.table.proofs.RangeLaws.{by_fields}
use Rattle.table.proofs.LegalLaws.{parts_of_legal}
use Rattle.numeral.specs.NumberRules.{Bytes}
use Rattle.writer.specs.Format.{row_numbers, written_fields, thread_numbers, numbers, bytes}
use Rattle.sheet.proofs.EncodeLaws.{Low, below_more, below_join, low_none, low_next, bytes-all}

thread_low : (x d : ℕ) (th : Thread) → d ≤ 16 → LegalThread x d th → Low (written_fields x th)
thread_low x d th h g =
    let a : th.domain < 65536 = omega (arith, g.domain_high) in
    let b : th.priority < 65536 = omega (arith, g.priority_high) in
    let c : th.period < 65536 = omega (arith, g.period_high) in
    let o : th.offset < 65536 = omega (arith, g.offset_high) in
    let w : th.budget < 65536 = omega (arith, g.budget_high) in
    let e : th.deadline < 65536 = omega (arith, g.deadline_high) in
    let f : th.blocking < 65536 = omega (arith, g.blocking_high) in
    let k : th.kind < 65536 = omega (arith, g.kind_high) in
    let seven : (l : List ℕ) → Low l → Low (th.domain ∷ th.priority ∷ th.period ∷ th.offset ∷ th.budget ∷ th.deadline ∷ th.blocking ∷ l)
    = λ l r. below_more a (below_more b (below_more c (below_more o (below_more w (below_more e (below_more f r)))))) in
    by_fields (λ (n : ℕ). Low (take n (fields th))) x (seven [] low_none) (seven (th.kind ∷ []) (below_more k low_none))

threads_low : (x d : ℕ) (ths : List Thread) → d ≤ 16 → (n : ℕ) → ((i : ℕ) → i < n → LegalThread x d (get_or ths i none)) → Low (thread_numbers x ths n)
unfolding thread_numbers
threads_low x d ths h zero g = low_none
threads_low x d ths h (suc n) g =
    below_join (thread_numbers x ths n) (written_fields x (get_or ths n none)) (threads_low x d ths h n (λ i l. g i (omega arith)))
    (thread_low x d (get_or ths n none) h (g n (omega arith)))

each_row_low : (rows : List ℕ) (n : ℕ) → ((i : ℕ) → i < n → get_or rows i 0 < 65536) → Low (row_numbers rows n)
unfolding row_numbers listed
each_row_low rows zero g = low_none
each_row_low rows (suc n) g = low_next (row_numbers rows n) (get_or rows n 0) (each_row_low rows n (λ i l. g i (omega arith))) (g n (omega arith))

module _ (t : Table) (g : Legal t) where
  pub rows_low : Low (row_numbers t.rows t.domains)
  rows_low =
      each_row_low t.rows t.domains
      (λ i l. row_small t.domains i (get_or t.rows i 0) g.domains_high ((parts_of_legal t g).row i l))

  pub numbers_low : Low (numbers t)
  unfolding numbers
  numbers_low =
      let ts = threads_low t.version t.domains t.threads g.domains_high t.count g.threads in
      below_more (omega (arith, g.version_high))
      (below_more (omega (arith, g.domains_high)) (below_more (omega (arith, g.count_high)) (below_join _ _ rows_low ts)))

  pub legal-bytes : Bytes (bytes t)
  unfolding bytes
  legal-bytes = bytes-all (numbers t) numbers_low
