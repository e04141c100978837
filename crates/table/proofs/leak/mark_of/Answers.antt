use Rattle.flow.specs.Flow.{flows}
use Rattle.table.specs.Mark.{hidden_below, seen_by, protects, mark}
use Rattle.basis.proofs.TestLaws.{by_test}
use Rattle.basis.proofs.SearchLaws.{first-all, first_hit}
use Rattle.basis.specs.Tests.{pick, and}
use Rattle.basis.specs.Search.{Sought, nothing, found}
use Rattle.table.specs.Threads.{thread}
use Rattle.table.specs.declared.Table.{Table}
use Rattle.std.proofs.Common.{◌≡◌, ℕ, Bool, true, false, not, ◌/◌, ◌%◌, ◌^◌, ◌≤◌, ◌<◌, eqb, ltb, get_or, Option, Some, None, MatchOption, sym, ap, ◌∙◌, arith, rules}
use Rattle.std.proofs.lemmas.Iterator.{first_from_Range}
use borrow.Author.Tests.{tests}
use Rattle.table.proofs.leak.mark_of.Goals as goal

-- What `hides` answers of two threads of the table, in whatever words the tests of the mark are joined.
hidden-same : (t : Table) (i j : ℕ)
    → and (ltb (thread t j).priority (thread t i).priority) (not (eqb (get_or t.rows (thread t i).domain 0 / 2 ^ (thread t j).domain % 2) 1)) ≡ hidden_below t i j
unfolding hidden_below seen_by flows
hidden-same t i j =
    by_test (ltb (thread t j).priority (thread t i).priority)
    (λ e. by_test (flows t.rows (thread t i).domain (thread t j).domain) (λ f. simp (e, f)) (λ f. simp (e, f)))
    (λ e. by_test (flows t.rows (thread t i).domain (thread t j).domain) (λ f. simp (e, f)) (λ f. simp (e, f)))

-- The first thread that is hidden below is whom the mark protects.
first-mark : (t : Table) (i : ℕ) (r : Option ℕ)
    → MatchOption r ((k : ℕ) → 0 ≤ k → k < t.count → hidden_below t i k ≡ false)
    (λ j. (0 ≤ j) × (j < t.count) × (hidden_below t i j ≡ true) × ((k : ℕ) → 0 ≤ k → k < j → hidden_below t i k ≡ false))
    → r ≡ mark (protects t i)
unfolding protects pick
first-mark t i None h = ap mark (sym (first-all _ t.count (λ k l. rw (h k (omega arith) l))))
first-mark t i (Some j) h =
    let f : ℕ → Sought ℕ = λ k. pick (hidden_below t i k) (found k) nothing in
    ap mark (sym (first_hit f j t.count j (first-all f j (λ k l. rw (h.3 k (omega arith) l))) (rw h.2) h.1))

pub returns : goal.returns
returns c =
    first-mark c.args.t c.args.i c.find.result
    (first_from_Range _ _ _ _ (λ j. hidden_below c.args.t c.args.i j ≡ true) (λ j. hidden_below c.args.t c.args.i j ≡ false) c.find.ensures.ran
    (λ x q k. sym (hidden-same c.args.t c.args.i x) ∙ search (rules, tests)) (λ x q k. (search rules, sym (hidden-same c.args.t c.args.i x) ∙ search (rules, tests))))
