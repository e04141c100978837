-- The mark names exactly whom it protects and says that a thread leaks, `marks` gives these marks, and no second answer fits it.
use Prim.Native.Nat.{ℕ, ◌-◌, ◌≤◌, ◌<◌}
use mathlib.Core.Path.{◌≡◌, refl, sym, ◌∙◌, ap}
use mathlib.Core.Bool.{Bool, true, false, false≢true}
use mathlib.Core.Logic.{◌↔◌}
use native.Mathlib.Omega.{arith}
use lib.ListN.{length, get_or, replicate, length-append, length-replicate}
use borrow.Author.Tests.{ltb-true, lt-ltb}
use Rattle.basis.specs.Tests.{pick, some}
use Rattle.basis.specs.Search.{Sought, nothing, found, listed}
use Rattle.basis.specs.Told.{Told}
use Rattle.basis.proofs.TestLaws.{by_test, refuted, fails, joined, some-found, some_hit, Passing}
use Rattle.basis.proofs.SearchLaws.{first_hit, first-nothing, first-all, first_found, length-listed, listed_at, listed_past}
use Rattle.basis.proofs.ListLaws.{all_alike}
use Rattle.table.specs.Legal.{legal}
use Rattle.table.specs.Mark.{Mark, given, seen_by, hidden_below, protects, mark, marked, marks_of, is_set, told, marking, marks_given, Barred, Leaks, Protects}
use Rattle.table.specs.declared.Table.{Table}
use Rattle.basis.specs.declared.refusal.Refusal.{Refusal}
use Rattle.basis.proofs.RefusalLaws.{done-apart}
use Rattle.std.specs.Prelude.{List, Option, Some, None, Result, is_some, unwrap_or}
use Rattle.table.proofs.LegalLaws.{legal_small}

-- What a search by a test found, and what it passed by.
passing : (b : Bool) (n j : ℕ) → pick b (found n) nothing ≡ found j → (b ≡ true) × (n ≡ j)
unfolding pick
passing true n j e = (refl, cc)
passing false n j e = let z : ◌≡◌ {A = ℕ} 0 1 = cc in absurd (omega arith)

silent : (b : Bool) (n : ℕ) → pick b (found n) nothing ≡ nothing → b ≡ false
unfolding pick
silent true n e = let z : ◌≡◌ {A = ℕ} 0 1 = cc in absurd (omega arith)
silent false n e = refl

-- The test of the mark, in whatever words it is joined.
module _ (t : Table) (i j : ℕ) where
  hidden_of : Barred t i j → hidden_below t i j ≡ true
  unfolding hidden_below seen_by
  hidden_of b = simp (lt-ltb _ _ b.lower, b.unseen)

  hidden_says : hidden_below t i j ≡ true → Barred t i j
  unfolding hidden_below seen_by
  hidden_says h = record { lower = search (ltb-true, joined, h); unseen = search (joined, h) }

-- The thread named is barred and below, and no thread before it in table order is both.
pub protects-given : (t : Table) (i j : ℕ) → protects t i ≡ found j → Protects t i j
unfolding protects
protects-given t i j e =
    let w = first_found _ t.count j e in
    let p = passing _ _ j w.answers in
    record {
      in_table = rw p.1 at w.below;
      barred = hidden_says t i j (rw p.1 at p.0);
      before = λ k l u.
          let q : k < w.number = rw p.1 l in
          let n = silent _ _ (first-nothing _ w.number k w.earlier q) in
          refuted (hidden_of t i k u) n;
    }

pub protects_only : (t : Table) (i j : ℕ) → Protects t i j → protects t i ≡ found j
unfolding protects pick
protects_only t i j p =
    first_hit (λ k. pick (hidden_below t i k) (found k) nothing) j t.count j
    (first-all _ j (λ k l. rw (fails (hidden_below t i k) (λ h. p.before k l (hidden_says t i k h))))) (rw (hidden_of t i j p.barred)) p.in_table

pub protects_exactly : (t : Table) (i j : ℕ) → (protects t i ≡ found j) ↔ Protects t i j
protects_exactly t i j = (protects-given t i j, protects_only t i j)

-- A mark protects no second thread.
pub protects-once : (t : Table) (i j k : ℕ) → Protects t i j → Protects t i k → j ≡ k
protects-once t i j k p q = let e : found j ≡ found k = sym (protects_only t i j p) ∙ protects_only t i k q in cc

-- There is none exactly when no thread is barred and below.
pub protects-none : (t : Table) (i : ℕ) → (protects t i ≡ nothing) ↔ (Leaks t i → ⊥)
unfolding protects pick
protects-none t i = (
  λ e l.
      let n = silent _ l.thread_below (first-nothing (λ j. pick (hidden_below t i j) (found j) nothing) t.count l.thread_below e l.in_table) in
      refuted (hidden_of t i l.thread_below l.barred) n,
  λ n. first-all _ t.count (λ k c. rw (fails (hidden_below t i k) (λ h. n (record { thread_below = k; in_table = c; barred = hidden_says t i k h })))),
)

-- So a thread is marked exactly when it leaks.
pub mark_complete : (t : Table) (i : ℕ) → Leaks t i → marked t i ≡ true
unfolding marked
mark_complete t i l = go (protects t i) refl
  where
    go : (s : Sought ℕ) → protects t i ≡ s → is_some (mark s) ≡ true
    go nothing e = absurd ((protects-none t i).0 e l)
    go (found j) e = refl

pub mark_sound : (t : Table) (i : ℕ) → marked t i ≡ true → Leaks t i
unfolding marked
mark_sound t i m = go (protects t i) refl m
  where
    go : (s : Sought ℕ) → protects t i ≡ s → is_some (mark s) ≡ true → Leaks t i
    go nothing e m = absurd (false≢true m)
    go (found j) e m =
        let p : Protects t i j = protects-given t i j e in
        record { thread_below = j; in_table = p.in_table; barred = p.barred }

-- The mark as it was before it named a thread: some thread of the table is barred and below.
pub marked-some : (t : Table) (i : ℕ) → marked t i ≡ some t.count (hidden_below t i)
marked-some t i =
    by_test (marked t i)
    (λ e. let l : Leaks t i = mark_sound t i e in
    e ∙ sym (some_hit (hidden_below t i) l.thread_below t.count (hidden_of t i l.thread_below l.barred) l.in_table))
    (λ e. e ∙ sym (fails _ (λ h.
    let f : Passing (hidden_below t i) t.count = some-found _ t.count h in
    refuted (mark_complete t i (record { thread_below = f.number; in_table = f.below; barred = hidden_says t i _ f.passes })) e)))

-- A mark that is none has no thread, and one that protects thread j has it.
pub mark-none : mark nothing ≡ None
mark-none = refl

pub mark-some : (j : ℕ) → mark (found j) ≡ Some j
mark-some j = refl

-- The mark of each thread stands at its place.
pub marks_at : (t : Table) (i : ℕ) → i < t.count → get_or (marks_of t) i (mark nothing) ≡ mark (protects t i)
unfolding marks_of
marks_at t i h = listed_at (λ k. mark (protects t k)) t.count i (replicate (32 - t.count) (mark nothing)) (mark nothing) h

pub set_exactly : (t : Table) (i : ℕ) → i < t.count → is_set (marks_of t) i ≡ marked t i
unfolding marked
set_exactly t i h = ap (λ (m : Mark). is_some m) (marks_at t i h)

pub marks_given-at : (t : Table) (i : ℕ) → legal t ≡ true → i < t.count → get_or (marks_given t) i (mark nothing) ≡ mark (protects t i)
unfolding marks_given pick
marks_given-at t i e h = rw e (marks_at t i h)

-- What `marks` gives of a legal table: a thread's place is marked exactly when the thread leaks,
pub marks_exactly : (t : Table) (i : ℕ) → legal t ≡ true → i < t.count → (is_set (marks_given t) i ≡ true) ↔ Leaks t i
unfolding marked
marks_exactly t i e h =
    let q : is_set (marks_given t) i ≡ marked t i = ap (λ (m : Mark). is_some m) (marks_given-at t i e h) in
    (λ m. mark_sound t i (sym q ∙ m), λ l. q ∙ mark_complete t i l)

-- and with a thread exactly when that is whom the mark protects.
mark-found : (s : Sought ℕ) (j : ℕ) → mark s ≡ mark (found j) → s ≡ found j
mark-found nothing j e = absurd (false≢true (ap (λ (m : Mark). is_some m) e))
mark-found (found k) j e = ap found (ap (λ (m : Mark). unwrap_or m 0) e)

pub marks_name : (t : Table) (i j : ℕ) → legal t ≡ true → i < t.count → (get_or (marks_given t) i (mark nothing) ≡ mark (found j)) ↔ Protects t i j
marks_name t i j e h = (
  λ m. protects-given t i j (mark-found _ j (sym (marks_given-at t i e h) ∙ m)),
  λ p. marks_given-at t i e h ∙ ap mark (protects_only t i j p),
)

mark-nothing : (s : Sought ℕ) → mark s ≡ mark nothing → s ≡ nothing
mark-nothing nothing e = refl
mark-nothing (found k) e = absurd (false≢true (sym (ap (λ (m : Mark). is_some m) e)))

-- It is none exactly when the thread does not leak.
pub marks_none : (t : Table) (i : ℕ) → legal t ≡ true → i < t.count → (get_or (marks_given t) i (mark nothing) ≡ mark nothing) ↔ (Leaks t i → ⊥)
marks_none t i e h = (
  λ m. (protects-none t i).0 (mark-nothing _ (sym (marks_given-at t i e h) ∙ m)),
  λ n. marks_given-at t i e h ∙ ap mark ((protects-none t i).1 n),
)

-- A place past the last thread is unmarked, and so is every place of a table that is not legal.
pub marks_past : (t : Table) (i : ℕ) → t.count ≤ i → get_or (marks_given t) i (mark nothing) ≡ mark nothing
unfolding marks_given marks_of pick
marks_past t i h =
    by_test (legal t) (λ e. rw e (listed_past (λ k. mark (protects t k)) t.count (32 - t.count) i (mark nothing) h))
    (λ e. rw e (all_alike 32 i (mark nothing)))

pub marks_refused : (t : Table) (i : ℕ) → legal t ≡ false → get_or (marks_given t) i (mark nothing) ≡ mark nothing
unfolding marks_given pick
marks_refused t i e = rw e (all_alike 32 i (mark nothing))

pub marks_length : (t : Table) → length (marks_given t) ≡ 32
unfolding marks_given marks_of pick
marks_length t =
    by_test (legal t)
    (λ e. rw e (length-append (listed t.count (λ k. mark (protects t k))) (replicate (32 - t.count) (mark nothing))
    ∙ rw (length-listed t.count (λ k. mark (protects t k)), length-replicate (32 - t.count) (mark nothing)) (omega (arith, legal_small t e))))
    (λ e. rw e)

-- No second answer fits `marks`.
pub marks_unique : (t : Table) (r q : Result (List Mark) Refusal) → (told r ≡ marking t) × (given r ≡ marks_given t)
    → (told q ≡ marking t) × (given q ≡ marks_given t) → r ≡ q
marks_unique t r q e f = done-apart _ r q (e.0 ∙ sym f.0) (e.1 ∙ sym f.1)
