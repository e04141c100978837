-- What the host is told, case by case: the reader's refusal, then 15, then the answer about a thread.
use Prim.Native.Nat.{ℕ, ◌-◌, ◌≤◌, ◌<◌}
use mathlib.Core.Path.{◌≡◌, refl, sym, ◌∙◌, ap, subst}
use mathlib.Core.List.{List}
use mathlib.Core.Bool.{true}
use mathlib.Core.Logic.{◌≢◌, ◌↔◌}
use native.Mathlib.Omega.{arith}
use lib.ListN.{get_or}
use lib.Dec.{eqb, ltb}
use borrow.Author.Tests.{eq-eqb, ne_eqb, lt-ltb, le-ltb, eqb-true, eqb-false, ltb-true, ltb-false}
use Rattle.basis.specs.Tests.{pick}
use Rattle.basis.specs.Search.{Sought, nothing, found}
use Rattle.basis.proofs.TestLaws.{by_test}
use Rattle.table.specs.declared.Table.{Table}
use Rattle.table.specs.Legal.{legal, Legal}
use Rattle.table.specs.Mark.{Mark, Leaks, Protects, protects, mark, marks_given, given}
use Rattle.table.proofs.LegalLaws.{legal_complete, legal_small}
use Rattle.table.proofs.MarkLaws.{protects-given, protects_only, protects-none, marks_given-at, marks_past, marks_refused}
use Rattle.numeral.specs.NumberRules.{Bytes}
use Rattle.reader.specs.Reader.{Read, accepted, reading, read_of}
use Rattle.reader.specs.declared.Fault.{Fault}
use Rattle.basis.specs.Told.{answered}
use Rattle.basis.specs.Refusals.{number, refused_by}
use Rattle.basis.specs.declared.refusal.Refusal.{Refusal}
use Rattle.basis.proofs.RefusalLaws.{number-positive}
use Rattle.std.proofs.Common.{Option, Some, None, Result, Ok, Err, option_to_list, unwrap_or, replicate}
use Rattle.std.specs.Result.{result_unwrap_or}
use Rattle.std.specs.Option.{option_flatten}
use Rattle.reader.proofs.ReaderLaws.{accepted-plain}
use Rattle.codec.proofs.RoundTrip.{accepted_exactly}
use Rattle.admission.specs.Bounded.{bound, sought_told, bounding, IsBound, NoBound}
use Rattle.admission.specs.Admit.{or_zero}
use Rattle.admission.proofs.BoundLaws.{bound_at, bound-none, is_of_bound, none_of_bound}
use Rattle.host.specs.Host.{verdict, refusal, of_thread, mark_told, mark_number, told_number, bound_number, thread_mark, thread_bound, Refuses, not_read, no_thread, Refused, WithoutBound}

module _ (f : Table → ℕ → ℕ) (s : List ℕ) (i : ℕ) where
  pub unread : verdict s ≢ 0 → of_thread f s i ≡ refusal (verdict s)
  unfolding of_thread pick
  unread h = rw (ne_eqb _ _ h)

  pub lacking : verdict s ≡ 0 → (reading s).table.count ≤ i → of_thread f s i ≡ refusal 15
  unfolding of_thread pick
  lacking h l = rw (eq-eqb _ _ h, le-ltb _ _ l)

  pub answering : verdict s ≡ 0 → i < (reading s).table.count → of_thread f s i ≡ f (reading s).table i
  unfolding of_thread pick
  answering h l = rw (eq-eqb _ _ h, lt-ltb _ _ l)

  pub refused_only : {n : ℕ} → Refuses s i n → of_thread f s i ≡ refusal n
  refused_only (not_read h) = unread h
  refused_only (no_thread h l) = lacking h l

-- Answers that are small of every thread of a table are apart from the refusals: 100,000 and n is answered exactly where n refuses.
module _ (f : Table → ℕ → ℕ) (s : List ℕ) (i : ℕ) (small : verdict s ≡ 0 → i < (reading s).table.count → f (reading s).table i < 100000) where
  refused-given : (n : ℕ) → of_thread f s i ≡ refusal n → Refuses s i n
  refused-given n e =
      by_test (eqb (verdict s) 0)
      (λ a. let z : verdict s ≡ 0 = eqb-true _ _ a in
      by_test (ltb i (reading s).table.count)
      (λ b. let l : i < (reading s).table.count = ltb-true _ _ b in absurd (omega (arith, small z l, e, answering f s i z l)))
      (λ b. let l : (reading s).table.count ≤ i = ltb-false _ _ b in
      let q : 15 ≡ n = omega (arith, e, lacking f s i z l) in subst (λ (m : ℕ). Refuses s i m) q (no_thread z l)))
      (λ a. let z : verdict s ≢ 0 = eqb-false _ _ a in
      let q : verdict s ≡ n = omega (arith, e, unread f s i z) in subst (λ (m : ℕ). Refuses s i m) q (not_read z))

  refused_exactly : (n : ℕ) → (of_thread f s i ≡ refusal n) ↔ Refuses s i n
  refused_exactly n = (λ e. refused-given n e, λ r. refused_only f s i r)

  apart_exactly : (100000 ≤ of_thread f s i) ↔ Refused s i
  apart_exactly = (
    λ h. record { number = of_thread f s i - 100000; refuses = refused-given (of_thread f s i - 100000) (omega arith) },
    λ r. omega (arith, refused_only f s i r.refuses),
  )

-- What the reader's answer says: the verdict and the table, or the refusal.
pub read_table : (s : List ℕ) (t : Table) → read_of (Ok t) ≡ reading s → (verdict s ≡ 0) × (t ≡ (reading s).table)
unfolding verdict
read_table s t e = (sym (ap (λ (r : Read). r.told.number) e), ap (λ (r : Read). r.table) e)

pub read_number : (s : List ℕ) (f : Fault) → read_of (Err f) ≡ reading s → number f.why ≡ verdict s
unfolding verdict
read_number s f e = ap (λ (r : Read). r.told.number) e

pub read_refuses : (s : List ℕ) (i : ℕ) (f : Fault) → read_of (Err f) ≡ reading s → Refuses s i (number f.why)
read_refuses s i f e = rw (read_number s f e) (not_read (λ z. omega (arith, number-positive f.why, read_number s f e)))

-- What a bound's answer tells, as a number.
pub refusal_told : (why : Refusal) → told_number (refused_by why) ≡ refusal (number why)
unfolding told_number pick
refusal_told why = rw (ne_eqb (number why) 0 (λ e. omega (arith, number-positive why)))

pub option_told : (o : Option ℕ) → told_number (answered (option_to_list o)) ≡ unwrap_or o 0
unfolding told_number pick
option_told None = refl
option_told (Some x) = refl

-- Whom a mark protects, as a number: the thread, or 255.
abbrev or_255 : Sought ℕ → ℕ
or_255 nothing = 255
or_255 (found j) = j

number-told : (s : Sought ℕ) → mark_told (mark s) ≡ or_255 s
number-told nothing = refl
number-told (found j) = refl

pub number_by : (t : Table) (i : ℕ) (s : Sought ℕ) → get_or (marks_given t) i (mark nothing) ≡ mark s → mark_number t i ≡ or_255 s
unfolding mark_number
number_by t i s e = ap mark_told e ∙ number-told s

told_small : (t : Table) (i : ℕ) → t.count ≤ 32 → (s : Sought ℕ) → protects t i ≡ s → or_255 s < 100000
told_small t i h nothing e = omega arith
told_small t i h (found j) e = omega (arith, (protects-given t i j e).in_table)

-- The mark that stands at a place of what `marks` answers.
given_is : (r : Result (List Mark) Refusal) → result_unwrap_or r (replicate 32 None) ≡ given r
given_is (Ok ms) = refl
given_is (Err why) = refl

flat : (o : Option Mark) → option_flatten o ≡ unwrap_or o None
flat None = refl
flat (Some m) = refl

pub mark_read : (t : Table) (i : ℕ) (r : Result (List Mark) Refusal) (ms : List Mark) (o : Option Mark) (m : Mark) → given r ≡ marks_given t → ms ≡ result_unwrap_or r (replicate 32 None)
    → m ≡ option_flatten o → unwrap_or o None ≡ get_or ms i None → mark_told m ≡ mark_number t i
unfolding mark_number
mark_read t i r ms o m g u e h = ap mark_told (e ∙ flat o ∙ h ∙ ap (λ (xs : List Mark). get_or xs i None) (u ∙ given_is r ∙ g))

mark_small : (t : Table) (i : ℕ) → mark_number t i < 100000
mark_small t i =
    by_test (legal t)
    (λ a. by_test (ltb i t.count)
    (λ b. rw (number_by t i (protects t i) (marks_given-at t i a (ltb-true _ _ b))) (told_small t i (legal_small t a).1 (protects t i) refl))
    (λ b. rw (number_by t i nothing (marks_past t i (ltb-false _ _ b))) (omega arith)))
    (λ a. rw (number_by t i nothing (marks_refused t i a)) (omega arith))

-- A mark answers 100,000 and more exactly on a refusal, and then says which.
pub mark_refused_exactly : (s : List ℕ) (i n : ℕ) → (thread_mark s i ≡ refusal n) ↔ Refuses s i n
unfolding thread_mark
mark_refused_exactly s i n = refused_exactly mark_number s i (λ z l. mark_small (reading s).table i) n

pub mark_apart_exactly : (s : List ℕ) (i : ℕ) → (100000 ≤ thread_mark s i) ↔ Refused s i
unfolding thread_mark
mark_apart_exactly s i = apart_exactly mark_number s i (λ z l. mark_small (reading s).table i)

-- A bound by its search: 0 where nothing was found.
bound_told : (b : Sought ℕ) → told_number (sought_told b) ≡ or_zero b
unfolding told_number pick
bound_told nothing = refl
bound_told (found x) = refl

bound_by : (t : Table) (i : ℕ) → legal t ≡ true → i < t.count → bound_number t i ≡ or_zero (bound t i)
unfolding bound_number bounding pick
bound_by t i a l = rw (a, lt-ltb i t.count l) (bound_told (bound t i))

module _ (t : Table) (g : Legal t) (i : ℕ) (l : i < t.count) where
  found_small : (b : Sought ℕ) → bound t i ≡ b → or_zero b < 100000
  found_small nothing e = omega arith
  found_small (found x) e = let th = g.threads i l in omega (arith, (is_of_bound t i x e).to_deadline, th.deadline_high, th.period_high)

  zero-none : (b : Sought ℕ) → bound t i ≡ b → or_zero b ≡ 0 → NoBound t i
  zero-none nothing e z = none_of_bound t i e
  zero-none (found x) e z = absurd (omega (arith, (is_of_bound t i x e).from_budget, (g.threads i l).budget_low))

module _ (s : List ℕ) (b : Bytes s) (i : ℕ) where
  legal_read : verdict s ≡ 0 → Legal (reading s).table
  unfolding verdict
  legal_read z = ((accepted_exactly s b (reading s).table).0 (accepted-plain s z)).0

  bound_small : verdict s ≡ 0 → i < (reading s).table.count → bound_number (reading s).table i < 100000
  bound_small z l =
      let g : Legal (reading s).table = legal_read z in
      rw (bound_by (reading s).table i (legal_complete _ g) l) (found_small (reading s).table g i l (bound (reading s).table i) refl)

  -- A bound answers 100,000 and more exactly on a refusal, and then says which.
  pub bound_refused_exactly : (n : ℕ) → (thread_bound s i ≡ refusal n) ↔ Refuses s i n
  unfolding thread_bound
  bound_refused_exactly n = refused_exactly bound_number s i bound_small n

  pub bound_apart_exactly : (100000 ≤ thread_bound s i) ↔ Refused s i
  unfolding thread_bound
  bound_apart_exactly = apart_exactly bound_number s i bound_small

  none_of_zero : thread_bound s i ≡ 0 → WithoutBound s i
  unfolding thread_bound
  none_of_zero e =
      by_test (eqb (verdict s) 0)
      (λ a. let z : verdict s ≡ 0 = eqb-true _ _ a in
      by_test (ltb i (reading s).table.count)
      (λ u. let l : i < (reading s).table.count = ltb-true _ _ u in
      let g : Legal (reading s).table = legal_read z in
      let q : or_zero (bound (reading s).table i) ≡ 0
      = sym (bound_by (reading s).table i (legal_complete _ g) l) ∙ sym (answering bound_number s i z l) ∙ e in
      record { read = z; in_table = l; none = zero-none (reading s).table g i l (bound (reading s).table i) refl q })
      (λ u. absurd (omega (arith, e, lacking bound_number s i z (ltb-false _ _ u)))))
      (λ a. absurd (omega (arith, e, unread bound_number s i (eqb-false _ _ a))))

  -- The bound's answer is 0 exactly where the bytes hold a table whose thread i has no bound.
  pub bound_zero_exactly : (thread_bound s i ≡ 0) ↔ WithoutBound s i
  unfolding thread_bound
  bound_zero_exactly = (
    none_of_zero,
    λ w.
        let a : legal (reading s).table ≡ true = legal_complete _ (legal_read w.read) in
        answering bound_number s i w.read w.in_table ∙ bound_by (reading s).table i a w.in_table
        ∙ ap or_zero (bound-none (reading s).table i w.none),
  )

named : (t : Table) (i j : ℕ) (s : Sought ℕ) → protects t i ≡ s → j < 32 → or_255 s ≡ j → protects t i ≡ found j
named t i j nothing e h q = absurd (omega arith)
named t i j (found k) e h q = e ∙ ap found q

unnamed : (t : Table) (i : ℕ) (s : Sought ℕ) → t.count ≤ 32 → protects t i ≡ s → or_255 s ≡ 255 → protects t i ≡ nothing
unnamed t i nothing h e q = e
unnamed t i (found k) h e q = absurd (omega (arith, (protects-given t i k e).in_table))

-- Of a table that the bytes hold: a thread's mark is the thread that it protects, and 255 exactly where it does not leak; its bound is
-- the smallest length that holds its demand, and 0 says that there is none.
module _ (s : List ℕ) (b : Bytes s) (t : Table) (e : reading s ≡ accepted t) (i : ℕ) (h : i < t.count) where
  lawful : legal t ≡ true
  lawful = legal_complete t ((accepted_exactly s b t).0 e).0

  about : (f : Table → ℕ → ℕ) → of_thread f s i ≡ f t i
  unfolding verdict
  about f = answering f s i (rw (verdict, e)) (rw e h) ∙ rw e

  mark_by : thread_mark s i ≡ or_255 (protects t i)
  unfolding thread_mark
  mark_by = about mark_number ∙ number_by t i (protects t i) (marks_given-at t i lawful h)

  pub mark_exactly : (j : ℕ) → j < 32 → (thread_mark s i ≡ j) ↔ Protects t i j
  mark_exactly j l = (
    λ q. protects-given t i j (named t i j (protects t i) refl l (sym mark_by ∙ q)),
    λ p. mark_by ∙ ap or_255 (protects_only t i j p),
  )

  pub mark_none_exactly : (thread_mark s i ≡ 255) ↔ (Leaks t i → ⊥)
  mark_none_exactly = (
    λ q. (protects-none t i).0 (unnamed t i (protects t i) (legal_small t lawful).1 refl (sym mark_by ∙ q)),
    λ n. mark_by ∙ ap or_255 ((protects-none t i).1 n),
  )

  pub bound-found : (x : ℕ) → IsBound t i x → thread_bound s i ≡ x
  unfolding thread_bound bound_number told_number bounding pick
  bound-found x w = about bound_number ∙ rw (lawful, lt-ltb _ _ h, bound_at t i x w)

  pub bound-missing : NoBound t i → thread_bound s i ≡ 0
  unfolding thread_bound bound_number told_number bounding pick
  bound-missing w = about bound_number ∙ rw (lawful, lt-ltb _ _ h, bound-none t i w)
