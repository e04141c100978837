-- Which number is given when, and what an answer holds.
use Prim.Native.Nat.{ℕ, zero, suc, ◌+◌, ◌-◌, ◌<◌, ◌≤◌}
use mathlib.Core.Path.{◌≡◌, refl, sym, ap, subst}
use mathlib.Core.List.{List, [], ◌∷◌, ◌++◌}
use mathlib.Core.Bool.{Bool, true, false}
use mathlib.Core.Logic.{◌↔◌}
use native.Mathlib.Omega.{arith}
use borrow.Author.Tests.{ltb-true, leb-true, leb-false, eqb-true, lt-ltb, le-leb, lt-leb}
use lib.Dec.{eqb, ltb, leb}
use lib.ListN.{length, get_or, take, drop}
use Rattle.basis.specs.Tests.{pick, and, or}
use Rattle.basis.specs.Told.{Told, answered, refused}
use Rattle.basis.proofs.TestLaws.{by_test, refuted, fails, and_both, and-of, or-true}
use Rattle.table.specs.Legal.{legal}
use Rattle.table.specs.declared.Table.{Table}
use Rattle.table.proofs.LegalLaws.{legal_small}
use Rattle.cleaning.specs.declared.Cleaning.{Cleaning}
use Rattle.cleaning.specs.Cleanings.{cleanings, known, all_known, Outcome, listing}
use Rattle.cleaning.specs.Plain.{Named, ran, idled, idle, Unnamed, Lists, Gives, Tells, not-legal, no_thread, no_room, cleans}
use Rattle.cleaning.proofs.PlainLaws.{cleanings_list}

-- The byte of a thread, of one idled for, and 255; and no other.
pub known_of : (n b : ℕ) → Named n b → known n b ≡ true
unfolding known
known_of n b (ran i l) = rw (lt-ltb i n l)
known_of n b (idled i l) = rw (le-leb 32 (32 + i) (omega arith), lt-ltb (32 + i) (32 + n) (omega arith), or-true (ltb (32 + i) n))
known_of n b idle = rw (or-true (and (leb 32 255) (ltb 255 (32 + n))), or-true (ltb 255 n))

idled_of : (n b : ℕ) → 32 ≤ b → b < 32 + n → Named n b
idled_of n b l m = let e : 32 + (b - 32) ≡ b = omega arith in subst (Named n) e (idled (b - 32) (omega arith))

or_cases : {C : Type 0} (a b : Bool) → or a b ≡ true → (a ≡ true → C) → (b ≡ true → C) → C
or_cases true b e f g = f refl
or_cases false b e f g = g e

pub named_of : (n b : ℕ) → known n b ≡ true → Named n b
unfolding known
named_of n b e =
    or_cases (ltb b n) _ e (λ r. ran b (ltb-true _ _ r))
    (λ e'. or_cases (and (leb 32 b) (ltb b (32 + n))) (eqb b 255) e'
    (λ r. let p = and_both (leb 32 b) (ltb b (32 + n)) r in idled_of n b (leb-true _ _ p.0) (ltb-true _ _ p.1))
    (λ r. subst (Named n) (sym (eqb-true _ _ r)) idle))

-- A trace that does not pass has a byte that names no thread, and one that passes has none.
later_unnamed : (n b : ℕ) (bs : List ℕ) → Unnamed n bs → Unnamed n (b ∷ bs)
later_unnamed n b bs u = record { step = suc u.step; within = omega (arith, u.within); unknown = u.unknown }

pub unnamed_of : (n : ℕ) (bs : List ℕ) → all_known n bs ≡ false → Unnamed n bs
unnamed_of n [] e = refuted refl e
unnamed_of n (b ∷ bs) e =
    by_test (known n b)
    (λ k. by_test (all_known n bs) (λ a. refuted (and-of k a) e) (λ a. later_unnamed n b bs (unnamed_of n bs a)))
    (λ k. record { step = 0; within = omega arith; unknown = λ h. refuted (known_of n b h) k })

pub all_named : (n : ℕ) (bs : List ℕ) → all_known n bs ≡ true → Unnamed n bs → ⊥
all_named n bs e u = u.unknown (at_each n bs e u.step u.within)
  where
    at_each : (n : ℕ) (bs : List ℕ) → all_known n bs ≡ true → (k : ℕ) → k < length bs → Named n (get_or bs k 0)
    at_each n [] e k l = absurd (omega arith)
    at_each n (b ∷ bs) e zero l = named_of n b (and_both (known n b) (all_known n bs) e).0
    at_each n (b ∷ bs) e (suc k) l = at_each n bs (and_both (known n b) (all_known n bs) e).1 k (omega arith)

take-append : (l m : List Cleaning) → take (length l) (l ++ m) ≡ l
take-append [] m = refl
take-append (c ∷ l) m = ap (λ (k : List Cleaning). c ∷ k) (take-append l m)

drop-append : (l m : List Cleaning) → drop (length l) (l ++ m) ≡ m
drop-append [] m = refl
drop-append (c ∷ l) m = drop-append l m

module _ (t : Table) (tr : List ℕ) (list : List Cleaning) where
  abbrev n : ℕ
  n = length (cleanings t tr)

  gives_11 : legal t ≡ false → (listing t tr list).told ≡ refused 11
  unfolding listing pick
  gives_11 e = rw e

  gives_21 : legal t ≡ true → all_known t.count tr ≡ false → (listing t tr list).told ≡ refused 21
  unfolding listing pick
  gives_21 e f = rw (e, f)

  gives_16 : legal t ≡ true → all_known t.count tr ≡ true → length list < n → (listing t tr list).told ≡ refused 16
  unfolding listing pick
  gives_16 e f g = rw (e, f, lt-leb n (length list) g)

  gives_0 : legal t ≡ true → all_known t.count tr ≡ true → n ≤ length list
      → listing t tr list ≡ record { told = answered (n ∷ []); list = cleanings t tr ++ drop n list }
  unfolding listing pick
  gives_0 e f g = rw (e, f, le-leb n (length list) g)

  passes : (Unnamed t.count tr → ⊥) → all_known t.count tr ≡ true
  passes h = by_test (all_known t.count tr) (λ e. e) (λ e. absurd (h (unnamed_of t.count tr e)))

  stops : Unnamed t.count tr → all_known t.count tr ≡ false
  stops u = fails _ (λ e. all_named t.count tr e u)

  -- Each number is given in its row, ..
  pub clean_tells : Tells t tr list (listing t tr list).told
  clean_tells =
      by_test (legal t)
      (λ e. by_test (all_known t.count tr)
      (λ f. by_test (leb n (length list))
      (λ g. subst (Tells t tr list) (sym (ap (λ (o : Outcome). o.told) (gives_0 e f (leb-true _ _ g)))) (cleans e (all_named t.count tr f) (leb-true _ _ g)))
      (λ g. subst (Tells t tr list) (sym (gives_16 e f (leb-false _ _ g))) (no_room e (all_named t.count tr f) (leb-false _ _ g))))
      (λ f. subst (Tells t tr list) (sym (gives_21 e f)) (no_thread e (unnamed_of t.count tr f))))
      (λ e. subst (Tells t tr list) (sym (gives_11 e)) (not-legal e))

  -- .. and in its row only.
  pub tells_only : (v : Told) → Tells t tr list v → (listing t tr list).told ≡ v
  tells_only v (not-legal e) = gives_11 e
  tells_only v (no_thread e u) = gives_21 e (stops u)
  tells_only v (no_room e u l) = gives_16 e (passes u) l
  tells_only v (cleans e u l) = ap (λ (o : Outcome). o.told) (gives_0 e (passes u) l)

  pub clean_exactly : (v : Told) → ((listing t tr list).told ≡ v) ↔ Tells t tr list v
  clean_exactly v = (λ e. subst (Tells t tr list) e clean_tells, tells_only v)

  -- What stands in the list where nothing refuses it.
  pub clean_zero : (listing t tr list).told.number ≡ 0 → (listing t tr list).list ≡ cleanings t tr ++ drop n list
  clean_zero z =
      by_test (legal t)
      (λ e. by_test (all_known t.count tr)
      (λ f. by_test (leb n (length list))
      (λ g. ap (λ (o : Outcome). o.list) (gives_0 e f (leb-true _ _ g)))
      (λ g. let q : (listing t tr list).told.number ≡ 16 = ap (λ (v : Told). v.number) (gives_16 e f (leb-false _ _ g)) in absurd (omega (arith, z, q))))
      (λ f. let q : (listing t tr list).told.number ≡ 21 = ap (λ (v : Told). v.number) (gives_21 e f) in absurd (omega (arith, z, q))))
      (λ e. let q : (listing t tr list).told.number ≡ 11 = ap (λ (v : Told). v.number) (gives_11 e) in absurd (omega (arith, z, q)))

  -- So the first places list the cleanings that are due, and the others stay.
  pub clean_gives : (listing t tr list).told.number ≡ 0 → Gives t tr list (listing t tr list)
  clean_gives z =
      by_test (legal t)
      (λ e. by_test (all_known t.count tr)
      (λ f. by_test (leb n (length list))
      (λ g. let o = gives_0 e f (leb-true _ _ g) in subst (Gives t tr list) (sym o) (given e))
      (λ g. let q : (listing t tr list).told.number ≡ 16 = ap (λ (v : Told). v.number) (gives_16 e f (leb-false _ _ g)) in absurd (omega (arith, z, q))))
      (λ f. let q : (listing t tr list).told.number ≡ 21 = ap (λ (v : Told). v.number) (gives_21 e f) in absurd (omega (arith, z, q))))
      (λ e. let q : (listing t tr list).told.number ≡ 11 = ap (λ (v : Told). v.number) (gives_11 e) in absurd (omega (arith, z, q)))
    where
      front : take n (cleanings t tr ++ drop n list) ≡ cleanings t tr
      front = take-append (cleanings t tr) (drop n list)

      given : legal t ≡ true → Gives t tr list (record { told = answered (n ∷ []); list = cleanings t tr ++ drop n list })
      given e = record {
        number = n;
        told = refl;
        as_many = ap length front;
        lists = subst (Lists t tr) (sym front) (cleanings_list t tr (omega (arith, (legal_small t e).1)));
        stay = drop-append (cleanings t tr) (drop n list);
      }

  -- Where each byte passes, 21 is not given.
  pub no_21 : all_known t.count tr ≡ true → (listing t tr list).told.number ≡ 21 → ⊥
  no_21 f z =
      by_test (legal t)
      (λ e. by_test (leb n (length list))
      (λ g. let q : (listing t tr list).told.number ≡ 0 = ap (λ (o : Outcome). o.told.number) (gives_0 e f (leb-true _ _ g)) in omega (arith, z, q))
      (λ g. let q : (listing t tr list).told.number ≡ 16 = ap (λ (v : Told). v.number) (gives_16 e f (leb-false _ _ g)) in omega (arith, z, q)))
      (λ e. let q : (listing t tr list).told.number ≡ 11 = ap (λ (v : Told). v.number) (gives_11 e) in omega (arith, z, q))
