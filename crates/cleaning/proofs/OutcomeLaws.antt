-- The whole call: what it lets `fill` do, which number is given when, what a refusal leaves, and that no second result fits.
use Prim.Native.Nat.{ℕ, ◌<◌, ◌≤◌}
use mathlib.Core.Path.{◌≡◌, refl, sym, ◌∙◌, ap}
use mathlib.Core.List.{List, [], ◌∷◌}
use mathlib.Core.Bool.{false≢true, true, false}
use native.Mathlib.Omega.{arith}
use borrow.Author.Tests.{ltb-true, ltb-false, lt-ltb, le-ltb, le-leb, lt-leb}
use lib.Dec.{eqb, ltb, leb}
use lib.ListN.{length}
use lib.Seq.{take-length}
use Rattle.basis.specs.Tests.{pick}
use Rattle.basis.specs.Told.{Told}
use Rattle.basis.proofs.BackLaws.{undone}
use Rattle.basis.proofs.TestLaws.{by_test, either}
use Rattle.table.specs.Legal.{legal}
use Rattle.table.specs.declared.Table.{Table}
use Rattle.cleaning.specs.declared.Cleaning.{Cleaning}
use Rattle.std.specs.Prelude.{Result, Ok, Err, is_ok, IsErrAnd}
use Rattle.basis.specs.Refusals.{given_or}
use Rattle.basis.specs.declared.refusal.Refusal.{Refusal}
use Rattle.basis.specs.declared.refusal.Refusal.TheVariants.{NotLegal, NoRoom, TraceByte}
use Rattle.basis.proofs.RefusalLaws.{number-apart}
use Rattle.cleaning.specs.Cleanings.{cleanings, all_known, Outcome, listing, told, outcome}
use Rattle.cleaning.specs.Scan.{Ways, scanned, pasted, tallied, reported}
use Rattle.cleaning.proofs.WayLaws.{scanned-is}

-- What one pass tells of a legal table.
module _ (t : Table) (w tr : List ℕ) (g : legal t ≡ true) (s : Ways t w) where
  tallied_named : all_known t.count tr ≡ true → tallied t.count w tr ≡ Ok (length (cleanings t tr))
  unfolding tallied pick
  tallied_named f = rw f (ap (λ (l : List Cleaning). Ok (length l)) (scanned-is t g w s tr))

  tallied_unnamed : all_known t.count tr ≡ false → tallied t.count w tr ≡ Err TraceByte
  unfolding tallied pick
  tallied_unnamed f = rw f

  pub short-of : (places : ℕ) → places < given_or 0 (tallied t.count w tr) → Err NoRoom ≡ reported t tr places
  unfolding reported pick
  short-of places l =
      by_test (all_known t.count tr)
      (λ f. let m : places < length (cleanings t tr) = rw (tallied_named f) at l in rw (g, f, lt-ltb places (length (cleanings t tr)) m))
      (λ f. let m : places < 0 = rw (tallied_unnamed f) at l in absurd (omega arith))

  pub room_for : (places : ℕ) → given_or 0 (tallied t.count w tr) ≤ places → tallied t.count w tr ≡ reported t tr places
  unfolding reported pick
  room_for places l =
      by_test (all_known t.count tr)
      (λ f. let m : length (cleanings t tr) ≤ places = rw (tallied_named f) at l in rw (g, f, le-ltb places (length (cleanings t tr)) m) (tallied_named f))
      (λ f. rw (g, f) (tallied_unnamed f))

-- What an answer lets `fill` do, where the scan is handed w.
abbrev May : Table → List ℕ → List ℕ → ℕ → Result ℕ Refusal → Type 0
May t w tr places r = (given_or 0 r ≤ places) × (given_or 0 r ≤ length (scanned t.count w tr))

nothing_asked : (places n : ℕ) → (0 ≤ places) × (0 ≤ n)
nothing_asked places n = (omega arith, omega arith)

pub may_fill : (t : Table) (w tr : List ℕ) (places : ℕ) → Ways t w → May t w tr places (reported t tr places)
unfolding reported
may_fill t w tr places s =
    let P : Result ℕ Refusal → Type 0 = May t w tr places in
    either P (legal t)
    (λ g. either P (all_known t.count tr)
    (λ _. either P (ltb places (length (cleanings t tr))) (λ _. nothing_asked places _) (λ e. (ltb-false _ _ e, omega (arith, ap length (scanned-is t g w s tr)))))
    (λ _. nothing_asked places _))
    (λ _. nothing_asked places _)

-- Answer and list together are the definition's.
whole-outcome : (t : Table) (w tr : List ℕ) (ys : List Cleaning) → Ways t w
    → outcome (reported t tr (length ys)) (pasted (given_or 0 (reported t tr (length ys))) (scanned t.count w tr) ys) ≡ listing t tr ys
unfolding reported listing pasted pick
whole-outcome t w tr ys s =
    by_test (legal t)
    (λ e. by_test (all_known t.count tr)
    (λ f. by_test (ltb (length ys) (length (cleanings t tr)))
    (λ g. rw (e, f, g, lt-leb (length (cleanings t tr)) (length ys) (ltb-true _ _ g)))
    (λ g. rw (e, f, g, le-leb (length (cleanings t tr)) (length ys) (ltb-false _ _ g), scanned-is t e w s tr, take-length (cleanings t tr))))
    (λ f. rw (e, f)))
    (λ e. rw e)

pub outcome-is : (t : Table) (w tr : List ℕ) (ys zs : List Cleaning) (r : Result ℕ Refusal) → Ways t w → r ≡ reported t tr (length ys) → zs ≡ pasted (given_or 0 r) (scanned t.count w tr) ys
    → outcome r zs ≡ listing t tr ys
outcome-is t w tr ys zs r s e f = rw (f, e) (whole-outcome t w tr ys s)

-- An error that is handed on is the one that came.
pub handed : (r : Result ℕ Refusal) (e : Refusal) (q : Result ℕ Refusal) → IsErrAnd r (λ x. x ≡ e) → Err e ≡ q → r ≡ q
handed (Ok n) e q h f = absurd h
handed (Err x) e q h f = ap Err h ∙ f

-- Of a refusal no list is written.
pub refused-outcome : (t : Table) (tr : List ℕ) (ys : List Cleaning) (r : Result ℕ Refusal) → is_ok r ≡ false → r ≡ reported t tr (length ys) → outcome r ys ≡ listing t tr ys
unfolding reported listing pick
refused-outcome t tr ys r n e =
    let q : is_ok (reported t tr (length ys)) ≡ false = rw e at n in
    rw e
    (by_test (legal t)
    (λ a. by_test (all_known t.count tr)
    (λ b. by_test (ltb (length ys) (length (cleanings t tr)))
    (λ d. rw (a, b, d, lt-leb (length (cleanings t tr)) (length ys) (ltb-true _ _ d)))
    (λ d. let z : true ≡ false = rw (a, b, d) at q in absurd (false≢true (sym z))))
    (λ b. rw (a, b)))
    (λ a. rw a))

-- A refused call leaves the list as it was.
pub clean_refused : (t : Table) (tr : List ℕ) (ys : List Cleaning) → 0 < (listing t tr ys).told.number → (listing t tr ys).list ≡ ys
unfolding listing
clean_refused t tr ys =
    let P : Outcome → Type 0 = λ o. 0 < o.told.number → o.list ≡ ys in
    either P (legal t)
    (λ _. either P (all_known t.count tr)
    (λ _. either P (leb (length (cleanings t tr)) (length ys)) (λ _ h. absurd (omega arith)) (λ _ h. refl))
    (λ _ h. refl))
    (λ _ h. refl)

-- No second result fits.
pub clean_unique : (t : Table) (tr : List ℕ) (ys : List Cleaning) (r s : Result ℕ Refusal) (p q : List Cleaning) → outcome r p ≡ listing t tr ys → outcome s q ≡ listing t tr ys → (r ≡ s) × (p ≡ q)
clean_unique t tr ys r s p q e f =
    let o : outcome r p ≡ outcome s q = e ∙ sym f in
    (number-apart r s (ap (λ (x : Outcome). x.told) o), ap (λ (x : Outcome). x.list) o)
