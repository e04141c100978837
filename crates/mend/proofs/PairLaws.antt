-- The list of the pairs added, while it is filled.
use Prim.Native.Nat.{ℕ, suc, ◌+◌, ◌≤◌, ◌<◌}
use mathlib.Core.Path.{◌≡◌, sym}
use mathlib.Core.List.{List, [], ◌∷◌, ◌++◌, append-nil}
use mathlib.Core.Bool.{true, false}
use native.Mathlib.Decide.{le_ind}
use native.Mathlib.Nat.{le_refl, le_trans}
use native.Mathlib.Numerals.{add-one}
use native.Mathlib.Omega.{arith}
use lib.ListN.{length, set, get_or, drop, length-append}
use lib.Seq.{drop-cons, set_at, append_snoc}
use Rattle.basis.specs.Tests.{pick}
use Rattle.basis.proofs.TestLaws.{by_test}
use Rattle.mend.specs.Rows.{is_added, added}

module _ (rows ms : List ℕ) where
  -- One pair more, or none.
  pub added_hit : (c : ℕ) → is_added rows ms c ≡ true → added rows ms (suc c) ≡ added rows ms c ++ (c ∷ [])
  unfolding added pick
  added_hit c e = rw e

  pub added_none : (c : ℕ) → is_added rows ms c ≡ false → added rows ms (suc c) ≡ added rows ms c
  unfolding added pick
  added_none c e = rw e (append-nil (added rows ms c))

  pub length_hit : (c : ℕ) → is_added rows ms c ≡ true → length (added rows ms (suc c)) ≡ length (added rows ms c) + 1
  length_hit c e = rw (added_hit c e) (length-append (added rows ms c) (c ∷ []))

  pub length_none : (c : ℕ) → is_added rows ms c ≡ false → length (added rows ms (suc c)) ≡ length (added rows ms c)
  length_none c e = rw (added_none c e)

  -- The list grows.
  pub length-next : (c : ℕ) → length (added rows ms c) ≤ length (added rows ms (suc c))
  length-next c = by_test (is_added rows ms c) (λ e. omega (arith, length_hit c e)) (λ e. omega (arith, length_none c e))

  pub length_grows : (c k : ℕ) → c ≤ k → length (added rows ms c) ≤ length (added rows ms k)
  length_grows c k h = le_ind (λ (m : ℕ). length (added rows ms c) ≤ length (added rows ms m)) (le_refl _) (λ m l r. le_trans r (length-next m)) k h

  -- Where the list has room for all, it has room for the next.
  pub room : (c n : ℕ) (l : List ℕ) → c < 256 → length (added rows ms 256) ≤ length l → n ≡ length (added rows ms c) → is_added rows ms c ≡ true → n < length l
  room c n l h k e t = omega (arith, length_hit c t, length_grows (suc c) 256 h)

  -- What stands in the list once the next is put there or passed over, and how many they are.
  pub put_next : (c n : ℕ) (l p : List ℕ) → n ≡ length (added rows ms c) → p ≡ added rows ms c ++ drop n l → n < length l → is_added rows ms c ≡ true
      → (n + 1 ≡ length (added rows ms (c + 1))) × (set p n c ≡ added rows ms (c + 1) ++ drop (n + 1) l)
  put_next c n l p e q h t = rw (add-one c) (
    rw e (sym (length_hit c t)),
    rw (q, add-one n, added_hit c t, drop-cons l n 0 h, set_at (added rows ms c) (get_or l n 0) (drop (suc n) l) c n (sym e)) (sym (append_snoc (added rows ms c) c (drop (suc n) l))),
  )

  pub pass_next : (c n : ℕ) (l p : List ℕ) → n ≡ length (added rows ms c) → p ≡ added rows ms c ++ drop n l → is_added rows ms c ≡ false
      → (n ≡ length (added rows ms (c + 1))) × (p ≡ added rows ms (c + 1) ++ drop n l)
  pass_next c n l p e q t = rw (add-one c, added_none c t) (e, q)
