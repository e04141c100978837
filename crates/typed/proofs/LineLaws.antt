-- Reading rows and windows character by character, and what a field without a fault is.
use Prim.Native.Nat.{ℕ, ◌+◌, ◌≤◌, ◌<◌}
use mathlib.Core.Path.{◌≡◌, refl, sym, ap}
use mathlib.Core.List.{List, [], ◌∷◌, ◌++◌}
use mathlib.Core.Bool.{not}
use native.Mathlib.Omega.{arith}
use lib.ListN.{length, get_or, drop, drop_of_length-le}
use lib.Dec.{eqb, ltb}
use borrow.Author.Tests.{ltb-false}
use Rattle.basis.specs.Tests.{pick, or}
use Rattle.basis.proofs.TestLaws.{by_test}
use Rattle.basis.proofs.ListLaws.{drop-some}
use Rattle.typed.specs.Fields.{Field}
use Rattle.typed.specs.Numbers.{is_plain}
use Rattle.typed.specs.RowLine.{Rows, padded, fault, rows_fed, rows_read}
use Rattle.typed.specs.FrameLines.{Windows, windows_fed, windows_read}

-- A field without a fault is no more than 65,535.
pub fault_none : (f : Field) → fault f ≡ 0 → f.value ≤ 65535
unfolding fault pick
fault_none f e =
    by_test (eqb f.size 0)
    (λ p. let q : ◌≡◌ {A = ℕ} 1 0 = rw p at e in absurd (omega arith))
    (λ p. by_test (or (padded f) (not (is_plain f)))
    (λ r. let q : ◌≡◌ {A = ℕ} 2 0 = rw (p, r) at e in absurd (omega arith))
    (λ r. by_test (ltb 65535 f.value)
    (λ t. let q : ◌≡◌ {A = ℕ} 3 0 = rw (p, r, t) at e in absurd (omega arith))
    (λ t. ltb-false 65535 f.value t)))

-- A text may be read in parts.
pub rows_parts : (s t : List ℕ) (r : Rows) → rows_read r (s ++ t) ≡ rows_read (rows_read r s) t
unfolding rows_read
rows_parts [] t r = refl
rows_parts (b ∷ s) t r = rows_parts s t (rows_fed r b)

pub windows_parts : (s t : List ℕ) (w : Windows) → windows_read w (s ++ t) ≡ windows_read (windows_read w s) t
unfolding windows_read
windows_parts [] t w = refl
windows_parts (b ∷ s) t w = windows_parts s t (windows_fed w b)

module _ (r : Rows) (s : List ℕ) (i : ℕ) where
  pub rows_next : {q : Rows} → q ≡ rows_fed r (get_or s i 0) → i < length s → rows_read r (drop i s) ≡ rows_read q (drop (i + 1) s)
  unfolding rows_read
  rows_next {q} e h = rw (drop-some s i (get_or s i 0) refl h) (ap (λ (x : Rows). rows_read x (drop (i + 1) s)) (sym e))

  pub rows_end : length s ≤ i → rows_read r (drop i s) ≡ r
  unfolding rows_read
  rows_end h = rw (drop_of_length-le s h)

module _ (w : Windows) (s : List ℕ) (i : ℕ) where
  pub windows_next : {v : Windows} → v ≡ windows_fed w (get_or s i 0) → i < length s → windows_read w (drop i s) ≡ windows_read v (drop (i + 1) s)
  unfolding windows_read
  windows_next {v} e h = rw (drop-some s i (get_or s i 0) refl h) (ap (λ (x : Windows). windows_read x (drop (i + 1) s)) (sym e))

  pub windows_end : length s ≤ i → windows_read w (drop i s) ≡ w
  unfolding windows_read
  windows_end h = rw (drop_of_length-le s h)
