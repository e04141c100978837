-- An array made from a function of the place is the list of its values.
use Rattle.std.proofs.Common.{ℕ, zero, suc, ◌+◌, ◌≡◌, ◌≤◌, ◌<◌, List, [], get_or, sym, ◌∙◌, arith}
use mathlib.Core.List.{append-nil}
use mathlib.Core.Logic.{⊎_elim}
use native.Mathlib.Nat.{eq-or-lt_of_le}
use lib.Seq.{ext_get_or}
use denote.Param.Members.{Mut, Called}
use Rattle.std.specs.Array.{IsFromFnResult, IsFromFnResultFrom}
use Rattle.basis.specs.Search.{listed}
use Rattle.basis.proofs.SearchLaws.{length-listed, listed_at}

module _ {F B : Type 0} (g : Mut F (ℕ × Unit {0}) B) (h : ℕ → B) (f : F) (says : (x : ℕ) (y : B) (q : F) → Called g f (x, tt) y q → (q ≡ f) × (y ≡ h x)) where
  made-from : (ys : List B) (i n : ℕ) → IsFromFnResultFrom g f ys i n → (k : ℕ) → i ≤ k → k < i + n → (d : B) → get_or ys k d ≡ h k
  made-from ys i zero e k lo hi d = absurd (omega arith)
  made-from ys i (suc n) e k lo hi d =
      let s = says i e.1 e.0 e.3 in
      ⊎_elim
      (λ (q : i ≡ k). rw (← q) (e.2.1 d ∙ s.1))
      (λ (l : i < k). made-from ys (i + 1) n (rw s.0 at e.4) k (omega arith) (omega arith) d)
      (eq-or-lt_of_le lo)

  pub made-listed : (ys : List B) (n : ℕ) (z : B) → IsFromFnResult g f ys n → ys ≡ listed n h
  made-listed ys n z r = ext_get_or z ys (listed n h) (r.long ∙ sym (length-listed n h))
      (λ i l. made-from ys 0 n r.each i (omega arith) (omega (arith, r.long)) z ∙ sym (rw (append-nil (listed n h)) at (listed_at h n i [] z (omega (arith, r.long)))))
