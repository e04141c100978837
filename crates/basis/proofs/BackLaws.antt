-- Reading an answer back from what it tells.
use Prim.Native.Nat.{ℕ}
use mathlib.Core.Path.{◌≡◌, sym, ◌∙◌, ap, subst}
use mathlib.Core.Logic.{◌↔◌}

-- A map that can be undone tells its arguments apart.
pub undone : {A B : Type 0} (f : A → B) (back : B → A) → ((a : A) → back (f a) ≡ a) → (a b : A) → f a ≡ f b → a ≡ b
undone f back h a b e = sym (h a) ∙ ap back e ∙ h b

-- A relation whose rows each fix the number k, and of which one row holds, holds of n exactly when k is n.
pub exactly_by : (R : ℕ → Type 0) {k : ℕ} → R k → ((n : ℕ) → R n → k ≡ n) → (n : ℕ) → (k ≡ n) ↔ R n
exactly_by R given only n = (λ e. subst R e given, λ r. only n r)

pub row_here : (R : ℕ → Type 0) {k n : ℕ} → R n → k ≡ n → R k
row_here R r e = subst R (sym e) r
