-- The first three domains that break transitivity.
use Rattle.std.specs.Prelude.{ℕ, ◌<◌, ◌≡◌, List, [], ◌∷◌, Bool, true, false, not, Option, Some, None}
use Rattle.basis.specs.Tests.{pick, and}
use Rattle.basis.specs.Search.{Sought, nothing, found, first}
use Rattle.basis.specs.Told.{Told, answered}
use Rattle.flow.specs.Flow.{flows}
use Rattle.flow.specs.declared.Gap.{Gap}

-- a flows to b, b to c, and a not to c.
unfoldable pub broken : List ℕ → ℕ → ℕ → ℕ → Bool
broken rows a b c = and (flows rows a b) (and (flows rows b c) (not (flows rows a c)))

pub record Triple : Type 0 where
  pub a : ℕ
  pub b : ℕ
  pub c : ℕ

unfoldable pub gap_at : List ℕ → ℕ → ℕ → ℕ → Sought Triple
gap_at rows a b c = pick (broken rows a b c) (found (record { a = a; b = b; c = c })) nothing

-- The smallest c below n, for a and b.
unfoldable pub gap_by_c : List ℕ → ℕ → ℕ → ℕ → Sought Triple
gap_by_c rows n a b = first n (gap_at rows a b)

-- The smallest b, then c.
unfoldable pub gap_by_b : List ℕ → ℕ → ℕ → Sought Triple
gap_by_b rows n a = first n (gap_by_c rows n a)

-- The smallest a, then b, then c, among n domains.
unfoldable pub first_gap : List ℕ → ℕ → Sought Triple
first_gap rows n = first n (gap_by_b rows n)

-- Document 01's number and values: 7 with the three domains, or no refusal.
abbrev pub gap_told : Sought Triple → Told
gap_told nothing = answered []
gap_told (found g) = record { number = 7; values = g.a ∷ g.b ∷ g.c ∷ [] }

-- What an answer of the code tells.
abbrev pub told : Option Gap → Told
told (Some g) = record { number = 7; values = g.a ∷ g.b ∷ g.c ∷ [] }
told None = answered []

-- The plain reading: this triple is broken, and none before it is.
pub record IsFirstGap (rows : List ℕ) (n : ℕ) (g : Triple) : Type 0 where
  pub a_below : g.a < n
  pub b_below : g.b < n
  pub c_below : g.c < n
  pub breaks : broken rows g.a g.b g.c ≡ true
  pub smaller_a : (x y z : ℕ) → x < g.a → y < n → z < n → broken rows x y z ≡ false
  pub smaller_b : (y z : ℕ) → y < g.b → z < n → broken rows g.a y z ≡ false
  pub smaller_c : (z : ℕ) → z < g.c → broken rows g.a g.b z ≡ false

-- The plain reading: no triple is broken.
pub record WithoutGap (rows : List ℕ) (n : ℕ) : Type 0 where
  pub whole : (a b c : ℕ) → a < n → b < n → c < n → broken rows a b c ≡ false
