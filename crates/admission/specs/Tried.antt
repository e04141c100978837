-- Q-14: the lengths that the search for a bound goes through, and how many they are.
use Rattle.std.specs.Prelude.{ℕ, zero, suc, ◌+◌, ◌-◌, ◌≤◌, ◌<◌, ◌≡◌, List, [], ◌∷◌, ltb, leb, length}
use Rattle.basis.specs.Tests.{pick}
use Rattle.basis.specs.Search.{Sought, nothing, found}
use Rattle.table.specs.Threads.{thread}
use Rattle.table.specs.Legal.{legal}
use Rattle.table.specs.declared.Table.{Table}
use Rattle.admission.specs.Demand.{demand}

-- The most lengths that a search can try: D - W + 1.
unfoldable pub most_tried : Table → ℕ → ℕ
most_tried t i = (thread t i).deadline - (thread t i).budget + 1

-- The lengths from x on whose demand is worked out, n at most: none above D; else x, and those from its demand on where that is larger.
unfoldable pub lengths_from : Table → ℕ → ℕ → ℕ → List ℕ
lengths_from t i zero x = []
lengths_from t i (suc n) x =
    pick (ltb (thread t i).deadline x) [] (x ∷ pick (leb (demand t i x) x) [] (lengths_from t i n (demand t i x)))

-- The search starts at W.
unfoldable pub lengths : Table → ℕ → List ℕ
lengths t i = lengths_from t i (most_tried t i) (thread t i).budget

-- The number of lengths whose demand was worked out.
unfoldable pub tried : Table → ℕ → ℕ
tried t i = length (lengths t i)

-- What is given beside a bound: the number, and 0 on a refusal.
unfoldable pub count_given : Table → ℕ → ℕ
count_given t i = pick (legal t) (pick (ltb i t.count) (tried t i) 0) 0

-- The search from x on, in plain words: the lengths whose demand it works out, and what it finds.
pub data Searches (t : Table) (i : ℕ) : ℕ → List ℕ → Sought ℕ → Type 0 where
  -- above D it gives up
  gives_up : (x : ℕ) → (thread t i).deadline < x → Searches t i x [] nothing
  -- a length whose demand is not larger is found
  ends : (x : ℕ) → x ≤ (thread t i).deadline → demand t i x ≤ x → Searches t i x (x ∷ []) (found x)
  -- a demand that is larger takes the place of its length
  goes_on : (x : ℕ) → x ≤ (thread t i).deadline → x < demand t i x → (xs : List ℕ) (s : Sought ℕ) → Searches t i (demand t i x) xs s
      → Searches t i x (x ∷ xs) s

-- n is the count of thread i: so many lengths are in the search that starts at W.
pub record IsCount (t : Table) (i n : ℕ) : Type 0 where
  pub sequence : List ℕ
  pub ended : Sought ℕ
  pub searches : Searches t i (thread t i).budget sequence ended
  pub counted : length sequence ≡ n
