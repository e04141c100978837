-- What the loops do: the scan at one byte of the trace, and cleanings stored one after the other.
use mathlib.Core.Path.{◌≡◌, refl, sym, ◌∙◌, ap}
use Prim.Native.Nat.{ℕ, zero, suc, ◌+◌, ◌<◌, ◌≤◌}
use native.Mathlib.Numerals.{add-one}
use native.Mathlib.Omega.{arith}
use mathlib.Core.Bool.{Bool, true, false, false≢true}
use Rattle.std.specs.Prelude.{◌≢◌, Option, Some, None, is_some, unwrap_or}
use mathlib.Core.List.{List, [], ◌∷◌, ◌++◌}
use lib.Dec.{ltb}
use lib.ListN.{length, get_or, set, take, drop, drop_of_length-le}
use lib.Seq.{drop-drop, drop-cons}
use Rattle.basis.specs.Tests.{pick, and}
use Rattle.basis.proofs.TestLaws.{either, and_left}
use Rattle.table.specs.declared.Table.{Table}
use Rattle.cleaning.specs.declared.Cleaning.{Cleaning}
use Rattle.cleaning.specs.Cleanings.{nobody, latest, last_run, cleaned, known, all_known}
use Rattle.cleaning.specs.Scan.{first, barred, scanned, following, pasted}

-- What is left of a trace, and its first byte.
opened : (tr : List ℕ) (i : ℕ) → i < length tr → drop i tr ≡ get_or tr i 0 ∷ drop (i + 1) tr
opened tr i l = rw (add-one, drop-cons tr i 0)

-- F says of each cleaning what follows it.
abbrev Chained : (Cleaning → Option Cleaning) → List Cleaning → Type 0
Chained F [] = Unit {0}
Chained F (c ∷ cs) = (F c ≡ first cs) × Chained F cs

its : {c d : Cleaning} → Some d ≡ Some c → d ≡ c
its {c = c} e = ap (λ (o : Option Cleaning). unwrap_or o c) e

-- A list has a first of those behind fewer places than it has.
pub first_there : (k : ℕ) (cs : List Cleaning) → k < length cs → first (drop k cs) ≢ None
first_there k [] l e = absurd (omega arith)
first_there zero (c ∷ cs) l e = let b : true ≡ false = ap (λ (o : Option Cleaning). is_some o) e in false≢true (sym b)
first_there (suc k) (c ∷ cs) l e = first_there k cs (omega arith) e

-- F gives what stands behind place k.
chained_at : (F : Cleaning → Option Cleaning) (k : ℕ) (cs : List Cleaning) (d : Cleaning) → Chained F cs → k < length cs → Some d ≡ first (drop k cs) → F d ≡ first (drop (suc k) cs)
chained_at F k [] d ch l e = absurd (omega arith)
chained_at F zero (c ∷ cs) d ch l e = ap F (its e) ∙ ch.0
chained_at F (suc k) (c ∷ cs) d ch l e = chained_at F k cs d ch.1 (omega arith) e

-- The cleaning of place k, stored behind the first k.
stored : (k : ℕ) (cs ys : List Cleaning) (d : Cleaning) → k < length cs → k < length ys → Some d ≡ first (drop k cs) → set (take k cs ++ drop k ys) k d ≡ take (suc k) cs ++ drop (suc k) ys
stored k [] ys d l m e = absurd (omega arith)
stored k (c ∷ cs) [] d l m e = absurd (omega arith)
stored zero (c ∷ cs) (y ∷ ys) d l m e = ap (λ (x : Cleaning). x ∷ ys) (its e)
stored (suc k) (c ∷ cs) (y ∷ ys) d l m e = ap (◌∷◌ c) (stored k cs ys d (omega arith) (omega arith) e)

pub pasted_none : (cs ys : List Cleaning) → ys ≡ pasted 0 cs ys
unfolding pasted
pasted_none cs ys = refl

pub pasted_more : (k : ℕ) (cs ys zs : List Cleaning) (c : Cleaning) → k < length cs → k < length ys → zs ≡ pasted k cs ys → Some c ≡ first (drop k cs) → set zs k c ≡ pasted (k + 1) cs ys
unfolding pasted
pasted_more k cs ys zs c l m e f = rw (e, add-one) (stored k cs ys c l m f)

-- A byte that is to be cleaned at is a thread's: so who last ran after it is that thread.
barred-runs : (n : ℕ) (w : List ℕ) (a b : ℕ) → barred n w a b ≡ true → latest n a b ≡ b
unfolding barred latest pick
barred-runs n w a b e = rw (and_left (ltb b n) _ e)

-- The cleanings of a trace are chained by `following`.
chained : (n : ℕ) (w tr bs : List ℕ) (j a : ℕ) → drop j tr ≡ bs → Chained (following n w tr) (cleaned (barred n w) n j a bs)
unfolding cleaned following
chained n w tr [] j a e = tt
chained n w tr (b ∷ bs) j a e =
    let rest : drop (j + 1) tr ≡ bs = sym (drop-drop 1 j tr) ∙ ap (drop 1) e in
    let after : ℕ → List ℕ → List Cleaning = cleaned (barred n w) n (j + 1) in
    let P : List Cleaning → Type 0 = λ l. Chained (following n w tr) (l ++ after (latest n a b) bs) in
    let more : Chained (following n w tr) (after (latest n a b) bs) = chained n w tr bs (j + 1) (latest n a b) rest in
    either P (barred n w a b)
    (λ m. (ap (λ (l : List ℕ). first (after b l)) rest ∙ ap (λ (x : ℕ). first (after x bs)) (sym (barred-runs n w a b m)), more))
    (λ m. more)

-- What follows the cleaning of place k of a scan.
pub followed : (n : ℕ) (w tr : List ℕ) (k : ℕ) (c : Cleaning) → k < length (scanned n w tr) → Some c ≡ first (drop k (scanned n w tr)) → following n w tr c ≡ first (drop (k + 1) (scanned n w tr))
unfolding scanned
followed n w tr k c l e = rw add-one (chained_at (following n w tr) k (cleaned (barred n w) n 0 nobody tr) c (chained n w tr tr 0 nobody refl) l e)

-- At one byte of the trace.
module _ (must : ℕ → ℕ → Bool) (n : ℕ) (tr : List ℕ) (i a : ℕ) (l : i < length tr) where
  abbrev byte : ℕ
  byte = get_or tr i 0

  -- The test says that the cache is to be cleaned.
  pub at-due : must a byte ≡ true → cleaned must n i a (drop i tr) ≡ record { step = i; before = a; after = byte } ∷ cleaned must n (i + 1) (latest n a byte) (drop (i + 1) tr)
  unfolding cleaned pick
  at-due e = rw (opened tr i l, e)

  -- It does not.
  pub at_none : must a byte ≡ false → cleaned must n i a (drop i tr) ≡ cleaned must n (i + 1) (latest n a byte) (drop (i + 1) tr)
  unfolding cleaned pick
  at_none e = rw (opened tr i l, e)

-- Past the end.
pub at_end : (must : ℕ → ℕ → Bool) (n : ℕ) (tr : List ℕ) (i a : ℕ) → length tr ≤ i → cleaned must n i a (drop i tr) ≡ []
unfolding cleaned
at_end must n tr i a l = rw (drop_of_length-le tr l)

-- Who last ran.
pub last-at : (t : Table) (tr : List ℕ) (i a : ℕ) → i < length tr → last_run t a (drop i tr) ≡ last_run t (latest t.count a (get_or tr i 0)) (drop (i + 1) tr)
unfolding last_run
last-at t tr i a l = ap (last_run t a) (opened tr i l)

pub last_at_end : (t : Table) (tr : List ℕ) (i a : ℕ) → length tr ≤ i → last_run t a (drop i tr) ≡ a
unfolding last_run
last_at_end t tr i a l = rw (drop_of_length-le tr l)

-- The test of a trace.
pub at-known : (k : ℕ) (tr : List ℕ) (i : ℕ) → i < length tr → all_known k (drop i tr) ≡ and (known k (get_or tr i 0)) (all_known k (drop (i + 1) tr))
at-known k tr i l = rw (add-one, drop-cons tr i 0)

pub known_end : (k : ℕ) (tr : List ℕ) (i : ℕ) → length tr ≤ i → all_known k (drop i tr) ≡ true
known_end k tr i l = rw (drop_of_length-le tr l)
