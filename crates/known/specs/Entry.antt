-- A statement of document 01: what the definitions compute, and what was found by hand.
use Rattle.std.specs.Prelude.{ℕ, ◌≡◌, refl, List, [], ◌∷◌, ◌++◌, map, Bool, true, false, length, eqb, unwrap_or}
use Rattle.std.proofs.Common.{ap₂, eqb-true}
use Rattle.std.proofs.lemmas.Bool.{false≢true}
use Rattle.basis.specs.Tests.{pick, and}
use Rattle.basis.proofs.TestLaws.{and_both}
use Rattle.basis.specs.Told.{Told}
use Rattle.flow.specs.Gap.{first_gap, gap_told}
use Rattle.table.specs.Legal.{legal}
use Rattle.table.specs.Mark.{marking, marks_given}
use Rattle.table.specs.Mark.{Mark}
use Rattle.table.specs.declared.Table.{Table}
use Rattle.numeral.specs.Number.{number_at, told as number-told}
use Rattle.reader.specs.Reader.{reading}
use Rattle.writer.specs.Writer.{writing, written}
use Rattle.admission.specs.Admit.{admitting, bounds_given}

pub record Entry : Type 0 where
  pub computed : List ℕ
  pub by_hand : List ℕ

-- The claim of a list: each entry computes to what was found by hand.
abbrev pub Holds : List Entry → Type 0
Holds es = map (λ (e : Entry). e.computed) es ≡ map (λ (e : Entry). e.by_hand) es

-- The same numbers, of two lists and of each entry.
unfoldable pub same : List ℕ → List ℕ → Bool
same [] [] = true
same [] (y ∷ ys) = false
same (x ∷ xs) [] = false
same (x ∷ xs) (y ∷ ys) = and (eqb x y) (same xs ys)

unfoldable pub all_same : List Entry → Bool
all_same [] = true
all_same (e ∷ es) = and (same e.computed e.by_hand) (all_same es)

-- So a claim may be computed number by number, which takes far fewer steps than to compare the two sides as terms.
same_lists : (xs ys : List ℕ) → same xs ys ≡ true → xs ≡ ys
unfolding same
same_lists [] [] h = refl
same_lists [] (y ∷ ys) h = absurd (false≢true h)
same_lists (x ∷ xs) [] h = absurd (false≢true h)
same_lists (x ∷ xs) (y ∷ ys) h =
    let p = and_both (eqb x y) (same xs ys) h in
    ap₂ ◌∷◌ (eqb-true x y p.0) (same_lists xs ys p.1)

pub by_numbers : (es : List Entry) → all_same es ≡ true → Holds es
unfolding all_same
by_numbers [] h = refl
by_numbers (e ∷ es) h =
    let p = and_both (same e.computed e.by_hand) (all_same es) h in
    ap₂ ◌∷◌ (same_lists e.computed e.by_hand p.0) (by_numbers es p.1)

-- A number of document 01, followed by its values.
abbrev pub flat : Told → List ℕ
flat t = t.number ∷ t.values

-- The number that a run of bytes starts with: 0, its value and the place after it, or the refusal.
abbrev pub number_of : List ℕ → List ℕ
number_of s = flat (number-told (number_at s 0))

-- The first gap of as many domains as there are rows.
abbrev pub gap_of : List ℕ → List ℕ
gap_of rows = flat (gap_told (first_gap rows (length rows)))

-- 1 for a legal table, 0 for another.
abbrev pub is_legal : Table → ℕ
is_legal t = pick (legal t) 1 0

-- What `read` tells of these bytes.
abbrev pub read_told : List ℕ → List ℕ
read_told s = flat (reading s).told

-- What `marks` tells of a table, and then the 32 marks: the thread that one protects, or 100 where it protects none.
abbrev pub marks_told : Table → List ℕ
marks_told t = flat (marking t) ++ map (λ (m : Mark). unwrap_or m 100) (marks_given t)

-- What `write` tells of a table in a buffer from a place on, and then what the buffer holds.
abbrev pub write_told : List ℕ → ℕ → Table → List ℕ
write_told b at t = flat (writing b at t) ++ written b at t

-- What `admit` tells of a table, and then the 32 bounds.
abbrev pub admit_told : Table → List ℕ
admit_told t = flat (admitting t) ++ bounds_given t
