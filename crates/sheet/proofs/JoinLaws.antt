-- What a cutting of a text comes to, by the verdict that the byte form has on the bytes of its numbers.
use Prim.Native.Nat.{ℕ, ◌<◌}
use mathlib.Core.Path.{◌≡◌, refl, ap, sym, ◌∙◌, subst}
use mathlib.Core.List.{List, [], ◌∷◌}
use native.Mathlib.Omega.{arith}
use lib.ListN.{length}
use lib.Dec.{eqb, ltb}
use borrow.Author.Tests.{ne_eqb}
use Rattle.basis.specs.Tests.{pick, or}
use Rattle.basis.specs.Told.{Told, refused}
use Rattle.basis.specs.Search.{found}
use Rattle.basis.proofs.TestLaws.{by_test, either}
use Rattle.flow.specs.Gap.{Triple, gap_told}
use Rattle.table.specs.declared.Table.{Table}
use Rattle.reader.specs.Reader.{Read, reading}
use Rattle.codec.specs.Judging.{field_fault, fault, row_gap, wanted, place}
use Rattle.sheet.specs.Sheet.{placed, sheet_reading}
use Rattle.sheet.specs.SheetJudging.{SheetJudgment}
use Rattle.sheet.specs.Scan.{Cutting, Verdict, Accepted, No, Intransitive, verdict_told, cut_numbers, cut_bytes, own, passed_by, objected_by, joined}
use Rattle.sheet.proofs.SheetJudged.{row_gap_by}
use Rattle.sheet.proofs.SheetReaderLaws.{sheet_refused}
use Rattle.sheet.proofs.ByteVerdicts.{Passing, all_pass, one-missing}

-- Verdicts that tell the same are the same.
verdict_apart : (v w : Verdict) → verdict_told v ≡ verdict_told w → v ≡ w
verdict_apart Accepted Accepted e = refl
verdict_apart Accepted (No y q) e = let v = ap (λ (t : Told). t.values) e in let z : ◌≡◌ {A = ℕ} 0 1 = cc in absurd (omega arith)
verdict_apart Accepted (Intransitive q x y z) e = let n = ap (λ (t : Told). t.number) e in absurd (omega arith)
verdict_apart (No x p) Accepted e = let v = ap (λ (t : Told). t.values) e in let z : ◌≡◌ {A = ℕ} 0 1 = cc in absurd (omega arith)
verdict_apart (No x p) (No y q) e =
    let n = ap (λ (t : Told). t.number) e in
    let v = ap (λ (t : Told). t.values) e in cc
verdict_apart (No x p) (Intransitive q a b c) e = let v = ap (λ (t : Told). t.values) e in let z : ◌≡◌ {A = ℕ} 0 1 = cc in absurd (omega arith)
verdict_apart (Intransitive p a b c) Accepted e = let n = ap (λ (t : Told). t.number) e in absurd (omega arith)
verdict_apart (Intransitive p a b c) (No y q) e = let v = ap (λ (t : Told). t.values) e in let z : ◌≡◌ {A = ℕ} 0 1 = cc in absurd (omega arith)
verdict_apart (Intransitive p a b c) (Intransitive q x y z) e = let v = ap (λ (t : Told). t.values) e in cc

-- The cutting c of the text s comes to what the reader answers, with what the byte form says of its numbers.
pub record Comes (s : List ℕ) (c : Cutting) : Type 0 where
  pub same : (v : Verdict) (t : Table) → ◌≡◌ {A = Read} (record { told = verdict_told v; table = t }) (reading (cut_bytes c)) → joined s c (cut_bytes c) v t ≡ sheet_reading s

-- It does if it does for the verdict that the byte form has.
pub comes_by : (s : List ℕ) (c : Cutting) (w : Verdict) → (reading (cut_bytes c)).told ≡ verdict_told w
    → ((t : Table) → t ≡ (reading (cut_bytes c)).table → joined s c (cut_bytes c) w t ≡ sheet_reading s) → Comes s c
comes_by s c w e h = record {
  same = λ v t f.
      let q : v ≡ w = verdict_apart v w (ap (λ (r : Read). r.told) f ∙ e) in
      subst (λ (x : Verdict). joined s c (cut_bytes c) x t ≡ sheet_reading s) (sym q) (h t (ap (λ (r : Read). r.table) f));
}

-- The text's own fault.
pub record OwnFault (s : List ℕ) (c : Cutting) : Type 0 where
  pub some : 0 < c.refusal
  pub judged : SheetJudgment s (placed (refused c.refusal) c.place)

pub own-fault : {s : List ℕ} {c : Cutting} → OwnFault s c → own c ≡ sheet_reading s
own-fault {s} {c} o = sym (sheet_refused s (placed (refused c.refusal) c.place) o.judged o.some)

-- All numbers pass, and the text has a fault of its own.
pub own_comes : (s : List ℕ) (c : Cutting) → Passing (cut_numbers c) → OwnFault s c → Comes s c
unfolding passed_by objected_by pick
own_comes s c b o =
    by_test (wanted (cut_numbers c))
    (λ w. comes_by s c (No 1 (place (cut_numbers c))) (one-missing (cut_numbers c) b w) (λ t f. own-fault o))
    (λ w. comes_by s c Accepted (all_pass (cut_numbers c) b w)
    (λ t f. rw (ne_eqb c.refusal 0 (λ z. omega (arith, o.some, z))) (own-fault o)))

-- No number is refused with 1, which is for one that is missing.
pub not-one : (vs : List ℕ) (v : ℕ) → fault vs v ≡ 1 → ⊥
unfolding fault field_fault
not-one [] v = either (λ (n : ℕ). n ≡ 1 → ⊥) (or (eqb v 1) (eqb v 2)) (λ t z. omega arith) (λ t z. omega arith)
not-one (x ∷ []) v = either (λ (n : ℕ). n ≡ 1 → ⊥) _ (λ t z. omega arith) (λ t z. omega arith)
not-one (x ∷ d ∷ []) v = either (λ (n : ℕ). n ≡ 1 → ⊥) _ (λ t z. omega arith) (λ t z. omega arith)
not-one (x ∷ d ∷ n ∷ vs) v =
    let P : ℕ → Type 0 = λ m. m ≡ 1 → ⊥ in
    either P (ltb (length vs) d) (λ t. either P _ (λ u z. omega arith) (λ u z. omega arith))
    (λ t. either P _ (λ u. either P _ (λ x z. omega arith) (λ x z. omega arith)) (λ u z. omega arith))

-- A gap is three domains.
pub record Three (o : Told) : Type 0 where
  pub triple : Triple
  pub tells : o ≡ gap_told (found triple)

pub gap-three : (vs : List ℕ) (v : ℕ) → 0 < (row_gap vs v).number → Three (row_gap vs v)
gap-three = row_gap_by (λ o. 0 < o.number → Three o) (λ h. absurd (omega arith)) (λ g h. record { triple = g; tells = refl })
