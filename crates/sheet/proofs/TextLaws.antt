-- The numbers that a text starts with: their text grows by one number and its end, and one more may follow them.
use Prim.Native.Nat.{ℕ, zero, suc, ◌+◌, ◌-◌, ◌≤◌, ◌<◌}
use mathlib.Core.Path.{◌≡◌, refl, ap, sym, ◌∙◌, subst}
use mathlib.Core.Bool.{Bool, true}
use mathlib.Core.List.{List, [], ◌∷◌, ◌++◌}
use native.Mathlib.Omega.{arith}
use native.Mathlib.Nat.{add-zero, zero-add, add-suc}
use lib.ListN.{length, get_or, take, drop, length-append, take-append-drop, get_or-append}
use lib.Seq.{take-append_seam, take-append-le, take_all, take-length, get_or-append_seam, length-take-le}
use Rattle.basis.specs.Told.{answered}
use Rattle.decimal.specs.Decimal.{decimal}
use Rattle.numeral.proofs.Runs.{Reads, reads_join, reads_split}
use Rattle.codec.specs.Judging.{objection, wanted}
use Rattle.codec.proofs.BeforeLaws.{each_next}
use Rattle.sheet.specs.Text.{ending, line_over, text_part, text_of}
use Rattle.sheet.specs.Sheet.{behind}
use Rattle.sheet.specs.SheetJudging.{SheetBefore, sheet_place}

text-front : (vs ws : List ℕ) (n : ℕ) → n ≤ length vs → text_part (vs ++ ws) n ≡ text_part vs n
unfolding text_part
text-front vs ws zero h = refl
text-front vs ws (suc n) h = rw (text-front vs ws n (omega arith), get_or-append vs ws 0 n h, take-append-le (suc n) vs ws h)

-- One number more, with what is due behind it.
pub text-last : (vs : List ℕ) (v : ℕ) → text_of (vs ++ (v ∷ [])) ≡ text_of vs ++ (decimal v ++ ending (line_over (vs ++ (v ∷ []))))
unfolding text_part
text-last vs v =
    let n : length (vs ++ (v ∷ [])) ≡ suc (length vs) = omega (arith, length-append vs (v ∷ [])) in
    rw (
      n,
      text-front vs (v ∷ []) (length vs) (omega arith),
      get_or-append_seam vs v [] 0,
      take_all (suc (length vs)) (vs ++ (v ∷ [])) (omega (arith, n)),
    )

pub sheet_before_nil : (s : List ℕ) → SheetBefore s []
unfolding text_part
sheet_before_nil s = record { begins = refl; wants = λ k h. absurd (omega arith); passed = λ k h. absurd (omega arith) }

sheet_before_reads : {s vs : List ℕ} → SheetBefore s vs → Reads s 0 (sheet_place vs) (text_of vs)
sheet_before_reads {s} {vs} b = record {
  stands = sym (take-append-drop (sheet_place vs) s) ∙ ap (λ (l : List ℕ). l ++ drop (sheet_place vs) s) b.begins;
  ends = omega arith;
}

-- One more number that is wanted, stands there with the end that is due, and is not objected to.
pub sheet_before_next : {s vs : List ℕ} {e : ℕ} (v : ℕ) → SheetBefore s vs → wanted vs ≡ true → Reads s (sheet_place vs) e (decimal v)
    → Reads s e (behind e (line_over (vs ++ (v ∷ [])))) (ending (line_over (vs ++ (v ∷ [])))) → objection vs v ≡ answered []
    → (SheetBefore s (vs ++ (v ∷ []))) × (behind e (line_over (vs ++ (v ∷ []))) ≡ sheet_place (vs ++ (v ∷ [])))
sheet_before_next {s} {vs} {e} v b w r f o =
    let last : Bool = line_over (vs ++ (v ∷ [])) in
    let q : ℕ = behind e last in
    let j : Reads s 0 q (text_of vs ++ (decimal v ++ ending last)) = reads_join (sheet_before_reads b) (reads_join r f) in
    let xs : List ℕ = text_of vs ++ (decimal v ++ ending last) in (
      record {
        begins = rw (text-last vs v) (ap (take (length xs)) j.stands ∙ take-append_seam xs (drop q s));
        wants = each_next (λ ws x. wanted ws ≡ true) vs v b.wants w;
        passed = each_next (λ ws x. objection ws x ≡ answered []) vs v b.passed o;
      },
      rw (text-last vs v) (omega (arith, j.ends)),
    )

-- The text of the first numbers starts the text of all.
text_grows : (vs : List ℕ) (k j : ℕ) → take (length (text_part vs k)) (text_part vs (k + j)) ≡ text_part vs k
unfolding text_part
text_grows vs k zero = rw add-zero (take-length (text_part vs k))
text_grows vs k (suc j) =
    let n : ℕ = length (text_part vs k) in
    let xs : List ℕ = text_part vs (k + j) in
    let r : take n xs ≡ text_part vs k = text_grows vs k j in
    let l : n ≤ length xs = omega (arith, ap length r, ap length (take-append-drop n xs), length-append (take n xs) (drop n xs)) in
    rw add-suc (take-append-le n xs _ l ∙ r)

text-take : (vs : List ℕ) (k : ℕ) → k ≤ length vs → text_of (take k vs) ≡ text_part vs k
text-take vs k h =
    let n : length (take k vs) ≡ k = length-take-le k vs h in
    rw n (sym (text-front (take k vs) (drop k vs) k (omega arith)) ∙ ap (λ (l : List ℕ). text_part l k) (take-append-drop k vs))

before-part : {s vs : List ℕ} → SheetBefore s vs → (k : ℕ) → k ≤ length vs → Reads s 0 (length (text_part vs k)) (text_part vs k)
before-part {s} {vs} b k h =
    let n : ℕ = length (text_part vs k) in
    let all : List ℕ = text_of vs in
    let q : k + (length vs - k) ≡ length vs = omega arith in
    let front : take n all ≡ text_part vs k = subst (λ (m : ℕ). take n (text_part vs m) ≡ text_part vs k) q (text_grows vs k (length vs - k)) in
    let e : all ≡ text_part vs k ++ drop n all = sym (take-append-drop n all) ∙ ap (λ (l : List ℕ). l ++ drop n all) front in
    let r = subst (λ (l : List ℕ). Reads s 0 (sheet_place vs) l) e (sheet_before_reads b) in
    rw zero-add at (reads_split (text_part vs k) (drop n all) r).0

-- Each number stands where those before it end, with what is due behind it.
pub before-one : {s vs : List ℕ} → SheetBefore s vs → (k : ℕ) → k < length vs →
    let at = sheet_place (take k vs) in
    let e = at + length (decimal (get_or vs k 0)) in
    let last = line_over (take (suc k) vs) in
    (Reads s at e (decimal (get_or vs k 0))) × (Reads s e (behind e last) (ending last))
unfolding text_part
before-one {s} {vs} b k h =
    let v : ℕ = get_or vs k 0 in
    let last : Bool = line_over (take (suc k) vs) in
    let r = before-part b (suc k) h in
    let p = reads_split (text_part vs k) (decimal v ++ ending last) r in
    let q = reads_split (decimal v) (ending last) (rw zero-add at p.1) in
    let f = q.1 in
    rw (text-take vs k (omega arith)) (q.0, record { stands = rw f.ends at f.stands; ends = refl })
