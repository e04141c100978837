-- Laws of the numbers that the bytes start with: one more may follow them, each is read where it stands, and each is small.
use Prim.Native.Nat.{ℕ, zero, suc, ◌+◌, ◌*◌, ◌/◌, ◌%◌, ◌≤◌, ◌<◌}
use mathlib.Core.Path.{◌≡◌, refl, ap, sym, ◌∙◌, subst}
use mathlib.Core.Bool.{Bool, true, false}
use mathlib.Core.List.{List, [], ◌∷◌, ◌++◌}
use mathlib.Core.Logic.{⊎_elim}
use native.Mathlib.Nat.{eq-or-lt_of_le, zero-add}
use native.Mathlib.Omega.{arith}
use lib.ListN.{length, get_or, take, drop, length-append, take-append-drop, get_or-append, get_or-eq_default}
use lib.Seq.{take-append_seam, take-append-le, take-suc, take_all, take-length, get_or-append_seam, get_or-drop, split_at}
use lib.Dec.{eqb, ltb}
use borrow.Author.Tests.{eqb-true, eqb-false, ltb-true, ltb-false}
use Rattle.basis.specs.Tests.{pick, or}
use Rattle.basis.specs.Told.{Told, answered, refused}
use Rattle.basis.proofs.TestLaws.{by_test}
use Rattle.flow.specs.Flow.{row_ok}
use Rattle.flow.proofs.FlowLaws.{row_small}
use Rattle.table.specs.Threads.{fields_in}
use Rattle.table.specs.Ranges.{within, domain_counts, thread_counts, field_range}
use Rattle.table.specs.declared.Range.{Range}
use Rattle.table.proofs.RangeLaws.{within_high, below_small}
use Rattle.numeral.specs.Number.{Value, number_at, encode, encode_all}
use Rattle.codec.specs.Judging.{field_fault, fault, objection, wanted, Before, place}
use Rattle.numeral.proofs.NumberLaws.{encode_all-append, encode_all-last}
use Rattle.numeral.proofs.Runs.{Reads, reads_join, reads_split, reads_number}

-- What holds at each place of a list, and of one more number, holds at each place of the longer list.
pub each_next : (P : List ℕ → ℕ → Type 0) (vs : List ℕ) (v : ℕ) → ((k : ℕ) → k < length vs → P (take k vs) (get_or vs k 0)) → P vs v
    → (k : ℕ) → k < length (vs ++ (v ∷ [])) → P (take k (vs ++ (v ∷ []))) (get_or (vs ++ (v ∷ [])) k 0)
each_next P vs v h p k l =
    ⊎_elim
    (λ (e : k ≡ length vs). rw (e, take-append_seam vs (v ∷ []), get_or-append_seam vs v [] 0) p)
    (λ (m : k < length vs). rw (take-append-le k vs (v ∷ []) (omega arith), get_or-append vs (v ∷ []) 0 k m) (h k m))
    (eq-or-lt_of_le (omega (arith, length-append vs (v ∷ []))))

pub before_nil : (s : List ℕ) → Before s []
unfolding encode_all
before_nil s = record { stands = refl; wants = λ k h. absurd (omega arith); passed = λ k h. absurd (omega arith) }

pub before_reads : {s vs : List ℕ} → Before s vs → Reads s 0 (place vs) (encode_all vs)
before_reads {s} {vs} b = record {
  stands = sym (take-append-drop (place vs) s) ∙ ap (λ (l : List ℕ). l ++ drop (place vs) s) b.stands;
  ends = omega arith;
}

-- One more number that is wanted, stands there and is not objected to.
pub before-next : {s vs : List ℕ} {q : ℕ} (v : ℕ) → Before s vs → wanted vs ≡ true → Reads s (place vs) q (encode v) → objection vs v ≡ answered []
    → Before s (vs ++ (v ∷ []))
before-next {s} {vs} {q} v b w r o =
    let j : Reads s 0 q (encode_all vs ++ encode v) = reads_join (before_reads b) r in
    record {
      stands = rw (encode_all-last vs v)
          (ap (take (length (encode_all vs ++ encode v))) j.stands ∙ take-append_seam (encode_all vs ++ encode v) (drop q s));
      wants = each_next (λ ws x. wanted ws ≡ true) vs v b.wants w;
      passed = each_next (λ ws x. objection ws x ≡ answered []) vs v b.passed o;
    }

-- A number without an objection has no fault.
pub unfaulted : (vs : List ℕ) (v : ℕ) → objection vs v ≡ answered [] → fault vs v ≡ 0
unfolding objection pick
unfaulted vs v e =
    by_test (eqb (fault vs v) 0) (λ t. eqb-true _ _ t)
    (λ t. let z : refused (fault vs v) ≡ answered [] = rw t at e in ap (λ (o : Told). o.number) z)

-- A test that gives no fault passes.
pub passes : (b : Bool) (x w : ℕ) → 0 < w → pick b x w ≡ 0 → (b ≡ true) × (x ≡ 0)
unfolding pick
passes true x w h e = (refl, e)
passes false x w h e = absurd (omega arith)

-- A version that passes is 1 or 2.
pub one_or_two : (v : ℕ) → or (eqb v 1) (eqb v 2) ≡ true → (1 ≤ v) × (v ≤ 2)
one_or_two v e =
    by_test (eqb v 1) (λ t. omega (arith, eqb-true v 1 t))
    (λ t. let u : eqb v 2 ≡ true = rw t at e in omega (arith, eqb-true v 2 u))

-- Each number is one that the bytes can hold, and the second is a count of domains.
pub record Small (vs : List ℕ) : Type 0 where
  pub each : (k : ℕ) → get_or vs k 0 < 65536
  pub domains : get_or vs 1 0 ≤ 16

field_small : (x d : ℕ) (fs : List ℕ) (v : ℕ) → d < 65536 → ((j : ℕ) → get_or fs j 0 < 65536) → field_fault x d fs v ≡ 0 → v < 65536
unfolding field_fault
field_small x d fs v h e f =
    let w : ℕ = fields_in x in
    let i : ℕ = length fs / w in
    let r : Range = field_range x d (drop (w * i) fs) (length fs % w) in
    let p = passes (within r v) _ 8 (omega arith) f in
    let small : (j : ℕ) → get_or (drop (w * i) fs) j 0 < 65536 = λ j. rw (get_or-drop (w * i) fs j 0) (e (w * i + j)) in
    let l : r.below ≤ 65536 = below_small x d (drop (w * i) fs) (length fs % w) h (small 2) (small 4) in
    omega (arith, within_high r v p.0)

passed_small : (vs : List ℕ) (v : ℕ) → Small vs → fault vs v ≡ 0 → v < 65536
unfolding fault pick
passed_small [] v h e = omega (arith, one_or_two v (passes (or (eqb v 1) (eqb v 2)) 0 4 (omega arith) e).0)
passed_small (x ∷ []) v h e = omega (arith, within_high domain_counts v (passes (within domain_counts v) 0 5 (omega arith) e).0)
passed_small (x ∷ d ∷ []) v h e = omega (arith, within_high thread_counts v (passes (within thread_counts v) 0 5 (omega arith) e).0)
passed_small (x ∷ d ∷ n ∷ vs) v h e = go (ltb (length vs) d) e
  where
    go : (b : Bool) → pick b (pick (row_ok d (length vs) v) 0 6) (field_fault x d (drop d vs) v) ≡ 0 → v < 65536
    go true f = row_small d (length vs) v h.domains (passes (row_ok d (length vs) v) 0 6 (omega arith) f).0
    go false f = field_small x d (drop d vs) v (h.each 1) (λ j. rw (get_or-drop d vs j 0) (h.each (suc (suc (suc (d + j)))))) f

small_next : (vs : List ℕ) (v : ℕ) → Small vs → fault vs v ≡ 0 → Small (vs ++ (v ∷ []))
unfolding fault
small_next vs v h e = record { each = here; domains = second vs h e }
  where
    here : (k : ℕ) → get_or (vs ++ (v ∷ [])) k 0 < 65536
    here k = by_test (ltb k (length vs))
        (λ t. rw (get_or-append vs (v ∷ []) 0 k (ltb-true _ _ t)) (h.each k))
        (λ t. by_test (eqb k (length vs))
        (λ u. rw (eqb-true k _ u, get_or-append_seam vs v [] 0) (passed_small vs v h e))
        (λ u. let l : length (vs ++ (v ∷ [])) ≤ k = omega (arith, length-append vs (v ∷ []), ltb-false k (length vs) t, eqb-false k (length vs) u) in
        rw (get_or-eq_default (vs ++ (v ∷ [])) 0 l) (omega arith)))

    second : (ws : List ℕ) → Small ws → fault ws v ≡ 0 → get_or (ws ++ (v ∷ [])) 1 0 ≤ 16
    second [] g f = omega arith
    second (x ∷ []) g f = omega (arith, within_high domain_counts v (passes (within domain_counts v) 0 5 (omega arith) f).0)
    second (x ∷ d ∷ ws) g f = g.domains

pub before_small : {s vs : List ℕ} → Before s vs → (k : ℕ) → Small (take k vs)
before_small b zero = record { each = λ k. omega arith; domains = omega arith }
before_small {s} {vs} b (suc k) =
    by_test (ltb k (length vs))
    (λ t. let l : k < length vs = ltb-true _ _ t in
    rw (take-suc vs k 0 l) (small_next (take k vs) (get_or vs k 0) (before_small b k) (unfaulted _ _ (b.passed k l))))
    (λ t. let l : length vs ≤ k = ltb-false _ _ t in
    let e : take (suc k) vs ≡ take k vs = take_all (suc k) vs (omega arith) ∙ sym (take_all k vs l) in
    rw e (before_small b k))

-- Each number is read where it stands.
pub before-number : {s vs : List ℕ} → Before s vs → (k : ℕ) → k < length vs
    → number_at s (place (take k vs)) ≡ Value (get_or vs k 0) (place (take k vs) + length (encode (get_or vs k 0)))
unfolding encode_all
before-number {s} {vs} b k l =
    let v : ℕ = get_or vs k 0 in
    let ws : List ℕ = drop (suc k) vs in
    let e : encode_all vs ≡ encode_all (take k vs) ++ (encode v ++ encode_all ws)
    = ap encode_all (split_at vs k 0 l) ∙ encode_all-append (take k vs) (v ∷ ws) in
    let r : Reads s 0 (place vs) (encode_all (take k vs) ++ (encode v ++ encode_all ws))
    = subst (λ (xs : List ℕ). Reads s 0 (place vs) xs) e (before_reads b) in
    let p = reads_split (encode_all (take k vs)) (encode v ++ encode_all ws) r in
    let q = reads_split (encode v) (encode_all ws) (rw zero-add at p.1) in
    let m : v < 65536 = rw (take-length vs) at ((before_small b (length vs)).each k) in
    reads_number s _ v _ m q.0

-- The second and the third number are counts in their ranges.
pub before_counts : {s vs : List ℕ} (x d n : ℕ) → Before s (x ∷ d ∷ n ∷ vs) → (within domain_counts d ≡ true) × (within thread_counts n ≡ true)
unfolding fault
before_counts x d n b =
    let e : fault (x ∷ []) d ≡ 0 = unfaulted _ _ (b.passed 1 (omega arith)) in
    let f : fault (x ∷ d ∷ []) n ≡ 0 = unfaulted _ _ (b.passed 2 (omega arith)) in
    ((passes (within domain_counts d) 0 5 (omega arith) e).0, (passes (within thread_counts n) 0 5 (omega arith) f).0)
