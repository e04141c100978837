-- What the cleanings are worth: under a transitive policy they stand between any two runs of which the earlier may not flow to the later, and none is spare.
use Prim.Native.Nat.{ℕ, ◌+◌, ◌<◌, ◌≤◌}
use mathlib.Core.Path.{◌≡◌, refl, sym, subst}
use mathlib.Core.List.{List, [], ◌∷◌}
use mathlib.Core.Bool.{true, false}
use native.Mathlib.Omega.{arith}
use borrow.Author.Tests.{ltb-true, ltb-false, eqb-true, eqb-false}
use lib.Dec.{eqb, ltb}
use lib.ListN.{get_or, drop}
use Rattle.basis.proofs.TestLaws.{by_test, refuted, fails}
use Rattle.table.specs.Legal.{Legal}
use Rattle.table.specs.Threads.{thread}
use Rattle.table.specs.declared.Table.{Table}
use Rattle.cleaning.specs.declared.Cleaning.{Cleaning}
use Rattle.cleaning.specs.Cleanings.{may_pass, must_clean}
use Rattle.cleaning.specs.Plain.{Runs, Due, Between, Needed}
use Rattle.cleaning.proofs.PlainLaws.{barred_must, step-within, step-byte, step_rest, trace-ended, one-runs, Known, known-run, known-idle, no_run, due-here, one-due}

module _ (t : Table) (g : Legal t) where
  pass_own : (a : ℕ) → a < t.count → may_pass t a a ≡ true
  unfolding may_pass
  pass_own a l = g.reflexive (thread t a).domain (g.threads a l).domain_high

  pass_on : (a b h : ℕ) → a < t.count → b < t.count → h < t.count → may_pass t a b ≡ true → may_pass t b h ≡ true → may_pass t a h ≡ true
  unfolding may_pass
  pass_on a b h l m n e f = g.transitive _ _ _ (g.threads a l).domain_high (g.threads b m).domain_high (g.threads h n).domain_high e f

  -- Where a thread runs and nothing is cleaned, the earlier thread may flow to it.
  unclean_passes : (a b : ℕ) → a < t.count → b < t.count → must_clean t a b ≡ false → may_pass t a b ≡ true
  unclean_passes a b l m e =
      by_test (may_pass t a b) (λ f. f)
      (λ f. by_test (eqb a b)
      (λ s. let same : a ≡ b = eqb-true _ _ s in subst (λ (n : ℕ). may_pass t a n ≡ true) same (pass_own a l))
      (λ s. refuted (barred_must t a b (record { runs = m; in_table = l; another = eqb-false _ _ s; barred = f })) e))

  module _ (tr : List ℕ) where
    -- From step j on, where a last ran: before the run of a thread that a may not flow to is over, a cleaning is due.
    enough-from : (bs : List ℕ) (j a : ℕ) → drop (j + 1) tr ≡ bs → Known t tr (j + 1) a → a < t.count → (k h : ℕ) → j < k → Runs t tr k h → may_pass t a h ≡ false
        → Between t tr j k
    enough-from [] j a e w l k h m u f = absurd (omega (arith, trace-ended tr (j + 1) e, u.within))
    enough-from (b ∷ bs) j a e w l k h m u f =
        let i : ℕ = j + 1 in
        let byte : get_or tr i 0 ≡ b = step-byte tr i b bs e in
        let rest : drop (i + 1) tr ≡ bs = step_rest tr i b bs e in
        by_test (ltb b t.count)
        (λ r. let v : Runs t tr i b = record { in_table = ltb-true _ _ r; within = step-within tr i b bs e; byte = byte } in
        by_test (must_clean t a b)
        (λ c. record { cleaning = record { step = i; before = a; after = b }; due = due-here t tr i a b w v c; after = omega arith; not_after = omega arith })
        (λ c. let p : may_pass t a b ≡ true = unclean_passes a b l v.in_table c in
        by_test (eqb i k)
        (λ s. let same : i ≡ k = eqb-true _ _ s in
        let who : b ≡ h = one-runs t tr k b h (subst (λ (n : ℕ). Runs t tr n b) same v) u in
        refuted (subst (λ (n : ℕ). may_pass t a n ≡ true) who p) f)
        (λ s. let far : i ≡ k → ⊥ = eqb-false _ _ s in
        let q : may_pass t b h ≡ false = fails _ (λ x. refuted (pass_on a b h l v.in_table u.in_table p x) f) in
        sooner (enough-from bs i b rest (known-run t tr i b v) v.in_table k h (apart far) u q))))
        (λ r. let idle : t.count ≤ b = ltb-false _ _ r in
        let far : i ≡ k → ⊥ = λ s. no_run t tr i b h byte idle (subst (λ (n : ℕ). Runs t tr n h) (sym s) u) in
        sooner (enough-from bs i a rest (known-idle t tr i a b byte idle w) l k h (apart far) u f))
      where
        sooner : Between t tr (j + 1) k → Between t tr j k
        sooner x = record { cleaning = x.cleaning; due = x.due; after = omega (arith, x.after); not_after = x.not_after }

        apart : (j + 1 ≡ k → ⊥) → j + 1 < k
        apart far = by_test (ltb (j + 1) k) (λ s. ltb-true _ _ s) (λ s. let q : k ≤ j + 1 = ltb-false _ _ s in absurd (far (omega arith)))

    -- Between any two runs of which the earlier thread may not flow to the later one, a cleaning stands after the earlier run and not after the later.
    pub cleaned_between : (j i k h : ℕ) → Runs t tr j i → Runs t tr k h → j < k → may_pass t i h ≡ false → Between t tr j k
    cleaned_between j i k h u v m f = enough-from (drop (j + 1) tr) j i refl (known-run t tr j i u) u.in_table k h m v f

-- No cleaning can be left out: of the two runs that it stands between the earlier may not flow to the later, and no other cleaning stands there.
pub none_spare : (t : Table) (tr : List ℕ) (c : Cleaning) → Due t tr c → Needed t tr c
none_spare t tr c u = record { from = u.last.at; sooner = u.last.earlier; earlier = u.last.runs; later = u.runs; barred = u.barred; only = only }
  where
    only : (d : Cleaning) → Due t tr d → u.last.at < d.step → d.step ≤ c.step → d ≡ c
    only d v l m =
        by_test (ltb d.step c.step)
        (λ e. absurd (u.last.since d.step d.after l (ltb-true _ _ e) v.runs))
        (λ e. let n : c.step ≤ d.step = ltb-false _ _ e in one-due t tr d c v u (omega arith))
