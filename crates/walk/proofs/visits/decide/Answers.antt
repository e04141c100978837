use Rattle.walk.proofs.WalkLaws.{kept_counts, pay-each}
use Rattle.walk.specs.Walk.{decided}
use Rattle.state.specs.Methods.{pay}
use Rattle.basis.specs.Tests.{pick}
use Prim.Native.Nat.{ℕ, ◌<◌}
use mathlib.Core.Path.{◌≡◌, refl, sym, ◌∙◌}
use Rattle.state.specs.State.{progress}
use Rattle.walk.proofs.ReachedLaws.{runs_exactly}
use native.Mathlib.Omega.{arith}
use Rattle.walk.proofs.visits.decide.Goals as goal

pub count-ran-requires : goal.count-ran-requires
count-ran-requires c =
    let i : ℕ = c.args.i in
    let h = pay-each 32 _ (kept_counts 32 999999999) i _ c.requires.0 c.requires.2 in
    let left : 0 < (progress c.args.s i).execution
    = ((runs_exactly c.args.b (progress c.args.s i)).0 (sym c.runs.ensures ∙ c.if-runs.true)).2 in
    let g = pay-each 32 (λ k p. k ≡ i → 0 < p.execution) (record { pays = λ k p l u. u; finishes = λ k p l u. u }) i c.args.s c.requires.0
    (record { at = λ k e. rw e left }) in
    (c.requires.0, rw c.pay-paid.ensures (omega (arith, h.at i)), rw c.pay-paid.ensures (g.at i refl))

pub returns-then-runs : goal.returns-then-runs
unfolding pick decided pay
returns-then-runs c = simp (sym c.runs.ensures ∙ c.if-runs.true, c.pay-paid.ensures, c.count-ran.ensures)

pub returns-then-is_some : goal.returns-then-is_some
unfolding pick decided pay
returns-then-is_some c = simp (sym c.runs.ensures ∙ c.if-runs.false, sym c.is_some.ensures ∙ c.if-is_some.true, c.pay-paid.ensures)

pub returns : goal.returns
unfolding pick decided pay
returns c = simp (sym c.runs.ensures ∙ c.if-runs.false, sym c.is_some.ensures ∙ c.if-is_some.false, c.pay-paid.ensures)
