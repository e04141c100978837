-- The buffers keep their length, the state fits on, and the rest stays less than a step.
use mathlib.Core.Path.{◌≡◌, sym, ap, subst}
use mathlib.Core.List.{[]}
use native.Mathlib.Omega.{arith}
use Rattle.basis.specs.Told.{Told, answered}
use Rattle.basis.specs.Refusals.{number, refused_by}
use Rattle.basis.specs.declared.refusal.Refusal.{Refusal}
use Rattle.basis.proofs.RefusalLaws.{number-positive}
use Rattle.basis.specs.Tests.{pick}
use Rattle.table.specs.Legal.{Legal}
use Rattle.table.specs.declared.Table.{Table}
use Rattle.state.specs.declared.State.{State}
use Rattle.table.proofs.LegalLaws.{legal_complete}
use Rattle.state.specs.State.{Fits, fresh, fresh_given, starting}
use Rattle.state.proofs.FitLaws.{fresh-fits}
use borrow.Author.Rules.{rules}
use Rattle.bench.proofs.run.Goals as goal

-- A legal table's fresh state fits it.
fitting : (t : Table) (s : State) → Legal t → s ≡ fresh_given t → Fits t s
unfolding fresh_given pick
fitting t s l h =
    let e : s ≡ fresh t = rw (legal_complete t l) at h in
    subst (Fits t) (sym e) (fresh-fits t l.count_high)

-- and none refuses it.
unrefused : (t : Table) (why : Refusal) → Legal t → refused_by why ≡ starting t → ⊥
unfolding starting pick
unrefused t why l e =
    let z : refused_by why ≡ answered [] = rw (legal_complete t l) at e in
    let n : number why ≡ 0 = ap (λ (x : Told). x.number) z in
    absurd (omega (arith, number-positive why, n))

pub unreachable-requires : goal.unreachable-requires
unreachable-requires g c = unrefused c.args.t c.in_default.field-0 c.requires c.in_default.ensures.0

pub loop-init : goal.loop-init
loop-init g c = (search rules, search rules, fitting c.args.t c.in-Ok.s c.requires c.in-Ok.ensures.1, c.requires.count_low)
