use Rattle.table.specs.Legal.{place_legal}
use Rattle.table.proofs.TakenLaws.{kept-none, kept_next}
use Rattle.basis.proofs.TestLaws.{every-none, every-next, every_fails, every_end}
use mathlib.Core.Path.{◌≡◌, sym, ◌∙◌}
use Prim.Native.Nat.{ℕ}
use Rattle.table.specs.Threads.{thread}
use borrow.Author.Rules.{rules}
use Rattle.table.proofs.judge.places_are_legal.Goals as goal
use Rattle.table.proofs.judge.places_are_legal.Goals.{After-place_is_legal}

pub loop-i-init : goal.loop-i-init
loop-i-init c = (search rules, every-none _, kept-none _)

-- What `place_is_legal` answers of a place of the table.
judged : (c : After-place_is_legal)
    →
    c.place_is_legal.result ≡ place_legal c.args.t c.loop-i.i
unfolding place_legal
judged c =
    let p : ℕ = (thread c.args.t c.loop-i.i).priority in
    rw (c.loop-i.invariant.2.at p (search rules)) at c.place_is_legal.ensures

pub returns-then-not-place_is_legal : goal.returns-then-not-place_is_legal
returns-then-not-place_is_legal c = sym (every_fails _ _ _ (sym (judged (goal.at.returns-then-not-place_is_legal c).After-place_is_legal) ∙ c.if-not-place_is_legal.true) c.loop-i-test.true)

pub loop-i-preserved : goal.loop-i-preserved
loop-i-preserved c =
    (search rules, every-next _ _ c.loop-i.invariant.1 (sym (judged (goal.at.loop-i-preserved c).After-place_is_legal) ∙ c.if-not-place_is_legal.false), kept_next _ _ _ c.loop-i.invariant.2 (search rules))

pub returns : goal.returns
returns c = sym (every_end _ _ _ c.loop-i.invariant.1 c.loop-i.invariant.0 c.loop-i-test.false)
