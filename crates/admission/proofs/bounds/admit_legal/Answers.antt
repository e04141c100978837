-- The bounds meet their contract. The loop's invariant: every thread before i has a bound, and these and the counts stand in the arrays.
use mathlib.Core.Path.{◌≡◌, sym, ◌∙◌, ap}
use native.Mathlib.Nat.{le_antisymm}
use native.Mathlib.Numerals.{add-one}
use native.Mathlib.Omega.{arith}
use Rattle.basis.specs.Search.{nothing, found}
use Rattle.basis.proofs.SearchLaws.{first-none, first_next, first_hit, first_end, listed-none, listed_next}
use Rattle.admission.specs.Bounded.{bound, sought}
use Rattle.admission.specs.Admit.{without_bound, first_without, bound_number, bounds_of, counts_of}
use Rattle.admission.specs.Tried.{tried as the-tried}
use Rattle.admission.proofs.AdmitLaws.{has_one, has_none, number_is, searched-all, searched_with}
use borrow.Author.Rules.{rules}
use Rattle.admission.proofs.bounds.admit_legal.Goals as goal

pub loop-i-init : goal.loop-i-init
loop-i-init c = (search rules, first-none _, listed-none _ 0 32, listed-none _ 0 32)

pub find_bound-search-requires : goal.find_bound-search-requires
find_bound-search-requires c = (c.requires, omega arith)

pub returns-in_default : goal.returns-in_default
unfolding first_without counts_of
returns-in_default c =
    let b : bound c.args.t c.loop-i.i ≡ nothing = sym c.find_bound-search.ensures.0 ∙ ap sought c.in_default.is in
    let e : first_without c.args.t ≡ found c.loop-i.i
    = first_hit (without_bound c.args.t) c.loop-i.i c.args.t.count c.loop-i.i c.loop-i.invariant.1 (has_none c.args.t c.loop-i.i b) c.loop-i-test.true in
    let n = searched_with c.args.t c.loop-i.i e in
    (rw e, rw e, rw (n, c.loop-i.invariant.3, c.find_bound-search.ensures.1) (rw (add-one c.loop-i.i) at (listed_next (the-tried c.args.t) 0 c.loop-i.i 32 (omega arith))))

pub loop-i-preserved : goal.loop-i-preserved
loop-i-preserved c =
    let b : bound c.args.t c.loop-i.i ≡ found c.in-Some.x
    = sym c.find_bound-search.ensures.0 ∙ ap sought c.in-Some.is in (
      search rules,
      first_next (without_bound c.args.t) c.loop-i.i c.loop-i.invariant.1 (has_one c.args.t c.loop-i.i _ b),
      rw (c.loop-i.invariant.2, number_is c.args.t c.loop-i.i _ b) (listed_next (bound_number c.args.t) 0 c.loop-i.i 32 (omega arith)),
      rw (c.loop-i.invariant.3, c.find_bound-search.ensures.1) (listed_next (the-tried c.args.t) 0 c.loop-i.i 32 (omega arith)),
    )

pub returns : goal.returns
unfolding first_without bounds_of counts_of
returns c =
    let e : first_without c.args.t ≡ nothing
    = first_end (without_bound c.args.t) c.loop-i.i c.args.t.count c.loop-i.invariant.1 c.loop-i.invariant.0 c.loop-i-test.false in
    let q = le_antisymm c.loop-i.invariant.0 c.loop-i-test.false in
    let n = searched-all c.args.t e in
    (rw e, rw e (rw q at c.loop-i.invariant.2), rw n (rw q at c.loop-i.invariant.3))
