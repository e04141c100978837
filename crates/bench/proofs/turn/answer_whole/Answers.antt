-- The whole steps and the rest are the bytes that were read, and the rest is less than a step.
use Prim.Native.Nat.{ℕ, ◌-◌, ◌%◌, ◌≤◌}
use mathlib.Core.Path.{refl, sym}
use native.Mathlib.Omega.{arith}
use native.Mathlib.Nat.{mod-lt, div-add-mod'}
use lib.Seq.{length-take-le}
use Rattle.bench.proofs.turn.answer_whole.Goals as goal

rest-within : (n m : ℕ) → n % m ≤ n
rest-within n m = omega (arith, div-add-mod' n m)

pub overflow_sub-end : goal.overflow_sub-end
overflow_sub-end g c = rest-within c.args.n c.args.t.count

pub slice_bounds-play-end-2 : goal.slice_bounds-play-end-2
slice_bounds-play-end-2 g c = sym (length-take-le _ _ (omega (arith, c.requires.3)))

pub play-p-requires : goal.play-p-requires
play-p-requires g c =
    let e = length-take-le (c.args.n - c.args.n % c.args.t.count) c.args.steps.now (omega (arith, c.requires.3)) in
    (c.requires.0, c.requires.1, record { few = omega (arith, e, c.requires.2); fits = omega (arith, c.requires.4) })

pub carry-requires : goal.carry-requires
carry-requires g c = omega (arith, rest-within c.args.n c.args.t.count, c.requires.3)

pub returns-then-is_some : goal.returns-then-is_some
returns-then-is_some g c =
    (c.play-p.ensures.1, mod-lt c.args.n c.requires.0.count_low, record { state = c.play-p.ensures.2.state; have = refl; rest = c.carry.ensures })

pub slice_bounds-say-end-2 : goal.slice_bounds-say-end-2
slice_bounds-say-end-2 g c = sym (length-take-le _ _ c.play-p.ensures.0)

pub returns : goal.returns
returns g c =
    (c.play-p.ensures.1, mod-lt c.args.n c.requires.0.count_low, record { state = c.play-p.ensures.2.state; have = refl; rest = c.carry.ensures })
