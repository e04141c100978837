-- The refusals behind 11 and 19, in their order.
use Prim.Native.Nat.{ℕ, ◌+◌, ◌/◌, ◌%◌}
use mathlib.Core.Path.{◌≡◌, sym, ◌∙◌}
use mathlib.Core.List.{List}
use mathlib.Core.Bool.{Bool}
use native.Mathlib.Omega.{arith}
use borrow.Author.Tests.{le-leb, lt-leb}
use lib.ListN.{length}
use lib.Dec.{eqb}
use Rattle.basis.specs.Tests.{pick, and}
use Rattle.table.specs.declared.Table.{Table}
use Rattle.state.specs.State.{last_clock}
use Rattle.block.specs.Block.{whole, refusal_then}
use Rattle.block.proofs.RunLaws.{fits_early}
use Rattle.block.proofs.judge.judge_then.Goals as goal

-- What the test of the bytes told.
whole_is : (t : Table) (masks bytes : List ℕ) (r v : Bool) → r ≡ and (eqb (length bytes % t.count) 0) (eqb (length masks) (length bytes / t.count)) → r ≡ v
    → whole t masks bytes ≡ v
unfolding whole
whole_is t masks bytes r v e f = sym e ∙ f

pub returns-then-not-fits : goal.returns-then-not-fits
unfolding refusal_then pick
returns-then-not-fits c = rw (sym c.fits.ensures ∙ c.if-not-fits.true)

pub returns-then-not-is_whole : goal.returns-then-not-is_whole
unfolding refusal_then pick
returns-then-not-is_whole c =
    rw (sym c.fits.ensures ∙ c.if-not-fits.false, whole_is c.args.t c.args.masks.now c.args.bytes.now _ _ c.is_whole.ensures c.if-not-is_whole.true)

pub returns-then-not-masks_pass : goal.returns-then-not-masks_pass
unfolding refusal_then pick
returns-then-not-masks_pass c =
    rw (
      sym c.fits.ensures ∙ c.if-not-fits.false,
      whole_is c.args.t c.args.masks.now c.args.bytes.now _ _ c.is_whole.ensures c.if-not-is_whole.false,
      sym c.masks_pass.ensures ∙ c.if-not-masks_pass.true,
    )

pub clocks_left-requires : goal.clocks_left-requires
clocks_left-requires c = fits_early _ _ (sym c.fits.ensures ∙ c.if-not-fits.false)

pub returns-then-clocks_left-m : goal.returns-then-clocks_left-m
unfolding refusal_then pick
returns-then-clocks_left-m c =
    rw (
      sym c.fits.ensures ∙ c.if-not-fits.false,
      whole_is c.args.t c.args.masks.now c.args.bytes.now _ _ c.is_whole.ensures c.if-not-is_whole.false,
      sym c.masks_pass.ensures ∙ c.if-not-masks_pass.false,
      lt-leb (c.args.s.clock + length c.args.masks.now) last_clock (omega (arith, c.clocks_left.ensures, c.if-clocks_left-m.true)),
    )

pub returns-then-room-m : goal.returns-then-room-m
unfolding refusal_then pick
returns-then-room-m c =
    rw (
      sym c.fits.ensures ∙ c.if-not-fits.false,
      whole_is c.args.t c.args.masks.now c.args.bytes.now _ _ c.is_whole.ensures c.if-not-is_whole.false,
      sym c.masks_pass.ensures ∙ c.if-not-masks_pass.false,
      le-leb (c.args.s.clock + length c.args.masks.now) last_clock (omega (arith, c.clocks_left.ensures, c.if-clocks_left-m.false)),
      lt-leb (length c.args.masks.now) c.args.room (omega (arith, c.if-room-m.true)),
    )

pub returns : goal.returns
unfolding refusal_then pick
returns c =
    rw (
      sym c.fits.ensures ∙ c.if-not-fits.false,
      whole_is c.args.t c.args.masks.now c.args.bytes.now _ _ c.is_whole.ensures c.if-not-is_whole.false,
      sym c.masks_pass.ensures ∙ c.if-not-masks_pass.false,
      le-leb (c.args.s.clock + length c.args.masks.now) last_clock (omega (arith, c.clocks_left.ensures, c.if-clocks_left-m.false)),
      le-leb (length c.args.masks.now) c.args.room (omega (arith, c.if-room-m.false)),
    )
