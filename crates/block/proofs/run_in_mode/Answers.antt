-- `block::run_in_mode` meets its contract: the refusals, and then the steps, over all threads in their order or stretch by stretch.
use Prim.Native.Nat.{ℕ}
use mathlib.Core.Path.{◌≡◌, sym}
use mathlib.Core.List.{List}
use mathlib.Core.Bool.{true}
use native.Mathlib.Omega.{arith}
use lib.ListN.{length}
use Rattle.basis.specs.Refusals.{number}
use Rattle.basis.proofs.ListLaws.{long_of}
use Rattle.basis.proofs.RefusalLaws.{number-positive}
use Rattle.table.specs.Legal.{Sized}
use Rattle.table.specs.declared.Table.{Table}
use Rattle.state.specs.Given.{Usable}
use Rattle.state.specs.declared.State.{State}
use Rattle.state.proofs.FitLaws.{usable, fits_sound}
use Rattle.order.proofs.OrderLaws.{order_below}
use Rattle.frame.specs.Frame.{Timed}
use Rattle.frame.specs.Mode.{Mode, unframed, framed, mode_ok}
use Rattle.frame.specs.declared.Frame.{Frame}
use Rattle.frame.proofs.FrameLaws.{ok_framed, framed_timed}
use Rattle.block.specs.Block.{mode_of, refusal}
use Rattle.block.proofs.RunLaws.{Passes, passes, block_refused, mode-made, unframed_made}
use Rattle.block.proofs.CallLaws.{judged}
use Rattle.block.proofs.UniqueLaws.{block_plain}
use borrow.Author.Rules.{rules}
use Rattle.block.proofs.run_in_mode.Goals as goal

-- What a block that is not refused has; the table's sizes are its types'.
record Starts (t : Table) (mode : Mode) (masks bs : List ℕ) (s : State) (room : ℕ) : Type 0 where
  usable : Usable t
  moded : mode_ok t mode ≡ true
  passes : Passes t masks bs s room

starts : (t : Table) (mode : Mode) (masks bs : List ℕ) (s : State) (room : ℕ) → Sized t → 0 ≡ refusal t mode masks bs s room → Starts t mode masks bs s room
starts t mode masks bs s room z e =
    let j = judged t mode masks bs s room (sym e) in record {
      usable = usable t z j.0;
      moded = j.1;
      passes = passes t masks bs s room j.2;
    }

timed : (t : Table) (f : Frame) → mode_ok t (framed f) ≡ true → Timed f
unfolding mode_ok
timed t f e = framed_timed _ _ (ok_framed _ _ e)

pub returns-in-Err : goal.returns-in-Err
returns-in-Err c =
    let some : number c.in-Err.why ≡ 0 → ⊥ = λ e. absurd (omega (arith, number-positive c.in-Err.why, e)) in
    let plain = block_plain c.args.t (mode_of c.args.frame) c.args.masks.now c.args.bytes.now c.args.s c.args.part.now c.in-Err.why c.in-Err.ensures in
    rw c.refuse.ensures (rw plain (block_refused _ (mode_of c.args.frame) _ _ _ _ _ (sym c.in-Err.ensures) some))

pub prepare-all-requires : goal.prepare-all-requires
prepare-all-requires c =
    let sized : Sized c.args.t = record { rows = search (rules, long_of); threads = search (rules, long_of) } in
    (starts _ _ _ _ _ _ sized c.in_default.ensures).usable.few

pub play_in_frame-end-requires : goal.play_in_frame-end-requires
play_in_frame-end-requires c =
    let sized : Sized c.args.t = record { rows = search (rules, long_of); threads = search (rules, long_of) } in
    let long : length c.args.s.threads ≡ 32 = search (rules, long_of) in
    let g : Starts c.args.t (framed c.in-Some.f) c.args.masks.now c.args.bytes.now c.args.s (length c.args.part.now)
    = starts _ _ _ _ _ _ sized (rw c.in-Some.is at c.in_default.ensures) in record {
      usable = (g.usable, timed _ _ g.moded, c.prepare-all.ensures.0, c.prepare-all.ensures.1, c.prepare-all.ensures.2);
      fits = (fits_sound _ _ g.usable.few long g.passes.fitting, g.passes.early, g.passes.long, g.passes.roomy);
    }

pub play-end-requires : goal.play-end-requires
play-end-requires c =
    let sized : Sized c.args.t = record { rows = search (rules, long_of); threads = search (rules, long_of) } in
    let long : length c.args.s.threads ≡ 32 = search (rules, long_of) in
    let g : Starts c.args.t (mode_of c.args.frame) c.args.masks.now c.args.bytes.now c.args.s (length c.args.part.now)
    = starts _ _ _ _ _ _ sized c.in_default.ensures in record {
      usable = (g.usable, c.prepare-all.ensures.0, rw c.prepare-all.ensures.1 (order_below c.args.t));
      fits = (fits_sound _ _ g.usable.few long g.passes.fitting, g.passes.early, g.passes.long);
      steps_in_bounds = (omega arith, omega (arith, g.passes.roomy));
    }

pub returns-in-Some : goal.returns-in-Some
returns-in-Some c =
    let sized : Sized c.args.t = record { rows = search (rules, long_of); threads = search (rules, long_of) } in
    let e : 0 ≡ refusal c.args.t (framed c.in-Some.f) c.args.masks.now c.args.bytes.now c.args.s (length c.args.part.now) = rw c.in-Some.is at c.in_default.ensures in
    rw c.in-Some.is
    (mode-made _ (framed c.in-Some.f) _ _ _ _ _ _ c.play_in_frame-end.ensures.0 c.play_in_frame-end.ensures.1 (starts _ _ _ _ _ _ sized e).passes.roomy (sym e))

pub returns-in-None : goal.returns-in-None
returns-in-None c =
    let sized : Sized c.args.t = record { rows = search (rules, long_of); threads = search (rules, long_of) } in
    let e : 0 ≡ refusal c.args.t unframed c.args.masks.now c.args.bytes.now c.args.s (length c.args.part.now) = rw c.in-None.is at c.in_default.ensures in
    rw c.in-None.is
    (unframed_made _ _ _ _ _ _ _ _ _ c.prepare-all.ensures.2 c.prepare-all.ensures.1 c.play-end.ensures.0 c.play-end.ensures.1 (starts _ _ _ _ _ _ sized e).passes.roomy (sym e))
