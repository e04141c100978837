-- `scheduler::step_over` meets its contract: the refusals behind 11 and 19 in their order, then the prepared step.
use mathlib.Core.Path.{◌≡◌, sym, ◌∙◌}
use mathlib.Core.Bool.{true}
use native.Mathlib.Omega.{arith}
use borrow.Author.Tests.{not-true, not-false, eq-eqb, ne_eqb, lt-ltb, le-ltb}
use lib.ListN.{length}
use Rattle.basis.specs.Tests.{pick}
use Rattle.basis.proofs.ListLaws.{long_of}
use Rattle.state.specs.State.{fits, Fits}
use Rattle.scheduler.specs.Taken.{mask_ok, taken_then}
use Rattle.state.proofs.FitLaws.{fits_sound}
use borrow.Author.Rules.{rules}
use Rattle.scheduler.proofs.step_over.Goals as goal
use Rattle.scheduler.proofs.step_over.Goals.{Else-not-fits, Else-not-mask_passes}

-- What each test told, once it was passed.
fitting : (c : Else-not-fits) → fits c.args.t c.args.s ≡ true
fitting c = sym c.fits.ensures ∙ c.if-not-fits.false

masked : (c : Else-not-mask_passes) → mask_ok c.args.t c.args.mask ≡ true
masked c = sym c.mask_passes.ensures ∙ c.if-not-mask_passes.false

pub returns-then-not-fits : goal.returns-then-not-fits
unfolding taken_then pick
returns-then-not-fits c = rw (sym c.fits.ensures ∙ c.if-not-fits.true) c.refuse.ensures

pub returns-then-bytes-t : goal.returns-then-bytes-t
unfolding taken_then pick
returns-then-bytes-t c = rw (fitting (goal.at.returns-then-bytes-t c).Else-not-fits, ne_eqb _ _ c.if-bytes-t.true) c.refuse-then-bytes-t.ensures

pub returns-then-not-mask_passes : goal.returns-then-not-mask_passes
unfolding taken_then pick
returns-then-not-mask_passes c =
    rw (fitting (goal.at.returns-then-not-mask_passes c).Else-not-fits, eq-eqb _ _ c.if-bytes-t.false, sym c.mask_passes.ensures ∙ c.if-not-mask_passes.true)
    c.refuse-then-not-mask_passes.ensures

pub returns-then-s-ge-LAST_CLOCK : goal.returns-then-s-ge-LAST_CLOCK
unfolding taken_then pick
returns-then-s-ge-LAST_CLOCK c =
    rw (fitting (goal.at.returns-then-s-ge-LAST_CLOCK c).Else-not-fits, eq-eqb _ _ c.if-bytes-t.false, masked (goal.at.returns-then-s-ge-LAST_CLOCK c).Else-not-mask_passes, le-ltb _ _ c.if-s-ge-LAST_CLOCK.true) c.refuse-then-s-ge-LAST_CLOCK.ensures

pub advance-w-requires : goal.advance-w-requires
advance-w-requires c =
    let long : length c.args.s.threads ≡ 32 = search (rules, long_of) in
    let f : Fits c.args.t c.args.s = fits_sound _ _ c.requires.usable.few long (fitting (goal.at.advance-w-requires c).Else-not-fits) in
    let e : length c.args.bytes.now ≡ c.args.t.count = c.if-bytes-t.false in
    record {
      usable = c.requires.usable;
      count_bound = (c.requires.count_bound.0, rw e c.requires.count_bound.1);
      fits = (f, c.if-s-ge-LAST_CLOCK.false, omega (arith, c.requires.usable.few, e));
    }

pub returns : goal.returns
unfolding taken_then pick
returns c =
    rw (fitting (goal.at.returns c).Else-not-fits, eq-eqb _ _ c.if-bytes-t.false, masked (goal.at.returns c).Else-not-mask_passes, lt-ltb _ _ c.if-s-ge-LAST_CLOCK.false, ← c.advance-w.ensures)
