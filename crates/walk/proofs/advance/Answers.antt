use Rattle.state.specs.Release.{release}
use Rattle.state.proofs.FitLaws.{release-fits}
use Rattle.walk.proofs.WalkLaws.{walk_clock}
use Rattle.state.proofs.ReleaseLaws.{release_clock}
use Rattle.walk.specs.Step.{advance, ticked}
use Rattle.state.specs.Given.{Counted}
use native.Mathlib.Omega.{arith}
use Rattle.walk.proofs.advance.Goals as goal

pub walk-w-requires : goal.walk-w-requires
walk-w-requires c = let k : Counted 999999999 (release c.args.t c.args.mask c.args.s) = record { at = λ i. omega (arith, ((release-fits c.args.t c.args.mask c.args.s c.requires.fits.0).at i).ran_high, c.requires.fits.1) } in record { count_bound = c.requires.count_bound; counted = (rw c.release.ensures k, c.requires.fits.2) }

pub tick-requires : goal.tick-requires
tick-requires c = (rw (c.walk-w.ensures, walk_clock, c.release.ensures, release_clock) c.requires.fits.1, c.requires.usable.few)

pub returns : goal.returns
unfolding advance ticked
returns c = cc
