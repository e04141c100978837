-- A run that none refuses plays its steps, which are those that single calls make.
use mathlib.Core.Path.{◌≡◌, refl, sym}
use native.Mathlib.Omega.{arith}
use lib.ListN.{length}
use Rattle.basis.specs.Refusals.{number}
use Rattle.basis.proofs.ListLaws.{long_of}
use Rattle.basis.proofs.RefusalLaws.{number-positive}
use Rattle.table.specs.Legal.{Sized}
use Rattle.block.specs.Block.{mode_of}
use Rattle.runs.proofs.NumberLaws.{Ready, ready}
use Rattle.runs.proofs.RunLaws.{ran-refused, ran-made}
use borrow.Author.Rules.{rules}
use Rattle.runs.proofs.run.Goals as goal

pub returns-in-Some : goal.returns-in-Some
returns-in-Some c =
    let some : number c.in-Some.why ≡ 0 → ⊥ = λ e. absurd (omega (arith, number-positive c.in-Some.why, e)) in
    ran-refused c.args.t (mode_of c.args.frame) c.args.masks.now c.args.bytes.now c.args.s c.args.part.now _ _ c.whole_steps-steps.ensures c.in-Some.ensures some

-- The table's sizes, and the state's, are their types'.
pub play-requires : goal.play-requires
play-requires c =
    let sized : Sized c.args.t = record { rows = search (rules, long_of); threads = search (rules, long_of) } in
    let long : length c.args.s.threads ≡ 32 = search (rules, long_of) in
    let k : Ready c.args.t (mode_of c.args.frame) c.args.s c.whole_steps-steps.result (length c.args.part.now)
    = ready c.args.t (mode_of c.args.frame) c.args.s _ _ sized long (sym c.in_default.ensures) in
    (k.lawful, k.moded, k.fitting, omega (arith, k.roomy, c.whole_steps-steps.ensures))

pub returns : goal.returns
returns c =
    let sized : Sized c.args.t = record { rows = search (rules, long_of); threads = search (rules, long_of) } in
    let long : length c.args.s.threads ≡ 32 = search (rules, long_of) in
    let k : Ready c.args.t (mode_of c.args.frame) c.args.s c.whole_steps-steps.result (length c.args.part.now)
    = ready c.args.t (mode_of c.args.frame) c.args.s _ _ sized long (sym c.in_default.ensures) in
    ran-made c.args.t (mode_of c.args.frame) c.args.masks.now c.args.bytes.now c.args.s c.args.part.now _ 0 c.whole_steps-steps.ensures c.in_default.ensures refl k.fitting _ _ c.play.ensures
