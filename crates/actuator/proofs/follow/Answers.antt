use Rattle.std.proofs.Common.{◌≡◌, true, sym, ◌∙◌, ap, w32, FitsSigned}
use Rattle.std.proofs.lemmas.Int.{to_z-of_z}
use Rattle.actuator.specs.Motion.{in_range, ranged}
use Rattle.actuator.proofs.DriveLaws.{commanded_in}
use Rattle.actuator.proofs.follow.Goals as goal

-- The command that stands is in the range, since the last one is.
pub move_to-requires : goal.move_to-requires
move_to-requires c =
    let r : ranged c.args.a ≡ true = sym c.is_ranged.ensures ∙ c.if-not-is_ranged.false in
    let f : FitsSigned w32 c.stand-c.result = record { sfits = c.stand-c.type_inv } in
    (r, rw (to_z-of_z w32 c.stand-c.result f) (ap in_range c.stand-c.ensures ∙ commanded_in c.args.a r _ _))
