use Rattle.std.proofs.Common.{◌≡◌, ◌∙◌, sym, ap, None}
use native.Mathlib.Nat.{le_refl}
use Rattle.host.specs.Host.{mark_told, mark_number}
use Rattle.host.proofs.HostLaws.{mark_read}
use Rattle.host.proofs.mark_number.Goals as goal
use Rattle.host.proofs.mark_number.Goals.{After-flatten}

-- The mark at hand.
told : (c : After-flatten) → mark_told c.flatten.result ≡ mark_number c.args.t c.args.i
told c = mark_read c.args.t c.args.i c.marks.result c.unwrap_or-marks.result c.copied.result c.flatten.result c.marks.ensures.1 c.unwrap_or-marks.ensures c.flatten.ensures (rw c.copied.ensures (c.get.ensures.lookup.4 (le_refl _) None))

pub returns-in-Some : goal.returns-in-Some
returns-in-Some c = c.from.ensures ∙ sym (ap mark_told c.in-Some.is) ∙ told (goal.at.returns-in-Some c).After-flatten

pub returns-in-None : goal.returns-in-None
returns-in-None c = sym (ap mark_told c.in-None.is) ∙ told (goal.at.returns-in-None c).After-flatten
