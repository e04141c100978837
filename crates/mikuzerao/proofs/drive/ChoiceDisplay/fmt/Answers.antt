-- The letter, and the thread's digits as `{}` writes them.
use Rattle.std.proofs.Common.{rules, arith}
use Rattle.mikuzerao.proofs.Digits.{same_digits}
use Rattle.mikuzerao.proofs.drive.ChoiceDisplay.fmt.Goals as goal

pub returns-in-Ran-clause-writes : goal.returns-in-Ran-clause-writes
returns-in-Ran-clause-writes g c = rw (c.in-Ran.is, same_digits c.in-Ran.i (omega arith)) (search rules)

pub returns-in-IdleFor-clause-writes : goal.returns-in-IdleFor-clause-writes
returns-in-IdleFor-clause-writes g c = rw (c.in-IdleFor.is, same_digits c.in-IdleFor.i (omega arith)) (search rules)
