use mathlib.Core.Path.{◌≡◌}
use Rattle.sheet.specs.Scan.{cut_of, told_cut, scanned}
use Rattle.sheet.proofs.scan.scan.Given as goal

abbrev pub invariant-loop : goal.invariant-loop
invariant-loop l = cut_of l.c ≡ told_cut (scanned l.s l.counter)
