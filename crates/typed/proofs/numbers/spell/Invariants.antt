-- What is still to be spelt ends as the whole word does.
use mathlib.Core.Path.{◌≡◌}
use lib.ListN.{drop}
use Rattle.typed.specs.Fields.{field_of, blank}
use Rattle.typed.specs.Numbers.{spelt}
use Rattle.typed.proofs.numbers.spell.Given as goal

abbrev pub invariant-loop-b : goal.invariant-loop-b
invariant-loop-b l = spelt (field_of l.f) (drop l.b-index l.word) ≡ spelt (blank 0) l.word
