-- What is still to be read ends as the whole does.
use mathlib.Core.Path.{◌≡◌}
use lib.ListN.{drop}
use Rattle.typed.specs.Fields.{field_of, read_on}
use Rattle.typed.proofs.characters.read_field.Given as goal

abbrev pub invariant-loop-k : goal.invariant-loop-k
invariant-loop-k l = read_on (field_of l.field) (drop l.k l.part) l.k ≡ read_on (field_of l.fn.f) (drop l.from l.part) l.from
