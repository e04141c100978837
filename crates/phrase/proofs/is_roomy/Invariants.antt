-- What is left of the room is the room less what the characters before i take.
use Prim.Native.Nat.{◌≤◌}
use Rattle.phrase.proofs.PhraseLaws.{Leaving}
use Rattle.phrase.proofs.is_roomy.Given as goal

abbrev pub invariant-loop-b : goal.invariant-loop-b
invariant-loop-b l = (l.b-index ≤ l.b-index-end) × (l.j ≤ l.b-index) × Leaving l.template l.numbers l.room l.left l.b-index l.j
