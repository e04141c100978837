-- The characters before i are filled in, with j numbers used up: each turn fills in one more.
use Prim.Native.Nat.{◌≤◌}
use Rattle.phrase.proofs.PhraseLaws.{Filling}
use Rattle.phrase.proofs.put_filled.Given as goal

abbrev pub invariant-loop-b : goal.invariant-loop-b
invariant-loop-b l = (l.b-index ≤ l.b-index-end) × (l.j ≤ l.b-index) × Filling l.template l.numbers l.initial.buf l.at l.buf l.k l.b-index l.j
