-- The first numbers are put: each turn joins the next to them.
use Prim.Native.Nat.{◌≤◌}
use lib.ListN.{length, take}
use Rattle.numeral.specs.Number.{encode_all}
use Rattle.writer.specs.Buffer.{Put}
use Rattle.writer.proofs.put.write_numbers.Given as goal

abbrev pub invariant-loop-v : goal.invariant-loop-v
invariant-loop-v l = (l.v-index ≤ length l.vs) × Put l.initial.buf l.at l.buf l.k (encode_all (take l.v-index l.vs))
