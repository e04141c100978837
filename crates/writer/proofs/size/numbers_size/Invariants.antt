-- The sizes of the numbers add up as their bytes join.
use Prim.Native.Nat.{◌*◌, ◌≤◌}
use mathlib.Core.Path.{◌≡◌}
use lib.ListN.{length, take}
use Rattle.numeral.specs.Number.{encode_all}
use Rattle.writer.proofs.size.numbers_size.Given as goal

abbrev pub invariant-loop-v : goal.invariant-loop-v
invariant-loop-v l = (l.v-index ≤ length l.vs) × (l.k ≡ length (encode_all (take l.v-index l.vs))) × (l.k ≤ 3 * l.v-index)
