-- The size of a number is that of its bytes, one case a length.
use native.Mathlib.Omega.{arith}
use Rattle.numeral.proofs.NumberLaws.{encode_one, encode-two, encode-three}
use Rattle.writer.proofs.size.number_size.Goals as goal

pub returns-then-v-lt128 : goal.returns-then-v-lt128
returns-then-v-lt128 c = (rw (encode_one _ c.if-v-lt128.true), omega arith)

pub returns-then-v-lt16384 : goal.returns-then-v-lt16384
returns-then-v-lt16384 c = (rw (encode-two _ c.if-v-lt128.false c.if-v-lt16384.true), omega arith)

pub returns : goal.returns
returns c = (rw (encode-three _ c.if-v-lt16384.false), omega arith)
