-- A number is put byte by byte: each store has its byte of `encode`, by the number's size.
use mathlib.Core.Path.{ap}
use native.Mathlib.Omega.{arith}
use native.Mathlib.Numerals.{add-one}
use lib.ListN.{length, length-set}
use Rattle.numeral.proofs.NumberLaws.{encode_one, encode-two, encode-three, encode-some}
use Rattle.writer.proofs.put.write_number.Goals as goal

pub bounds-buf-at : goal.bounds-buf-at
bounds-buf-at c = omega (arith, ap length (encode_one _ c.if-v-lt128.true))

pub returns-then-v-lt128 : goal.returns-then-v-lt128
returns-then-v-lt128 c = record { end = omega (arith, ap length (encode_one _ c.if-v-lt128.true)); holds = rw (encode_one _ c.if-v-lt128.true) }

pub bounds-buf-at-2 : goal.bounds-buf-at-2
bounds-buf-at-2 c = omega (arith, encode-some c.args.v)

pub bounds-buf-second : goal.bounds-buf-second
bounds-buf-second c = simp length-set (omega (arith, ap length (encode-two _ c.if-v-lt128.false c.if-v-lt16384.true)))

pub returns-then-v-lt16384 : goal.returns-then-v-lt16384
returns-then-v-lt16384 c = record { end = omega (arith, ap length (encode-two _ c.if-v-lt128.false c.if-v-lt16384.true)); holds = rw (encode-two _ c.if-v-lt128.false c.if-v-lt16384.true, add-one) }

pub bounds-buf-second-2 : goal.bounds-buf-second-2
bounds-buf-second-2 c = simp length-set (omega (arith, ap length (encode-three _ c.if-v-lt16384.false)))

pub bounds-buf-third : goal.bounds-buf-third
bounds-buf-third c = simp length-set (omega (arith, ap length (encode-three _ c.if-v-lt16384.false)))

pub returns : goal.returns
returns c = record { end = omega (arith, ap length (encode-three _ c.if-v-lt16384.false)); holds = simp (encode-three _ c.if-v-lt16384.false, add-one) }
