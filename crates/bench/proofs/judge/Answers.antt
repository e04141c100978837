-- An accepted table is legal.
use mathlib.Core.Path.{◌≡◌, sym}
use Rattle.reader.specs.Reader.{accepted, reading}
use Rattle.codec.proofs.RoundTrip.{accepted_exactly}
use Rattle.bench.proofs.judge.Goals as goal

pub run-requires : goal.run-requires
run-requires g c =
    let e : accepted c.in-Ok.t ≡ reading c.args.bytes.now = c.in-Ok.ensures.0 in
    ((accepted_exactly c.args.bytes.now c.in-Ok.ensures.1 c.in-Ok.t).0 (sym e)).0
