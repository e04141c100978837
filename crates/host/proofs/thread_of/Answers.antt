use Rattle.std.proofs.Common.{refl, ap, arith}
use Rattle.table.specs.declared.Table.{Table}
use Rattle.host.proofs.HostLaws.{read_table}
use Rattle.host.specs.Host.{no_thread}
use Rattle.host.proofs.thread_of.Goals as goal

pub returns-then-from-thread-clause-cases : goal.returns-then-from-thread-clause-cases
returns-then-from-thread-clause-cases c =
    let r = read_table c.args.bytes.now c.in-Ok.t c.in-Ok.ensures.0 in
    no_thread r.0 (omega (arith, ap (λ (t : Table). t.count) r.1))

pub returns-clause-cases : goal.returns-clause-cases
returns-clause-cases c =
    let r = read_table c.args.bytes.now c.in-Ok.t c.in-Ok.ensures.0 in
    (r.0, r.1, refl, omega (arith, ap (λ (t : Table). t.count) r.1))
