use Rattle.std.proofs.Common.{sym}
use Rattle.host.proofs.HostLaws.{read_table}
use Rattle.host.proofs.mikuzerao_verdict.Goals as goal

pub returns-in-Ok : goal.returns-in-Ok
returns-in-Ok c = (sym (read_table _ _ c.in-Ok.ensures.0).0, c.in-Ok.ensures.1)
