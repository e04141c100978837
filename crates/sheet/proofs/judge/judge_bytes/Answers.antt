-- Both arms join what the byte form says with the text's own fault, which is the law `scan_reads`.
use Rattle.sheet.specs.Scan.{Accepted}
use Rattle.sheet.proofs.CodeJoins.{own-plain, own-met, judged_so, refused_so}
use Rattle.sheet.proofs.judge.judge_bytes.Goals as goal

pub passed-requires : goal.passed-requires
passed-requires c = own-plain _ _ _ c.requires

pub returns-in-Ok : goal.returns-in-Ok
returns-in-Ok c = judged_so _ _ _ c.requires Accepted c.in-Ok.t c.in-Ok.ensures.0 _ c.passed.ensures

pub objected-requires : goal.objected-requires
objected-requires c = record { own = own-plain _ _ _ c.requires; met = own-met _ _ _ c.requires c.in-Err.fault c.in-Err.ensures.0 }

pub returns-in-Err : goal.returns-in-Err
returns-in-Err c = refused_so _ _ _ c.requires c.in-Err.fault c.in-Err.ensures.0 _ c.objected.ensures
