-- Which fault goes before the other.
use mathlib.Core.Path.{ap, ◌∙◌}
use native.Mathlib.Omega.{arith}
use Rattle.basis.specs.Refusals.{number}
use Rattle.sheet.specs.Scan.{cut_of}
use Rattle.sheet.proofs.CodeJoins.{own-read, missing-own, gap-own, placed-so, early, not-gap}
use Rattle.sheet.proofs.judge.objected.Goals as goal
use Rattle.sheet.proofs.judge.objected.Goals.{in-EndsEarly+in_default-own_fault, in-Intransitive+in_default-wrong_end, in_default}

pub returns-in-Some : goal.returns-in-Some
returns-in-Some c =
    own-read c.in-Some.own (cut_of c.args.cut) c.requires.own c.in-Some.ensures
    ∙ missing-own c.args.s.now (cut_of c.args.cut) c.args.bytes.now c.args.fault.place _ c.args.fault.why (ap number c.in-EndsEarly.is)

pub returns-in-Some-wrong_end : goal.returns-in-Some-wrong_end
returns-in-Some-wrong_end c =
    let e = c.in-Some-wrong_end.ensures in
    own-read c.in-Some-wrong_end.own (cut_of c.args.cut) c.requires.own e.1
    ∙ gap-own c.args.s.now (cut_of c.args.cut) c.args.bytes.now c.args.fault.place _ c.args.fault.why (ap number c.in-Intransitive.is) c.numbers_in-k.ensures.0 e.0

pub returns : goal.returns
returns c =
    elim c.match-fault.branch [
      | in-EndsEarly+in_default-own_fault w ↦ absurd (c.requires.met (ap number w.in-EndsEarly.is) w.in_default-own_fault.ensures)
      | in-Intransitive+in_default-wrong_end w ↦ placed-so c.args.s.now (cut_of c.args.cut) c.args.bytes.now c.args.fault.place _ c.args.fault.why c.scan.result c.numbers_in-k.ensures.0 c.scan.ensures
          (λ z. let n = ap number w.in-Intransitive.is in omega (arith, n, z)) (λ z. w.in_default-wrong_end.ensures)
      | in_default w ↦ let h = w.in_default in placed-so c.args.s.now (cut_of c.args.cut) c.args.bytes.now c.args.fault.place _ c.args.fault.why c.scan.result c.numbers_in-k.ensures.0 c.scan.ensures
          (λ z. h.not-EndsEarly (early c.args.fault.why z)) (λ z. absurd (not-gap c.args.fault.why z h.not-Intransitive))
    ]
