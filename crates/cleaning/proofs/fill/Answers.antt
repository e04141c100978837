use mathlib.Core.Path.{◌∙◌}
use native.Mathlib.Omega.{arith}
use Rattle.std.proofs.Common.{◌≡◌, ◌<◌, length, drop, sym, Some, None}
use Rattle.cleaning.specs.Scan.{first, scanned}
use Rattle.cleaning.proofs.ScanLaws.{first_there, pasted_none, pasted_more, followed}
use Rattle.cleaning.proofs.fill.Goals as goal
use Rattle.cleaning.proofs.fill.Goals.{in-Some, in_default}

pub loop-k-init : goal.loop-k-init
loop-k-init c = record {
  within = omega arith;
  at_hand = c.start-found.ensures;
  written = pasted_none _ _;
}

pub loop-k-preserved : goal.loop-k-preserved
loop-k-preserved c =
    let few : c.loop-k.k < length (scanned c.args.n c.args.w.now c.args.trace.now) = omega arith in
    let room : c.loop-k.k < length c.args.list.now = omega arith in
    elim c.match-found.branch [
      | in-Some w ↦
          let here : Some w.in-Some.c ≡ first (drop c.loop-k.k (scanned c.args.n c.args.w.now c.args.trace.now)) = sym w.in-Some.is ∙ c.loop-k.invariant.at_hand in
          record {
            within = omega arith;
            at_hand = w.found-is ∙ w.next-found.ensures ∙ followed _ _ _ _ _ few here;
            written = w.list-is ∙ pasted_more _ _ _ _ _ few room c.loop-k.invariant.written here;
          }
      | in_default w ↦ absurd (first_there c.loop-k.k _ few (sym c.loop-k.invariant.at_hand ∙ w.in_default.is))
    ]
