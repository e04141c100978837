use Rattle.frame.specs.Frame.{window_counts}
use Rattle.table.proofs.RangeLaws.{within_high}
use mathlib.Core.Path.{sym, ◌∙◌}
use native.Mathlib.Omega.{arith}
use Rattle.frame.proofs.frame_passes.Goals as goal

pub windows_pass-requires : goal.windows_pass-requires
windows_pass-requires c = omega (arith, within_high window_counts c.args.f.count (sym c.in_range.ensures ∙ c.if-in_range.true))
