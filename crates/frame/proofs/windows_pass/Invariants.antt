use Rattle.frame.specs.Frame.{window, window_ok}
use Rattle.basis.specs.Tests.{every}
use mathlib.Core.Bool.{true}
use mathlib.Core.Path.{◌≡◌}
use Prim.Native.Nat.{◌≤◌}
use Rattle.frame.proofs.windows_pass.Given as goal

abbrev pub invariant-loop-k : goal.invariant-loop-k
invariant-loop-k l = (l.k ≤ l.k-end) × (every l.k (λ j. window_ok l.domains (window l.f j)) ≡ true)
