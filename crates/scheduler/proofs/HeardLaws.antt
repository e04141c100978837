-- Bytes that are not heard change nothing, by the walk's own law.
use Prim.Native.Nat.{ℕ}
use mathlib.Core.Path.{◌≡◌}
use mathlib.Core.List.{List}
use lib.ListN.{length, get_or}
use mathlib.Core.Bool.{true}
use Rattle.table.specs.Mark.{marks_of}
use Rattle.table.specs.declared.Table.{Table}
use Rattle.state.specs.Release.{release}
use Rattle.state.specs.declared.State.{State}
use Rattle.order.proofs.OrderLaws.{all_map}
use Rattle.frame.specs.Mode.{Mode, threads_at, walks}
use Rattle.frame.proofs.ModeLaws.{at_all}
use Rattle.walk.specs.Step.{advance}
use Rattle.walk.specs.Heard.{heard_by, Alike}
use Rattle.walk.proofs.HeardLaws.{walk_hears, alike_heard}
use Rattle.walk.proofs.MarksLaws.{step_by}
use Rattle.scheduler.specs.Taken.{taken_then, taken}

-- Two calls with as many bytes, alike where they are heard, are the same call.
pub unheard_nothing : (t : Table) (mode : Mode) (mask : ℕ) (bs cs : List ℕ) (s : State) → length bs ≡ length cs
    → Alike bs cs (heard_by (marks_of t) bs (threads_at t mode s.clock) (release t mask s))
    → taken t mode (record { mask = mask; bytes = bs }) s ≡ taken t mode (record { mask = mask; bytes = cs }) s
unfolding taken taken_then advance
unheard_nothing t mode mask bs cs s l h =
    rw (step_by t mode (record { mask = mask; bytes = bs }) s, step_by t mode (record { mask = mask; bytes = cs }) s, l, walk_hears (marks_of t) bs cs (threads_at t mode s.clock) (release t mask s) h)

-- So bytes of threads that the mode does not have at that clock change nothing.
pub outside_unheard : (t : Table) (mode : Mode) (mask : ℕ) (bs cs : List ℕ) (s : State) → length bs ≡ length cs
    → ((i : ℕ) → walks t mode s.clock i ≡ true → get_or bs i 0 ≡ get_or cs i 0)
    → taken t mode (record { mask = mask; bytes = bs }) s ≡ taken t mode (record { mask = mask; bytes = cs }) s
outside_unheard t mode mask bs cs s l h =
    unheard_nothing t mode mask bs cs s l
    (alike_heard (marks_of t) bs cs (threads_at t mode s.clock) (release t mask s)
    (all_map (λ i. walks t mode s.clock i ≡ true) (λ i. get_or bs i 0 ≡ get_or cs i 0) h (threads_at t mode s.clock) (at_all t mode s.clock)))
