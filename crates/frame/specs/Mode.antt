-- The two modes of the scheduler, with a frame and without: which threads the walk goes over at a clock.
use Rattle.std.specs.Prelude.{ℕ, List, Bool, true}
use Rattle.flow.specs.Flow.{flows}
use Rattle.table.specs.Threads.{thread}
use Rattle.table.specs.declared.Table.{Table}
use Rattle.order.specs.Order.{order}
use Rattle.order.specs.Open.{open_to}
use Rattle.frame.specs.Frame.{frame_ok, domain_at}
use Rattle.frame.specs.declared.Frame.{Frame}

pub data Mode : Type 0 where
  unframed : Mode
  framed : Frame → Mode

-- A mode passes with a table: without a frame always, else if the frame does.
unfoldable pub mode_ok : Table → Mode → Bool
mode_ok t unframed = true
mode_ok t (framed f) = frame_ok t f

-- The threads that the walk goes over at the clock c, by falling priority: without a frame all; in a window of domain d those of every
-- domain that d may flow to.
unfoldable pub threads_at : Table → Mode → ℕ → List ℕ
threads_at t unframed c = order t
threads_at t (framed f) c = open_to t (domain_at f c) (order t)

-- Thread i is one of them.
unfoldable pub walks : Table → Mode → ℕ → ℕ → Bool
walks t unframed c i = true
walks t (framed f) c i = flows t.rows (domain_at f c) (thread t i).domain
