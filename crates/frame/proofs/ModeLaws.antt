-- What the walk needs of the threads of a mode at a clock: threads of the table by falling priority, and just those that the mode has there.
use Prim.Native.Nat.{ℕ, ◌<◌}
use mathlib.Core.Path.{◌≡◌, refl}
use mathlib.Core.Bool.{Bool, true}
use mathlib.Core.List.{List, [], ◌∷◌}
use mathlib.Core.Logic.{◌↔◌}
use Rattle.flow.specs.Flow.{flows}
use Rattle.table.specs.Threads.{thread}
use Rattle.table.specs.Legal.{Legal}
use Rattle.table.specs.declared.Table.{Table}
use Rattle.order.specs.Order.{order, All, Below, Falling, Stands}
use Rattle.order.specs.Open.{flows_to}
use Rattle.order.proofs.OrderLaws.{order_below, order_falls, order-whole, FallingFrom, order_falls_from}
use Rattle.order.proofs.OpenLaws.{open_below, open_falls, open_falls_from, open_flows, open_exactly}
use Rattle.frame.specs.Frame.{window, window_at, domain_at, Framed}
use Rattle.frame.specs.Mode.{Mode, unframed, framed, mode_ok, threads_at, walks}
use Rattle.frame.specs.declared.Frame.{Frame}
use Rattle.frame.proofs.FrameLaws.{framed_exactly}

-- Without a frame a mode passes with every table and has every thread, ..
pub unframed_passes : (t : Table) → mode_ok t unframed ≡ true
unfolding mode_ok
unframed_passes t = refl

pub unframed_walks : (t : Table) (c i : ℕ) → walks t unframed c i ≡ true
unfolding walks
unframed_walks t c i = refl

-- .. and with one it passes as the frame does and has the threads of every domain that the window's domain may flow to.
pub frames_exactly : (t : Table) (f : Frame) → (mode_ok t (framed f) ≡ true) ↔ Framed t f
unfolding mode_ok
frames_exactly t f = framed_exactly t f

pub framed_walks : (t : Table) (f : Frame) (c i : ℕ) → walks t (framed f) c i ≡ flows t.rows (domain_at f c) (thread t i).domain
unfolding walks
framed_walks t f c i = refl

pub window_domain : (f : Frame) (c : ℕ) → domain_at f c ≡ (window f (window_at f c)).domain
unfolding domain_at
window_domain f c = refl

-- Of a legal table every thread that the mode has at a clock stands there, ..
pub at-whole : (t : Table) (mode : Mode) → Legal t → (c i : ℕ) → i < t.count → walks t mode c i ≡ true → Stands i (threads_at t mode c)
unfolding threads_at walks
at-whole t unframed g c i l w = order-whole t g i l
at-whole t (framed f) g c i l w = (open_exactly t (domain_at f c) i (order t)).1 (order-whole t g i l, w)

-- .. and no other.
pub at_only : (t : Table) (mode : Mode) (c i : ℕ) → Stands i (threads_at t mode c) → walks t mode c i ≡ true
unfolding threads_at walks
at_only t unframed c i s = refl
at_only t (framed f) c i s = ((open_exactly t (domain_at f c) i (order t)).0 s).1

-- Each of them is one that the mode has there.
pub at_all : (t : Table) (mode : Mode) (c : ℕ) → All (λ i. walks t mode c i ≡ true) (threads_at t mode c)
unfolding threads_at walks flows_to
at_all t unframed c = all_any (order t)
  where
    all_any : (is : List ℕ) → All (λ i. ◌≡◌ {A = Bool} true true) is
    all_any [] = tt
    all_any (i ∷ is) = (refl, all_any is)
at_all t (framed f) c = open_flows t (domain_at f c) (order t)

-- They are threads of the table, by falling priority.
pub at_below : (t : Table) (mode : Mode) (c : ℕ) → Below t.count (threads_at t mode c)
unfolding threads_at
at_below t unframed c = order_below t
at_below t (framed f) c = open_below t (domain_at f c) t.count (order t) (order_below t)

pub at_falls : (t : Table) (mode : Mode) (c : ℕ) → Falling t (threads_at t mode c)
unfolding threads_at
at_falls t unframed c = order_falls t
at_falls t (framed f) c = open_falls t (domain_at f c) (order t) (order_falls t)

pub at_falls_from : (t : Table) (mode : Mode) (c : ℕ) → FallingFrom t 256 (threads_at t mode c)
unfolding threads_at
at_falls_from t unframed c = order_falls_from t
at_falls_from t (framed f) c = open_falls_from t (domain_at f c) 256 (order t) (order_falls_from t)
