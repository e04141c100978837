-- The marks of a step. The walk asks of a mark whether it is set, and nothing else; and whether it is set the whole table says, in a window too.
use Prim.Native.Nat.{ℕ, ◌<◌}
use mathlib.Core.Path.{◌≡◌, refl, sym, ◌∙◌}
use mathlib.Core.List.{List, [], ◌∷◌}
use lib.ListN.{get_or}
use Rattle.table.specs.Mark.{marked, marks_of, is_set}
use Rattle.table.specs.Mark.{Mark}
use Rattle.table.specs.declared.Table.{Table}
use Rattle.table.proofs.MarkLaws.{set_exactly}
use Rattle.state.specs.Release.{release}
use Rattle.state.specs.declared.State.{State}
use Rattle.order.specs.Order.{Below}
use Rattle.frame.specs.Frame.{domain_at}
use Rattle.frame.specs.Mode.{Mode, unframed, framed, threads_at}
use Rattle.frame.proofs.ModeLaws.{at_below}
use Rattle.walk.specs.Walk.{decided, visit, walk}
use Rattle.walk.specs.Step.{Input, advance, marks_in, marks_at, step}

-- Demand 3 goes by this: a thread that waits in a window is marked there for every thread of the table that is barred from it, also for one
-- that another window has.
pub window_marks : (t : Table) (d i : ℕ) → i < t.count → is_set (marks_in t d) i ≡ marked t i
window_marks t d i l = set_exactly t i l

pub at_marks : (t : Table) (mode : Mode) (c i : ℕ) → i < t.count → is_set (marks_at t mode c) i ≡ marked t i
unfolding marks_at
at_marks t unframed c i l = set_exactly t i l
at_marks t (framed f) c i l = window_marks t (domain_at f c) i l

module _ (k : ℕ) (m n : List Mark) (same : (i : ℕ) → i < k → is_set m i ≡ is_set n i) where
  visit_sets : (b i : ℕ) (s : State) → i < k → visit m b i s ≡ visit n b i s
  unfolding visit decided
  visit_sets b i s l = rw (same i l)

  pub walk_sets : (bs is : List ℕ) (s : State) → Below k is → walk m bs is s ≡ walk n bs is s
  unfolding walk
  walk_sets bs [] s l = refl
  walk_sets bs (i ∷ is) s l = rw (visit_sets (get_or bs i 0) i s l.0, walk_sets bs is _ l.1)

-- So the step is the step with the whole table's marks, in both modes.
pub step_by : (t : Table) (mode : Mode) (x : Input) (s : State) → step t mode x s ≡ advance t (marks_of t) (threads_at t mode s.clock) x s
unfolding step advance
step_by t mode x s =
    rw (walk_sets t.count (marks_at t mode s.clock) (marks_of t) (λ i l. at_marks t mode s.clock i l ∙ sym (set_exactly t i l)) x.bytes
    (threads_at t mode s.clock) (release t x.mask s) (at_below t mode s.clock))
