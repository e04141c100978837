-- One step of a run: what it adds, and how runs of steps grow.
use Prim.Native.Nat.{ℕ, suc}
use mathlib.Core.Path.{◌≡◌, refl, sym}
use mathlib.Core.List.{List, [], ◌∷◌, ◌++◌, append-nil}
use lib.Dec.{eqb}
use Rattle.basis.specs.Search.{listed}
use Rattle.basis.specs.Turns.{after}
use Rattle.basis.proofs.TurnLaws.{after_join}
use Rattle.basis.specs.Tests.{pick}
use Rattle.basis.proofs.TestLaws.{by_test}
use Rattle.table.specs.declared.Table.{Table}
use Rattle.bench.specs.Text.{Run, with_step, play, bytes_of, played}

-- A step adds to a run's lines, whatever they are.
pub record Adds (r q e : Run) : Type 0 where
  pub lines : q.lines ≡ r.lines ++ e.lines
  pub state : q.state ≡ e.state
  pub why : q.why ≡ e.why

pub play_adds : (t : Table) (bs : List ℕ) (r : Run) → Adds r (play t bs r) (play t bs (record { lines = []; state = r.state; why = r.why }))
unfolding play with_step pick
play_adds t bs r =
    by_test (eqb r.why 0) (λ e. rw e (record { lines = refl; state = refl; why = refl }))
    (λ e. rw e (record { lines = sym (append-nil r.lines); state = refl; why = refl }))

-- No steps, and one step more.
pub played-none : (t : Table) (bs : List ℕ) (r : Run) → played t bs r 0 ≡ r
unfolding played listed after
played-none t bs r = refl

pub played-suc : (t : Table) (bs : List ℕ) (r : Run) (k : ℕ) → played t bs r (suc k) ≡ play t (bytes_of t.count k bs) (played t bs r k)
unfolding played listed after
played-suc t bs r k = after_join (play t) (λ (x : Run). x) (listed k (λ j. bytes_of t.count j bs)) (bytes_of t.count k bs ∷ []) r
