-- A trace of the block run names threads of its own table only: it is never refused with 21.
use Prim.Native.Nat.{ℕ, ◌+◌, ◌<◌}
use mathlib.Core.Path.{◌≡◌, refl}
use mathlib.Core.List.{List, [], ◌∷◌}
use mathlib.Core.Bool.{true}
use native.Mathlib.Omega.{arith}
use borrow.Author.Tests.{lt-ltb, le-leb}
use lib.Dec.{ltb, leb}
use Rattle.basis.specs.Tests.{and}
use Rattle.basis.specs.Turns.{in_turn}
use Rattle.basis.proofs.TestLaws.{both_ways, and-of, or-true}
use Rattle.table.specs.Mark.{Mark}
use Rattle.table.specs.declared.Table.{Table}
use Rattle.state.specs.Release.{release}
use Rattle.state.specs.declared.State.{State}
use Rattle.order.specs.Order.{Below}
use Rattle.frame.specs.Mode.{Mode, threads_at}
use Rattle.frame.proofs.ModeLaws.{at_below}
use Rattle.walk.specs.Walk.{walk}
use Rattle.walk.specs.Step.{Input, ticked, advance, marks_at, step, Names, ran, idles}
use Rattle.walk.specs.declared.Answer.{Answer}
use Rattle.walk.specs.declared.Answer.TheVariants.{Ran, IdleFor, Idle}
use Rattle.walk.specs.declared.Walked.{Walked}
use Rattle.walk.proofs.ChoiceLaws.{nobody, visit_names}
use Rattle.block.specs.Block.{trace, trace_of}
use Rattle.cleaning.specs.declared.Cleaning.{Cleaning}
use Rattle.cleaning.specs.Cleanings.{known, all_known, listing}
use Rattle.cleaning.proofs.NumberLaws.{no_21}

-- The thread that a walk names is one of its list.
walk_below : (m : List Mark) (bs : List ℕ) (n i : ℕ) (is : List ℕ) (s : State) → Below n is → Names i (walk m bs is s).answer → i < n
unfolding walk
walk_below m bs n i [] s f v = nobody i v
walk_below m bs n i (j ∷ js) s f v =
    let P : Walked → Type 0 = λ w. Names i w.answer → i < n in
    both_ways P _ _ _ (λ w. let e : i ≡ j = visit_names m _ j s i w in rw e f.0) (λ w. walk_below m bs n i js _ f.1 w) v

step_names : (t : Table) (mode : Mode) (x : Input) (s : State) (i : ℕ) → Names i (step t mode x s).answer → i < t.count
unfolding step advance ticked
step_names t mode x s i v =
    walk_below (marks_at t mode s.clock) x.bytes t.count i (threads_at t mode s.clock) (release t x.mask s) (at_below t mode s.clock) v

-- The byte of an answer is known where the answer names a thread of the table, or nobody.
pub byte-known : (n : ℕ) (a : Answer) → ((i : ℕ) → Names i a → i < n) → known n (trace a) ≡ true
unfolding known
byte-known n (Ran i) h = rw (lt-ltb i n (h i ran))
byte-known n (IdleFor i) h =
    let l : i < n = h i idles in
    rw (le-leb 32 (32 + i) (omega arith), lt-ltb (32 + i) (32 + n) (omega arith), or-true (ltb (32 + i) n))
byte-known n Idle h = rw (or-true (and (leb 32 255) (ltb 255 (32 + n))), or-true (ltb 255 n))

pub block-known : (t : Table) (mode : Mode) (xs : List Input) (s : State) → all_known t.count (trace_of (step t mode) xs s) ≡ true
unfolding trace_of in_turn
block-known t mode [] s = refl
block-known t mode (x ∷ xs) s = and-of (byte-known t.count (step t mode x s).answer (step_names t mode x s)) (block-known t mode xs (step t mode x s).state)

-- So no trace of the block run is refused with 21.
pub never_21 : (t : Table) (mode : Mode) (xs : List Input) (s : State) (list : List Cleaning) → (listing t (trace_of (step t mode) xs s) list).told.number ≡ 21 → ⊥
never_21 t mode xs s list = no_21 t (trace_of (step t mode) xs s) list (block-known t mode xs s)
