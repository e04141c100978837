-- Demand 3 over blocks on example E (K-3), in one block and in two, without a frame and in one: domain 0 is shown the same whatever thread 0
-- sends, and it is shown thread 1 three times.
use Prim.Native.Nat.{ℕ, zero, suc, ◌+◌, ◌*◌}
use native.Mathlib.Nat.{suc_inj, suc-ne-zero}
use native.Mathlib.Omega.{arith}
use mathlib.Core.Path.{◌≡◌, refl, sym, ap}
use mathlib.Core.List.{List, [], ◌∷◌, map}
use mathlib.Core.Bool.{true, false≢true}
use lib.ListN.{length, get_or, take, drop, replicate}
use lib.Dec.{lit<}
use Rattle.basis.specs.Told.{answered}
use Rattle.table.specs.Legal.{legal}
use Rattle.example.specs.Example.{example, waiting}
use Rattle.state.specs.State.{no_progress, with_count, fresh}
use Rattle.frame.specs.Mode.{Mode, unframed}
use Rattle.sight.specs.Shown.{visible}
use Rattle.sight.proofs.SightLaws.{visible_exactly}
use Rattle.isolation.proofs.OnExample.{windows}
use Rattle.block.specs.Block.{Blocked}
use Rattle.block_isolation.specs.Shown.{record_shown, ShownBlock, block_shown}
use Rattle.block_isolation.specs.Isolated.{Call, call, blocks, SameCall, ended, next}
use Rattle.block_isolation.specs.Opened.{opened}
use Rattle.block_isolation.proofs.Isolation.{demand_3_blocks}

example-legal : legal example ≡ true
unfolding opened
example-legal = refl

-- The bytes of a block in which thread 0 sends these and thread 1 always 1.
abbrev pub sending : List ℕ → List ℕ
sending [] = []
sending (x ∷ xs) = x ∷ 1 ∷ sending xs

-- So many steps without an event, from a place of a record; and from the start of one of twelve bytes, each 7.
abbrev pub into : List ℕ → ℕ → List ℕ → Call
into out at xs = record { masks = replicate (length xs) 0; bytes = sending xs; out = out; at = at }

abbrev pub quiet : List ℕ → Call
quiet xs = into (replicate 12 7) 0 xs

as_long : (xs ys : List ℕ) → length xs ≡ length ys → length (sending xs) ≡ length (sending ys)
as_long [] [] h = refl
as_long [] (y ∷ ys) h = absurd (suc-ne-zero _ (sym h))
as_long (x ∷ xs) [] h = absurd (suc-ne-zero _ h)
as_long (x ∷ xs) (y ∷ ys) h = ap (λ (n : ℕ). suc (suc n)) (as_long xs ys (suc_inj h))

-- Thread 0's domain may not flow to domain 0.
hidden_0 : visible example 0 0 ≡ true → ⊥
unfolding opened
hidden_0 v = false≢true v

-- Of two blocks the bytes of thread 1 are the same at each step.
same_bytes : (xs ys : List ℕ) → length xs ≡ length ys → (k i : ℕ) → visible example 0 i ≡ true → get_or (sending xs) (k * 2 + i) 0 ≡ get_or (sending ys) (k * 2 + i) 0
same_bytes [] [] h k i v = refl
same_bytes [] (y ∷ ys) h k i v = absurd (suc-ne-zero _ (sym h))
same_bytes (x ∷ xs) [] h k i v = absurd (suc-ne-zero _ h)
same_bytes (x ∷ xs) (y ∷ ys) h zero zero v = absurd (hidden_0 v)
same_bytes (x ∷ xs) (y ∷ ys) h zero (suc zero) v = refl
same_bytes (x ∷ xs) (y ∷ ys) h zero (suc (suc i)) v = absurd (omega (arith, ((visible_exactly example 0 (suc (suc i))).0 v).0))
same_bytes (x ∷ xs) (y ∷ ys) h (suc k) i v =
    let e : suc k * 2 + i ≡ suc (suc (k * 2 + i)) = omega arith in rw e (same_bytes xs ys (suc_inj h) k i v)

same-call : (out out' : List ℕ) (at : ℕ) → record_shown example 0 out ≡ record_shown example 0 out' → (xs ys : List ℕ) → length xs ≡ length ys
    → SameCall example 0 (into out at xs) (into out' at ys)
same-call out out' at e xs ys h = record {
  masks = ap (λ (n : ℕ). replicate n 0) h;
  long = as_long xs ys h;
  same = same_bytes xs ys h;
  places = refl;
  records = e;
}

-- One block, and two: the first three steps, and then the others, into the record that the first left and where it stopped.
abbrev in_one : List ℕ → List Call
in_one xs = quiet xs ∷ []

abbrev first : List ℕ → Blocked
first xs = call example unframed (quiet (take 3 xs)) (fresh example)

abbrev in_two : List ℕ → List Call
in_two xs = quiet (take 3 xs) ∷ into (first xs).part (first xs).next (drop 3 xs) ∷ []

-- What domain 0 is shown of them.
abbrev pub shown_by : Mode → List Call → List ShownBlock
shown_by mode a = map (block_shown example 0) (blocks example mode a (fresh example))

-- Demand 3 itself, on E.
pub whatever_it_sends : (mode : Mode) (xs ys : List ℕ) → length xs ≡ length ys → shown_by mode (in_one xs) ≡ shown_by mode (in_one ys)
whatever_it_sends mode xs ys h =
    demand_3_blocks example mode example-legal (record { rows = refl; threads = refl }) 0 (lit< tt) (in_one xs) (in_one ys) (next (same-call _ _ 0 refl xs ys h) ended)

-- K-3: thread 0 sends 1, 0, 0, 2, then 1 six times; or 1 always.
pub k_3 : shown_by unframed (in_one waiting) ≡ shown_by unframed (in_one (replicate 10 1))
k_3 = whatever_it_sends unframed waiting (replicate 10 1) refl

pub k_3_framed : shown_by windows (in_one waiting) ≡ shown_by windows (in_one (replicate 10 1))
k_3_framed = whatever_it_sends windows waiting (replicate 10 1) refl

second : SameCall example 0 (into (first waiting).part (first waiting).next (drop 3 waiting)) (into (first (replicate 10 1)).part (first (replicate 10 1)).next (replicate 7 1))
unfolding opened
second = same-call (first waiting).part (first (replicate 10 1)).part 3 refl (drop 3 waiting) (replicate 7 1) refl

pub k_3_in_two : shown_by unframed (in_two waiting) ≡ shown_by unframed (in_two (replicate 10 1))
k_3_in_two =
    demand_3_blocks example unframed example-legal (record { rows = refl; threads = refl }) 0 (lit< tt) (in_two waiting) (in_two (replicate 10 1))
    (next (same-call _ _ 0 refl (take 3 waiting) (replicate 3 1) refl) (next second ended))

-- What domain 0 is shown, by computation: thread 1 at the fifth, sixth and seventh byte, the place behind the tenth, and that thread 1 ran three times.
pub told : shown_by unframed (in_one waiting)
    ≡ record {
      number = 0;
      bytes = map answered ([] ∷ [] ∷ [] ∷ [] ∷ (1 ∷ []) ∷ (1 ∷ []) ∷ (1 ∷ []) ∷ [] ∷ [] ∷ [] ∷ [] ∷ [] ∷ []);
      next = 10;
      state-told = answered [];
      threads = no_progress ∷ with_count 3 no_progress ∷ replicate 30 no_progress;
    }
    ∷ []
unfolding opened
told = refl
