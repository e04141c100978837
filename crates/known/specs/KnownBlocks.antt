-- Document 02 on blocks of steps, by hand: calls into a record with the whole record and state that they leave, each number, and their order.
use Rattle.std.specs.Prelude.{ℕ, refl, List, [], ◌∷◌, ◌++◌, true, false, replicate}
use Rattle.table.specs.declared.Table.{Table}
use Rattle.example.specs.Example.{example, sent, waiting}
use Rattle.state.specs.State.{no_progress}
use Rattle.state.specs.declared.State.{State}
use Rattle.frame.specs.Mode.{Mode, unframed}
use Rattle.block.specs.Block.{recorded}
use Rattle.block.specs.Opened.{opened as block-opened}
use Rattle.known.specs.Entry.{Entry, Holds, same, all_same, by_numbers}
use Rattle.known.specs.Example.{row_too_many, eventful, window, in_frame}
use Rattle.known.specs.Runs.{joined, left, left_since, at, state}

-- A call: its number, the next place, what the record then holds, and the state handed back.
abbrev block_in : Table → Mode → State → List ℕ → List ℕ → List ℕ → ℕ → List ℕ
block_in t mode s masks bytes out place =
    let b = recorded t mode masks bytes s out place in b.number ∷ b.next ∷ (b.part ++ state b.state)

abbrev leaves : ℕ → ℕ → List ℕ → State → List ℕ
leaves number next out s = number ∷ next ∷ (out ++ state s)

-- Records of sevens.
abbrev sevens : ℕ → List ℕ
sevens n = replicate n 7

-- E without an event, thread 0 sending these bytes and thread 1 always 1, so many steps.
abbrev e_block : Mode → State → ℕ → List ℕ → List ℕ → ℕ → List ℕ
e_block mode s steps bs out place = block_in example mode s (replicate steps 0) (joined (sent bs)) out place

-- K-2's ten bytes: T0, I0 three times, T1 three times, idle three times; and the state behind them.
abbrev k_2 : List ℕ
k_2 = 0 ∷ 32 ∷ 32 ∷ 32 ∷ 1 ∷ 1 ∷ 1 ∷ 255 ∷ 255 ∷ 255 ∷ []

abbrev k_2_state : State
k_2_state = at 10 (left 0 1 true 1 ∷ left 0 0 false 3 ∷ [])

-- The state behind its first three.
abbrev three_on : State
three_on = at 3 (left 1 1 false 1 ∷ left 3 3 false 0 ∷ [])

-- Five steps of domain 0 and five of domain 1; and two of domain 1 and three of domain 0.
abbrev halves : Mode
halves = in_frame (window 0 5 ∷ window 1 5 ∷ [])

abbrev windows : Mode
windows = in_frame (window 1 2 ∷ window 0 3 ∷ [])

-- A frame with a window of domain 2, where E has domains 0 and 1.
abbrev bad : Mode
bad = in_frame (window 0 2 ∷ window 2 3 ∷ [])

-- A state at a clock that fits E; and one with thread 0's rest above its W of 4.
abbrev fitting : ℕ → State
fitting c = at c (left 0 1 false 1 ∷ left 2 2 false 0 ∷ [])

abbrev misfit : ℕ → State
misfit c = at c (left 5 1 false 1 ∷ left 2 2 false 0 ∷ [])

-- The bytes of two steps; and three, which are none of E's.
abbrev four : List ℕ
four = replicate 4 1

abbrev three : List ℕ
three = replicate 3 1

-- The masks of two steps; with one for thread 0, which is periodic.
abbrev none : List ℕ
none = 0 ∷ 0 ∷ []

abbrev event_0 : List ℕ
event_0 = 0 ∷ 1 ∷ []

-- A call that is refused hands back the state that it was given, its place is 0, and the record is as it was.
abbrev refusal : ℕ → Table → Mode → State → List ℕ → List ℕ → ℕ → ℕ → Entry
refusal why t mode s masks bytes room place = record { computed = block_in t mode s masks bytes (sevens room) place; by_hand = leaves why 0 (sevens room) s }

abbrev known : List Entry
known =
    -- K-2 in one block, into a record that it fills; into a longer one, from a place in its middle, from the last place where it fits
    record { computed = e_block unframed (at 0 []) 10 waiting (sevens 10) 0; by_hand = leaves 0 10 k_2 k_2_state }
    ∷ record { computed = e_block unframed (at 0 []) 10 waiting (sevens 13) 2; by_hand = leaves 0 12 (7 ∷ 7 ∷ (k_2 ++ sevens 1)) k_2_state }
    ∷ record { computed = e_block unframed (at 0 []) 10 waiting (sevens 12) 2; by_hand = leaves 0 12 (7 ∷ 7 ∷ k_2) k_2_state }
    -- in two: three steps, and seven from the place where they stopped
    ∷ record { computed = e_block unframed (at 0 []) 3 (1 ∷ 0 ∷ 0 ∷ []) (sevens 12) 0; by_hand = leaves 0 3 (0 ∷ 32 ∷ 32 ∷ sevens 9) three_on }
    ∷ record {
      computed = e_block unframed three_on 7 (2 ∷ replicate 6 1) (0 ∷ 32 ∷ 32 ∷ sevens 9) 3;
      by_hand = leaves 0 10 (k_2 ++ sevens 2) k_2_state;
    }
    -- K-10: step bytes 3 and 255 act as 0
    ∷ record { computed = e_block unframed (at 0 []) 10 (1 ∷ 3 ∷ 255 ∷ 2 ∷ replicate 6 1) (sevens 10) 0; by_hand = leaves 0 10 k_2 k_2_state }
    -- in a frame: from clock 5 on thread 1 is not walked, and keeps its rest; the window ends inside the block
    ∷ record {
      computed = e_block halves (at 0 []) 10 waiting (sevens 11) 1;
      by_hand = leaves 0 11 (7 ∷ 0 ∷ 32 ∷ 32 ∷ 32 ∷ 1 ∷ replicate 5 255) (at 10 (left 0 1 true 1 ∷ left 2 2 false 1 ∷ []));
    }
    -- one mask a step: an event at clock 0 releases thread 1, in a frame whose windows change at 2, 5 and 7
    ∷ record {
      computed = block_in eventful windows (at 0 (no_progress ∷ left_since 0 0 false 0 10 ∷ [])) (2 ∷ replicate 9 0) (replicate 20 1) (sevens 10) 0;
      by_hand = leaves 0 10 (0 ∷ 0 ∷ 32 ∷ 32 ∷ 1 ∷ 255 ∷ 255 ∷ 1 ∷ 1 ∷ 255 ∷ []) (at 10 (left 0 0 false 2 ∷ left_since 0 0 false 3 10 ∷ []));
    }
    -- an event at clock 5 does so five steps later
    ∷ record {
      computed = block_in eventful windows (at 0 (no_progress ∷ left_since 0 0 false 0 10 ∷ [])) (replicate 5 0 ++ (2 ∷ replicate 4 0)) (replicate 20 1) (sevens 10) 0;
      by_hand = leaves 0 10 (0 ∷ 0 ∷ 32 ∷ 32 ∷ 255 ∷ 255 ∷ 255 ∷ 1 ∷ 1 ∷ 1 ∷ []) (at 10 (left 0 0 false 2 ∷ left_since 0 0 false 3 5 ∷ []));
    }
    -- no steps: nothing is written and the state stays, from any place of a record, its end too, and with no record at all
    ∷ record { computed = e_block unframed three_on 0 [] (sevens 3) 1; by_hand = leaves 0 1 (sevens 3) three_on }
    ∷ record { computed = e_block unframed three_on 0 [] (sevens 3) 3; by_hand = leaves 0 3 (sevens 3) three_on }
    ∷ record { computed = e_block unframed three_on 0 [] [] 0; by_hand = leaves 0 0 [] three_on }
    ∷ record { computed = e_block halves three_on 0 [] [] 0; by_hand = leaves 0 0 [] three_on }
    -- a block may end at the last clock, and stand there if it has no steps
    ∷ record {
      computed = e_block unframed (fitting 999999998) 2 (1 ∷ 1 ∷ []) (sevens 2) 0;
      by_hand = leaves 0 2 (1 ∷ 1 ∷ []) (at 1000000000 (left 0 1 false 1 ∷ left 0 0 false 2 ∷ []));
    }
    ∷ record { computed = e_block unframed (fitting 1000000000) 0 [] (sevens 2) 0; by_hand = leaves 0 0 (sevens 2) (fitting 1000000000) }
    -- 11, 19 and 12, for no steps too
    ∷ refusal 11 row_too_many unframed (fitting 3) none four 2 0
    ∷ refusal 11 row_too_many unframed (fitting 3) [] [] 2 0
    ∷ refusal 19 example bad (fitting 3) none four 2 0
    ∷ refusal 19 example bad (fitting 3) [] [] 2 0
    ∷ refusal 12 example unframed (misfit 3) none four 2 0
    ∷ refusal 12 example unframed (misfit 3) [] [] 2 0
    -- 13: the bytes are no multiple of the threads
    ∷ refusal 13 example unframed (fitting 3) (0 ∷ []) three 2 0
    ∷ refusal 13 example unframed (fitting 3) none three 2 0
    ∷ refusal 13 example unframed (fitting 3) [] (1 ∷ []) 2 0
    -- 13: the masks are not one a step
    ∷ refusal 13 example unframed (fitting 3) (0 ∷ []) four 2 0
    ∷ refusal 13 example unframed (fitting 3) (0 ∷ none) four 3 0
    ∷ refusal 13 example unframed (fitting 3) [] four 2 0
    ∷ refusal 13 example unframed (fitting 3) none [] 2 0
    -- 18: an event of thread 0, which is periodic, in the last mask or the first; and of thread 2, which is missing
    ∷ refusal 18 example unframed (fitting 3) event_0 four 2 0
    ∷ refusal 18 example unframed (fitting 3) (1 ∷ 0 ∷ []) four 2 0
    ∷ refusal 18 example unframed (fitting 3) (0 ∷ 4 ∷ []) four 2 0
    -- 14: the clock plus the steps exceeds 1,000,000,000
    ∷ refusal 14 example unframed (fitting 999999999) none four 2 0
    ∷ refusal 14 example unframed (fitting 1000000000) (0 ∷ []) (1 ∷ 1 ∷ []) 2 0
    -- 16: too little room, from the start or from a place; at the end; past the end, for no steps too
    ∷ refusal 16 example unframed (fitting 3) none four 1 0
    ∷ refusal 16 example unframed (fitting 3) none four 0 0
    ∷ refusal 16 example unframed (fitting 3) none four 3 2
    ∷ refusal 16 example unframed (fitting 3) none four 3 3
    ∷ refusal 16 example unframed (fitting 3) none four 3 4
    ∷ refusal 16 example unframed (fitting 3) [] [] 3 4
    ∷ refusal 16 example halves (fitting 3) [] [] 3 4
    -- the order 11, 19, 12, 13, 18, 14, 16, each two of them
    ∷ refusal 11 row_too_many bad (fitting 3) none four 2 0
    ∷ refusal 11 row_too_many unframed (misfit 3) none four 2 0
    ∷ refusal 11 row_too_many unframed (fitting 3) none three 2 0
    ∷ refusal 11 row_too_many unframed (fitting 3) event_0 four 2 0
    ∷ refusal 11 row_too_many unframed (fitting 999999999) none four 2 0
    ∷ refusal 11 row_too_many unframed (fitting 3) none four 1 0
    ∷ refusal 11 row_too_many unframed (fitting 3) none four 1 2
    ∷ refusal 19 example bad (misfit 3) none four 2 0
    ∷ refusal 19 example bad (fitting 3) none three 2 0
    ∷ refusal 19 example bad (fitting 3) event_0 four 2 0
    ∷ refusal 19 example bad (fitting 999999999) none four 2 0
    ∷ refusal 19 example bad (fitting 3) none four 1 0
    ∷ refusal 19 example bad (fitting 3) none four 1 2
    ∷ refusal 12 example unframed (misfit 3) none three 2 0
    ∷ refusal 12 example unframed (misfit 3) event_0 four 2 0
    ∷ refusal 12 example unframed (misfit 999999999) none four 2 0
    ∷ refusal 12 example unframed (misfit 3) none four 1 0
    ∷ refusal 12 example unframed (misfit 3) none four 1 2
    ∷ refusal 13 example unframed (fitting 3) event_0 three 2 0
    ∷ refusal 13 example unframed (fitting 999999999) none three 2 0
    ∷ refusal 13 example unframed (fitting 3) none three 1 0
    ∷ refusal 13 example unframed (fitting 3) none three 1 2
    ∷ refusal 18 example unframed (fitting 999999999) event_0 four 2 0
    ∷ refusal 18 example unframed (fitting 3) event_0 four 1 0
    ∷ refusal 18 example unframed (fitting 3) event_0 four 1 2
    ∷ refusal 14 example unframed (fitting 999999999) none four 1 0
    ∷ refusal 14 example unframed (fitting 999999999) none four 1 2
    -- all faults at once, and in a good frame all behind 19
    ∷ refusal 11 row_too_many bad (misfit 999999999) event_0 three 1 2
    ∷ refusal 12 example halves (misfit 999999999) event_0 three 1 2
    ∷ []

pub all_blocks : Holds known
unfolding block-opened same all_same
all_blocks = by_numbers known refl
