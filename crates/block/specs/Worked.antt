-- Worked by hand, and computed: example E's ten steps in one call, and a call for each number.
use Rattle.std.specs.Prelude.{ℕ, ◌≡◌, refl, List, [], ◌∷◌, ◌++◌, replicate}
use Rattle.table.specs.declared.Table.{Table}
use Rattle.example.specs.Example.{table_of, event, in_version, upper, example}
use Rattle.state.specs.State.{fresh}
use Rattle.state.specs.declared.State.{State}
use Rattle.frame.specs.declared.Frame.{Frame}
use Rattle.frame.specs.Frame.{no_window}
use Rattle.frame.specs.Mode.{unframed, framed}
use Rattle.block.specs.Block.{block, recorded}
use Rattle.block.specs.Opened.{opened}

-- Thread 0 sends 1, 0, 0, 2, then 1 six times; thread 1 sends 1 ten times.
abbrev sent : List ℕ
sent = 1 ∷ 1 ∷ 0 ∷ 1 ∷ 0 ∷ 1 ∷ 2 ∷ 1 ∷ replicate 12 1

-- T0, I0 three times, T1 three times, idle three times; the part's other bytes stay.
pub ten_steps : (block example unframed (replicate 10 0) sent (fresh example) (replicate 12 7)).part
    ≡ 0 ∷ 32 ∷ 32 ∷ 32 ∷ 1 ∷ 1 ∷ 1 ∷ 255 ∷ 255 ∷ 255 ∷ 7 ∷ 7 ∷ []
unfolding opened
ten_steps = refl

-- In a frame of five steps of domain 0 and five of domain 1: from clock 5 on thread 1 is not walked, and thread 0 has no rest.
abbrev halves : Frame
halves = record { count = 2; windows = record { domain = 0; length = 5 } ∷ record { domain = 1; length = 5 } ∷ replicate 62 no_window }

pub ten_framed : (block example (framed halves) (replicate 10 0) sent (fresh example) (replicate 12 7)).part
    ≡ 0 ∷ 32 ∷ 32 ∷ 32 ∷ 1 ∷ 255 ∷ 255 ∷ 255 ∷ 255 ∷ 255 ∷ 7 ∷ 7 ∷ []
unfolding opened
ten_framed = refl

-- E in version 2 with thread 1 released by events: by the one at the sixth step, so that it runs from there on, and by no other.
abbrev eventful : Table
eventful = in_version 2 (table_of (3 ∷ 2 ∷ []) (upper ∷ event 0 20 10 3 10 0 ∷ []))

pub ten_with_event : (block eventful unframed (replicate 5 0 ++ (2 ∷ replicate 4 0)) sent (fresh eventful) (replicate 12 7)).part
    ≡ 0 ∷ 32 ∷ 32 ∷ 32 ∷ 255 ∷ 1 ∷ 1 ∷ 1 ∷ 255 ∷ 255 ∷ 7 ∷ 7 ∷ []
unfolding opened
ten_with_event = refl

-- No steps are a block too, but not past the record's end.
pub no_steps : (block example unframed [] [] (fresh example) []).number ≡ 0
unfolding opened
no_steps = refl

pub past_the_end : (recorded example unframed [] [] (fresh example) (7 ∷ []) 2).number ≡ 16
unfolding opened
past_the_end = refl

-- From place 1 the next place is 11; a refusal's is 0.
pub places :
    ((recorded example unframed (replicate 10 0) sent (fresh example) (replicate 12 7) 1).next
    ∷ (recorded example unframed (replicate 10 0) sent (fresh example) (replicate 12 7) 3).next
    ∷ [])
    ≡ 11 ∷ 0 ∷ []
unfolding opened
places = refl

abbrev at_clock : ℕ → State
at_clock c = record { clock = c; threads = (fresh example).threads }

-- A byte too few, a mask too few, a mask of a periodic thread, one step too many for the clock, a byte too little room, and none of these.
pub numbers :
    ((block example unframed (replicate 10 0) (replicate 19 1) (fresh example) (replicate 10 7)).number
    ∷ (block example unframed (replicate 9 0) sent (fresh example) (replicate 10 7)).number
    ∷ (block example unframed (replicate 9 0 ++ (1 ∷ [])) sent (fresh example) (replicate 10 7)).number
    ∷ (block example unframed (replicate 10 0) sent (at_clock 999999991) (replicate 10 7)).number
    ∷ (block example unframed (replicate 10 0) sent (fresh example) (replicate 9 7)).number
    ∷ (block example unframed (replicate 10 0) sent (at_clock 999999990) (replicate 10 7)).number
    ∷ [])
    ≡ 13 ∷ 13 ∷ 18 ∷ 14 ∷ 16 ∷ 0 ∷ []
unfolding opened
numbers = refl
