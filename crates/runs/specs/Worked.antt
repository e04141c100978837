-- Worked by hand, and computed: example E with an event thread, a mask that does not pass, and the last clock.
use Rattle.std.specs.Prelude.{ℕ, ◌≡◌, refl, List, [], ◌∷◌, replicate}
use Rattle.table.specs.declared.Table.{Table}
use Rattle.example.specs.Example.{table_of, event, in_version, upper}
use Rattle.state.specs.State.{fresh}
use Rattle.state.specs.declared.State.{State}
use Rattle.frame.specs.declared.Frame.{Frame}
use Rattle.frame.specs.Frame.{no_window}
use Rattle.frame.specs.Mode.{Mode, unframed, framed}
use Rattle.block.specs.Opened.{opened}
use Rattle.runs.specs.Playing.{steps_in, one_by_one, run_of, run_refusal, ran}

-- E in version 2, with thread 1 released by events.
abbrev eventful : Table
eventful = in_version 2 (table_of (3 ∷ 2 ∷ []) (upper ∷ event 0 20 10 3 10 0 ∷ []))

abbrev at_clock : ℕ → State
at_clock c = record { clock = c; threads = (fresh eventful).threads }

-- What can be seen of a run: its bytes, and behind them the clock and the number.
abbrev seen : Mode → List ℕ → List ℕ → State → List ℕ × List ℕ
seen mode masks bytes s = let r = run_of eventful mode masks bytes s in (r.bytes, r.state.clock ∷ r.why ∷ [])

-- Thread 0 sends 1, 0, 0, 2; thread 1 sends 1 each time.
abbrev sent : List ℕ
sent = 1 ∷ 1 ∷ 0 ∷ 1 ∷ 0 ∷ 1 ∷ 2 ∷ 1 ∷ []

-- Four steps with an event of thread 1 at the second: T0, then I0.
pub all-four : seen unframed (0 ∷ 2 ∷ 0 ∷ 0 ∷ []) sent (fresh eventful) ≡ (0 ∷ 32 ∷ 32 ∷ 32 ∷ [], 4 ∷ 0 ∷ [])
unfolding opened steps_in one_by_one
all-four = refl

-- Six steps with an event of thread 1 at the first: T0 twice, I0 twice, T1 twice. In a frame of five steps of domain 0 and five of domain
-- 1 thread 1 is not walked at clock 5.
abbrev halves : Frame
halves = record { count = 2; windows = record { domain = 0; length = 5 } ∷ record { domain = 1; length = 5 } ∷ replicate 62 no_window }

abbrev six : Mode → List ℕ × List ℕ
six mode = seen mode (2 ∷ replicate 5 0) (replicate 12 1) (fresh eventful)

pub all-six : six unframed ≡ (0 ∷ 0 ∷ 32 ∷ 32 ∷ 1 ∷ 1 ∷ [], 6 ∷ 0 ∷ [])
unfolding opened steps_in one_by_one
all-six = refl

pub six_framed : six (framed halves) ≡ (0 ∷ 0 ∷ 32 ∷ 32 ∷ 1 ∷ 255 ∷ [], 6 ∷ 0 ∷ [])
unfolding opened steps_in one_by_one
six_framed = refl

-- A mask of the periodic thread 0 at the second step: one step, and then 18, whatever comes behind.
pub bad_mask : seen unframed (0 ∷ 1 ∷ 0 ∷ 0 ∷ []) sent (fresh eventful) ≡ (0 ∷ [], 1 ∷ 18 ∷ [])
unfolding opened steps_in one_by_one
bad_mask = refl

-- Two steps up to the last clock, and then 14; there a bad mask is 18.
pub last_clock_reached : seen unframed (0 ∷ 0 ∷ 0 ∷ 0 ∷ []) sent (at_clock 999999998) ≡ (255 ∷ 255 ∷ [], 1000000000 ∷ 14 ∷ [])
unfolding opened steps_in one_by_one
last_clock_reached = refl

pub bad_mask_at_last : seen unframed (0 ∷ 0 ∷ 1 ∷ 0 ∷ []) sent (at_clock 999999998) ≡ (255 ∷ 255 ∷ [], 1000000000 ∷ 18 ∷ [])
unfolding opened steps_in one_by_one
bad_mask_at_last = refl

-- A mask or a byte short: the whole steps only.
pub short_masks : seen unframed (0 ∷ 0 ∷ 0 ∷ []) sent (fresh eventful) ≡ (0 ∷ 32 ∷ 32 ∷ [], 3 ∷ 0 ∷ [])
unfolding opened steps_in one_by_one
short_masks = refl

pub short-bytes : seen unframed (0 ∷ 0 ∷ 0 ∷ 0 ∷ []) (1 ∷ 1 ∷ 0 ∷ 1 ∷ 0 ∷ 1 ∷ 2 ∷ []) (fresh eventful) ≡ (0 ∷ 32 ∷ 32 ∷ [], 3 ∷ 0 ∷ [])
unfolding opened steps_in one_by_one
short-bytes = refl

-- The whole call, with a part of sevens: what the part then holds, and behind it the clock, the number and the count.
abbrev left : Table → Mode → State → ℕ → List ℕ × List ℕ
left t mode s places =
    let r = ran t mode (0 ∷ 2 ∷ 0 ∷ 0 ∷ []) sent s (replicate places 7) in (r.1, r.0.state.clock ∷ r.0.why ∷ r.0.n ∷ [])

pub places_over : left eventful unframed (fresh eventful) 6 ≡ (0 ∷ 32 ∷ 32 ∷ 32 ∷ 7 ∷ 7 ∷ [], 4 ∷ 0 ∷ 4 ∷ [])
unfolding opened steps_in one_by_one run_refusal ran
places_over = refl

-- 16 with a place short, and not with just enough; before it 12 for a clock past the last, 19 for a frame with no window, 11 for a version 3.
pub places-enough : left eventful unframed (fresh eventful) 4 ≡ (0 ∷ 32 ∷ 32 ∷ 32 ∷ [], 4 ∷ 0 ∷ 4 ∷ [])
unfolding opened steps_in one_by_one run_refusal ran
places-enough = refl

pub place_short : left eventful unframed (fresh eventful) 3 ≡ (7 ∷ 7 ∷ 7 ∷ [], 0 ∷ 16 ∷ 0 ∷ [])
unfolding opened steps_in one_by_one run_refusal ran
place_short = refl

pub no_state : left eventful unframed (at_clock 1000000001) 3 ≡ (7 ∷ 7 ∷ 7 ∷ [], 1000000001 ∷ 12 ∷ 0 ∷ [])
unfolding opened steps_in one_by_one run_refusal ran
no_state = refl

abbrev empty : Frame
empty = record { count = 0; windows = replicate 64 no_window }

pub no_frame : left eventful (framed empty) (at_clock 1000000001) 3 ≡ (7 ∷ 7 ∷ 7 ∷ [], 1000000001 ∷ 19 ∷ 0 ∷ [])
unfolding opened steps_in one_by_one run_refusal ran
no_frame = refl

pub no_table : left (in_version 3 eventful) (framed empty) (at_clock 1000000001) 3 ≡ (7 ∷ 7 ∷ 7 ∷ [], 1000000001 ∷ 11 ∷ 0 ∷ [])
unfolding opened steps_in one_by_one run_refusal ran
no_table = refl
