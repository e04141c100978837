-- Document 02 on threads released by events, by hand: a fresh start, single calls with the whole state handed back, runs, 12 and 18.
use Rattle.std.specs.Prelude.{ℕ, refl, List, [], ◌∷◌, ◌++◌, map, true, false, replicate}
use Rattle.basis.specs.Search.{listed}
use Rattle.table.specs.declared.Table.{Table}
use Rattle.example.specs.Example.{table_of, task, event, in_version, example, upper, waiting}
use Rattle.state.specs.State.{no_progress, starting, fresh_given}
use Rattle.state.specs.declared.State.{State}
use Rattle.walk.specs.Step.{Input}
use Rattle.scheduler.specs.Opened.{opened as steps-opened}
use Rattle.known.specs.Entry.{Entry, Holds, same, all_same, by_numbers}
use Rattle.known.specs.Example.{two, row_too_many, eventful}
use Rattle.known.specs.Runs.{ran, idle_for, idle, refused_with, joined, left, left_since, at, state, fresh_told, gives, with_mask, call_with, call, first_call, answers, answers_of, state_of}

-- E in version 2 with thread 1 released by events, P 10, and with a deadline of 5: 5 steps after its release it is cut.
abbrev short : Table
short = in_version 2 (two 3 2 upper (event 0 20 10 3 5 0))

-- E in version 2 with both threads released by events.
abbrev both_events : Table
both_events = in_version 2 (two 3 2 (event 1 30 10 4 10 2) (event 0 20 10 3 10 0))

-- One domain. Thread 0 runs three steps of every four; thread 1, below it, has P 4, W 3, B 1 and this deadline, and is released by events.
abbrev busy : ℕ → Table
busy d = in_version 2 (table_of (1 ∷ []) (task 0 2 4 0 3 4 0 ∷ event 0 1 4 3 d 1 ∷ []))

-- 32 threads of one domain, thread i with the priority i; the last is released by events.
abbrev crowd : Table
crowd = in_version 2 (table_of (1 ∷ []) (listed 31 (λ i. task 0 i 10 0 1 1 0) ++ (event 0 31 10 3 10 0 ∷ [])))

-- Steps of both threads sending 1, with these masks.
abbrev with_masks : List ℕ → List Input
with_masks = map (with_mask (1 ∷ 1 ∷ []))

-- A call that is refused hands back the state that it was given.
abbrev refusal : ℕ → Table → State → ℕ → List ℕ → Entry
refusal why t s mask bs = record { computed = call_with t s mask bs; by_hand = gives (refused_with why) s }

-- A state of `eventful` before its first step; at the last clock; and with steps since release above P, there too.
abbrev start : State
start = at 0 (no_progress ∷ left_since 0 0 false 0 10 ∷ [])

abbrev last : State
last = at 1000000000 (left 2 1 true 7 ∷ left_since 1 1 false 9 3 ∷ [])

abbrev misfit : State
misfit = at 1 (no_progress ∷ left_since 0 0 false 0 11 ∷ [])

abbrev misfit_last : State
misfit_last = at 1000000000 (no_progress ∷ left_since 0 0 false 0 11 ∷ [])

abbrev known : List Entry
known =
    -- fresh: all zero, but P steps since release for an event thread; of each event thread its own P
    record { computed = fresh_told example; by_hand = 0 ∷ state (at 0 []) }
    ∷ record { computed = fresh_told eventful; by_hand = 0 ∷ state (at 0 (no_progress ∷ left_since 0 0 false 0 10 ∷ [])) }
    ∷ record {
      computed = fresh_told (in_version 2 (table_of (1 ∷ []) (event 0 2 7 1 7 0 ∷ task 0 1 8 0 1 8 0 ∷ event 0 0 60000 1 9 0 ∷ [])));
      by_hand = 0 ∷ state (at 0 (left_since 0 0 false 0 7 ∷ no_progress ∷ left_since 0 0 false 0 60000 ∷ []));
    }
    -- fresh: 11 and zeros for a table that is not legal, with an event thread, too
    ∷ record { computed = fresh_told row_too_many; by_hand = 11 ∷ state (at 0 []) }
    ∷ record { computed = fresh_told (in_version 1 eventful); by_hand = 11 ∷ state (at 0 []) }
    -- an event releases: rest W, rest of execution W - B, and one step later one step has passed
    ∷ record {
      computed = call_with eventful start 2 (1 ∷ 1 ∷ []);
      by_hand = gives (ran 0) (at 1 (left 3 1 false 1 ∷ left_since 3 3 false 0 1 ∷ []));
    }
    ∷ record {
      computed = call_with both_events (at 0 (left_since 0 0 false 0 10 ∷ left_since 0 0 false 0 10 ∷ [])) 1 (0 ∷ 1 ∷ []);
      by_hand = gives (idle_for 0) (at 1 (left_since 3 2 false 0 1 ∷ left_since 0 0 false 0 10 ∷ []));
    }
    -- without one it has no rest and is passed, from the fresh start on, and since stops at P
    ∷ record { computed = first_call eventful (1 ∷ 1 ∷ []); by_hand = gives (ran 0) (at 1 (left 3 1 false 1 ∷ left_since 0 0 false 0 10 ∷ [])) }
    ∷ record {
      computed = call eventful (at 4 (left 0 0 false 2 ∷ left_since 0 0 false 0 10 ∷ [])) (1 ∷ 1 ∷ []);
      by_hand = gives idle (at 5 (left 0 0 false 2 ∷ left_since 0 0 false 0 10 ∷ []));
    }
    -- bit i for thread i: thread 0's, thread 1's, both
    ∷ record {
      computed = call_with both_events (at 0 (left_since 0 0 false 0 10 ∷ left_since 0 0 false 0 10 ∷ [])) 1 (1 ∷ 1 ∷ []);
      by_hand = gives (ran 0) (at 1 (left_since 3 1 false 1 1 ∷ left_since 0 0 false 0 10 ∷ []));
    }
    ∷ record {
      computed = call_with both_events (at 0 (left_since 0 0 false 0 10 ∷ left_since 0 0 false 0 10 ∷ [])) 2 (1 ∷ 1 ∷ []);
      by_hand = gives (ran 1) (at 1 (left_since 0 0 false 0 10 ∷ left_since 2 2 false 1 1 ∷ []));
    }
    ∷ record {
      computed = call_with both_events (at 0 (left_since 0 0 false 0 10 ∷ left_since 0 0 false 0 10 ∷ [])) 3 (1 ∷ 1 ∷ []);
      by_hand = gives (ran 0) (at 1 (left_since 3 1 false 1 1 ∷ left_since 3 3 false 0 1 ∷ []));
    }
    -- bit 31 for thread 31
    ∷ record {
      computed = call_with crowd (at 3 (replicate 31 no_progress ++ (left_since 0 0 false 0 10 ∷ []))) 2147483648 (replicate 32 1);
      by_hand = gives (ran 31) (at 4 (replicate 31 no_progress ++ (left_since 2 2 false 1 1 ∷ [])));
    }
    -- since counts up with the clock, whether its thread is reached or not, and stops at P
    ∷ record {
      computed = call eventful (at 6 (left 0 0 false 2 ∷ left_since 1 1 false 2 5 ∷ [])) (1 ∷ 1 ∷ []);
      by_hand = gives (ran 1) (at 7 (left 0 0 false 2 ∷ left_since 0 0 false 3 6 ∷ []));
    }
    ∷ record {
      computed = call eventful (at 6 (left 1 1 false 1 ∷ left_since 3 3 false 0 5 ∷ [])) (1 ∷ 1 ∷ []);
      by_hand = gives (ran 0) (at 7 (left 0 0 false 2 ∷ left_since 3 3 false 0 6 ∷ []));
    }
    ∷ record {
      computed = call eventful (at 18 (left 0 0 false 3 ∷ left_since 0 0 false 2 9 ∷ [])) (1 ∷ 1 ∷ []);
      by_hand = gives idle (at 19 (left 0 0 false 3 ∷ left_since 0 0 false 2 10 ∷ []));
    }
    ∷ record {
      computed = call eventful (at 19 (left 0 0 false 3 ∷ left_since 0 0 false 2 10 ∷ [])) (1 ∷ 1 ∷ []);
      by_hand = gives idle (at 20 (left 0 0 false 3 ∷ left_since 0 0 false 2 10 ∷ []));
    }
    -- an early event is lost: 9 steps after the release it does what no event does
    ∷ record {
      computed = call_with eventful (at 9 (left 2 2 false 4 ∷ left_since 2 1 true 1 9 ∷ [])) 2 (1 ∷ 1 ∷ []);
      by_hand = gives (ran 0) (at 10 (left 1 1 false 5 ∷ left_since 2 1 true 1 10 ∷ []));
    }
    ∷ record {
      computed = call eventful (at 9 (left 2 2 false 4 ∷ left_since 2 1 true 1 9 ∷ [])) (1 ∷ 1 ∷ []);
      by_hand = gives (ran 0) (at 10 (left 1 1 false 5 ∷ left_since 2 1 true 1 10 ∷ []));
    }
    -- and in the step right after the release
    ∷ record {
      computed = call_with eventful (at 4 (left 0 0 false 2 ∷ left_since 2 2 false 1 1 ∷ [])) 2 (1 ∷ 1 ∷ []);
      by_hand = gives (ran 1) (at 5 (left 0 0 false 2 ∷ left_since 1 1 false 2 2 ∷ []));
    }
    -- an event at P refills: both rests are set and not added to, the finish mark is cleared, the count stays
    ∷ record {
      computed = call_with eventful (at 10 (left 1 1 false 5 ∷ left_since 2 1 true 1 10 ∷ [])) 2 (1 ∷ 1 ∷ []);
      by_hand = gives (ran 0) (at 11 (left 3 1 false 6 ∷ left_since 3 3 false 1 1 ∷ []));
    }
    -- D = P and no event at P: both rests are lost, the finish mark stays; so an early event is not remembered
    ∷ record {
      computed = call eventful (at 10 (left 1 1 false 5 ∷ left_since 2 1 true 1 10 ∷ [])) (1 ∷ 1 ∷ []);
      by_hand = gives (ran 0) (at 11 (left 3 1 false 6 ∷ left_since 0 0 true 1 10 ∷ []));
    }
    -- D < P: D steps after the release the rests are lost, one step before they are not; the clock's phases, 2 and 3, do not count
    ∷ record {
      computed = call short (at 12 (left 0 0 false 2 ∷ left_since 2 2 false 1 4 ∷ [])) (1 ∷ 1 ∷ []);
      by_hand = gives (ran 1) (at 13 (left 0 0 false 2 ∷ left_since 1 1 false 2 5 ∷ []));
    }
    ∷ record {
      computed = call short (at 13 (left 0 0 false 2 ∷ left_since 1 1 false 2 5 ∷ [])) (1 ∷ 1 ∷ []);
      by_hand = gives idle (at 14 (left 0 0 false 2 ∷ left_since 0 0 false 2 6 ∷ []));
    }
    -- nor does phase 8 or 0 of the clock, 2 and 4 steps after the release
    ∷ record {
      computed = call short (at 8 (left 0 0 false 2 ∷ left_since 3 3 false 0 2 ∷ [])) (1 ∷ 1 ∷ []);
      by_hand = gives (ran 1) (at 9 (left 0 0 false 2 ∷ left_since 2 2 false 1 3 ∷ []));
    }
    ∷ record {
      computed = call short (at 10 (left 0 0 false 2 ∷ left_since 1 1 true 2 4 ∷ [])) (0 ∷ 1 ∷ []);
      by_hand = gives (idle_for 0) (at 11 (left 3 2 false 2 ∷ left_since 1 1 true 2 5 ∷ []));
    }
    -- an event past D and before P is lost, too, and the deadline stays where it was
    ∷ record {
      computed = call_with short (at 13 (left 0 0 false 2 ∷ left_since 1 1 false 2 5 ∷ [])) 2 (1 ∷ 1 ∷ []);
      by_hand = gives idle (at 14 (left 0 0 false 2 ∷ left_since 0 0 false 2 6 ∷ []));
    }
    ∷ record {
      computed = call_with short (at 17 (left 0 0 false 2 ∷ left_since 0 0 false 2 9 ∷ [])) 2 (1 ∷ 1 ∷ []);
      by_hand = gives idle (at 18 (left 0 0 false 2 ∷ left_since 0 0 false 2 10 ∷ []));
    }
    -- runs: with an event at clock 0 thread 1 has the fourth step; at clock 4, its D and P, its rest of 2 is cut, and the eighth is idle
    ∷ record {
      computed = answers_of (busy 4) (with_masks (2 ∷ 0 ∷ 0 ∷ 0 ∷ 0 ∷ 0 ∷ 0 ∷ 0 ∷ []));
      by_hand = joined (ran 0 ∷ ran 0 ∷ ran 0 ∷ ran 1 ∷ ran 0 ∷ ran 0 ∷ ran 0 ∷ idle ∷ []);
    }
    ∷ record {
      computed = state_of (busy 4) (with_masks (2 ∷ 0 ∷ 0 ∷ 0 ∷ []));
      by_hand = state (at 4 (left 0 0 false 3 ∷ left_since 2 1 false 1 4 ∷ []));
    }
    ∷ record {
      computed = state_of (busy 4) (with_masks (2 ∷ 0 ∷ 0 ∷ 0 ∷ 0 ∷ []));
      by_hand = state (at 5 (left 2 2 false 4 ∷ left_since 0 0 false 1 4 ∷ []));
    }
    -- an event at clock 4 refills: thread 1 has the eighth step
    ∷ record {
      computed = answers_of (busy 4) (with_masks (2 ∷ 0 ∷ 0 ∷ 0 ∷ 2 ∷ 0 ∷ 0 ∷ 0 ∷ []));
      by_hand = joined (ran 0 ∷ ran 0 ∷ ran 0 ∷ ran 1 ∷ ran 0 ∷ ran 0 ∷ ran 0 ∷ ran 1 ∷ []);
    }
    ∷ record {
      computed = state_of (busy 4) (with_masks (2 ∷ 0 ∷ 0 ∷ 0 ∷ 2 ∷ []));
      by_hand = state (at 5 (left 2 2 false 4 ∷ left_since 3 2 false 1 1 ∷ []));
    }
    -- events at clocks 1, 2 and 3 are lost: what follows is as without them, whether an event comes at clock 4 or not
    ∷ record {
      computed = answers_of (busy 4) (with_masks (2 ∷ 2 ∷ 2 ∷ 2 ∷ 0 ∷ 0 ∷ 0 ∷ 0 ∷ []));
      by_hand = joined (ran 0 ∷ ran 0 ∷ ran 0 ∷ ran 1 ∷ ran 0 ∷ ran 0 ∷ ran 0 ∷ idle ∷ []);
    }
    ∷ record {
      computed = state_of (busy 4) (with_masks (2 ∷ 2 ∷ 2 ∷ 2 ∷ 0 ∷ []));
      by_hand = state (at 5 (left 2 2 false 4 ∷ left_since 0 0 false 1 4 ∷ []));
    }
    ∷ record {
      computed = state_of (busy 4) (with_masks (2 ∷ 2 ∷ 2 ∷ 2 ∷ 2 ∷ []));
      by_hand = state (at 5 (left 2 2 false 4 ∷ left_since 3 2 false 1 1 ∷ []));
    }
    -- with D 3 the fourth step is idle, and a lost event at clock 2 moves no deadline
    ∷ record { computed = answers_of (busy 3) (with_masks (2 ∷ 0 ∷ 0 ∷ 0 ∷ [])); by_hand = joined (ran 0 ∷ ran 0 ∷ ran 0 ∷ idle ∷ []) }
    ∷ record { computed = answers_of (busy 3) (with_masks (2 ∷ 0 ∷ 2 ∷ 0 ∷ [])); by_hand = joined (ran 0 ∷ ran 0 ∷ ran 0 ∷ idle ∷ []) }
    -- but one at clock 2 that releases does: thread 1 has the fourth step, and keeps its rest at clock 4
    ∷ record {
      computed = answers_of (busy 3) (with_masks (0 ∷ 0 ∷ 2 ∷ 0 ∷ 0 ∷ []));
      by_hand = joined (ran 0 ∷ ran 0 ∷ ran 0 ∷ ran 1 ∷ ran 0 ∷ []);
    }
    ∷ record {
      computed = state_of (busy 3) (with_masks (0 ∷ 0 ∷ 2 ∷ 0 ∷ 0 ∷ []));
      by_hand = state (at 5 (left 2 2 false 4 ∷ left_since 2 1 false 1 3 ∷ []));
    }
    -- an event thread that is marked and waits: the processor idles on its account, and it pays
    ∷ record {
      computed = answers_of both_events (map (with_mask (0 ∷ 1 ∷ [])) (3 ∷ 0 ∷ 0 ∷ 0 ∷ 0 ∷ 0 ∷ 0 ∷ 0 ∷ []));
      by_hand = joined (replicate 4 (idle_for 0) ++ (replicate 3 (ran 1) ++ (idle ∷ [])));
    }
    -- version 2 with periodic threads alone answers as version 1 does: E's ten answers
    ∷ record {
      computed = answers (in_version 2 example) waiting;
      by_hand = joined (ran 0 ∷ (replicate 3 (idle_for 0) ++ (replicate 3 (ran 1) ++ replicate 3 idle)));
    }
    -- the last clock is reached with an event
    ∷ record {
      computed = call_with eventful (at 999999999 (left 0 0 false 7 ∷ left_since 0 0 false 9 10 ∷ [])) 2 (1 ∷ 1 ∷ []);
      by_hand = gives (ran 1) (at 1000000000 (left 0 0 false 7 ∷ left_since 2 2 false 10 1 ∷ []));
    }
    -- 12: since above P; a periodic thread's; past the last thread; the last place's; thread 1's where it is periodic
    ∷ refusal 12 eventful misfit 0 (1 ∷ 1 ∷ [])
    ∷ refusal 12 eventful (at 1 (left_since 0 0 false 0 1 ∷ left_since 0 0 false 0 10 ∷ [])) 0 (1 ∷ 1 ∷ [])
    ∷ refusal 12 eventful (at 1 (no_progress ∷ left_since 0 0 false 0 10 ∷ left_since 0 0 false 0 1 ∷ [])) 0 (1 ∷ 1 ∷ [])
    ∷ refusal 12 eventful (at 1 (replicate 31 no_progress ++ (left_since 0 0 false 0 1 ∷ []))) 0 (1 ∷ 1 ∷ [])
    ∷ refusal 12 example (at 1 (no_progress ∷ left_since 0 0 false 0 1 ∷ [])) 0 (1 ∷ 1 ∷ [])
    -- 18: a bit of a periodic thread, alone and beside an event thread's; of a missing thread, the first and bit 31; all bits
    ∷ refusal 18 eventful start 1 (1 ∷ 1 ∷ [])
    ∷ refusal 18 eventful start 3 (1 ∷ 1 ∷ [])
    ∷ refusal 18 eventful start 4 (1 ∷ 1 ∷ [])
    ∷ refusal 18 eventful start 2147483648 (1 ∷ 1 ∷ [])
    ∷ refusal 18 eventful start 4294967295 (1 ∷ 1 ∷ [])
    -- 18: every bit, where all threads are periodic
    ∷ refusal 18 example (at 0 []) 1 (1 ∷ 1 ∷ [])
    ∷ refusal 18 example (at 0 []) 2 (1 ∷ 1 ∷ [])
    ∷ refusal 18 (in_version 2 example) (at 0 []) 2 (1 ∷ 1 ∷ [])
    -- 14 with an event and without one
    ∷ refusal 14 eventful last 2 (1 ∷ 1 ∷ [])
    ∷ refusal 14 eventful last 0 (1 ∷ 1 ∷ [])
    -- the order 11, 12, 13, 18, 14: 13 before 18, 18 before 14, 12 before 18, 11 before 18; and all five faults
    ∷ refusal 13 eventful start 1 (1 ∷ [])
    ∷ refusal 18 eventful last 1 (1 ∷ 1 ∷ [])
    ∷ refusal 12 eventful misfit 1 (1 ∷ 1 ∷ [])
    ∷ refusal 11 (in_version 1 eventful) start 1 (1 ∷ 1 ∷ [])
    ∷ refusal 13 eventful last 1 (1 ∷ [])
    ∷ refusal 12 eventful misfit_last 1 (1 ∷ [])
    ∷ refusal 11 (in_version 1 eventful) misfit_last 1 (1 ∷ [])
    ∷ []

pub all-events : Holds known
unfolding steps-opened starting fresh_given same all_same
all-events = by_numbers known refl
