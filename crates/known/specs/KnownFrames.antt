-- Document 02 on windows in a repeating frame, by hand: single calls with the whole state handed back, runs, 19 and its place among the refusals.
use Rattle.std.specs.Prelude.{ℕ, ◌+◌, ◌%◌, ◌≡◌, refl, List, [], ◌∷◌, ◌++◌, map, true, false, replicate, ltb}
use Rattle.basis.specs.Search.{Sought, nothing, found}
use Rattle.basis.proofs.TestLaws.{both_ways as in-both-cases}
use Rattle.table.specs.declared.Table.{Table}
use Rattle.table.specs.declared.Thread.{Thread}
use Rattle.example.specs.Example.{table_of, task, event, in_version, example, upper, lower, sent, waiting}
use Rattle.state.specs.State.{no_progress, fresh_given}
use Rattle.state.specs.declared.State.{State}
use Rattle.order.specs.Order.{order}
use Rattle.order.specs.Open.{open_to}
use Rattle.frame.specs.Frame.{no_window, number, window as the-window}
use Rattle.frame.specs.Mode.{Mode, unframed, threads_at}
use Rattle.frame.specs.Opened.{opened as Frame-opened}
use Rattle.frame.specs.declared.Frame.{Frame}
use Rattle.scheduler.specs.Calls.{quietly}
use Rattle.scheduler.specs.Opened.{opened as steps-opened}
use Rattle.sight.specs.Opened.{opened as sight-opened}
use Rattle.known.specs.Entry.{Entry, Holds, same, all_same, by_numbers}
use Rattle.known.specs.Example.{top, two, with_threads, exchanged, both_ways, row_too_many, eventful, window, in_counted, in_frame}
use Rattle.known.specs.Runs.{ran, idle_for, idle, refused_with, seen, gap, joined, left, left_since, at, state, gives, with_mask, call_in, call, answers_in, state_in, shown_in}

-- Two steps of domain 1, which may flow to itself only, then three of domain 0, which may flow to both: E's thread 0 alone, then both threads.
abbrev windows : Mode
windows = in_frame (window 1 2 ∷ window 0 3 ∷ [])

-- A call in it, without an event.
abbrev windowed : Table → State → List ℕ → List ℕ
windowed t s bs = call_in t windows s 0 bs

-- E with another thread 1.
abbrev with_lower : Thread → Table
with_lower th = two 3 2 upper th

-- A thread of domain d between E's two in priority, with a budget of 2.
abbrev middle : ℕ → Thread
middle d = task d 25 10 0 2 10 0

-- Threads 0 and 1 of domain 1 stand above thread 2 of domain 0.
abbrev two_above : Table
two_above = with_threads (upper ∷ middle 1 ∷ lower ∷ [])

-- E's domains, and domain 2, which may flow to itself only.
abbrev and_a_third : List Thread → Table
and_a_third ths = table_of (3 ∷ 2 ∷ 4 ∷ []) ths

-- Thread 0 of domain 1, thread 1 of domain 2, thread 2 of domain 0; and one step for each domain.
abbrev apart : Table
apart = and_a_third (upper ∷ middle 2 ∷ lower ∷ [])

abbrev in_three : Mode
in_three = in_frame (window 2 1 ∷ window 1 1 ∷ window 0 1 ∷ [])

-- Domain 0 may flow to all, domains 1 and 2 to themselves only: threads 0 and 1 of domain 2 stand above thread 2 of domain 1. One step of domain 2, then
-- nine of domain 0.
abbrev across : Table
across = table_of (7 ∷ 2 ∷ 4 ∷ []) (task 2 30 10 0 1 10 0 ∷ task 2 20 10 0 1 10 0 ∷ task 1 10 10 0 1 10 0 ∷ [])

abbrev one_and_nine : Mode
one_and_nine = in_frame (window 2 1 ∷ window 0 9 ∷ [])

-- E at a clock that is no release: thread 0 has no rest, and thread 1, which has one, asks to run.
abbrev asking : Mode → ℕ → List ℕ
asking mode c = call_in example mode (at c (left 0 1 false 1 ∷ left 2 2 false 0 ∷ [])) 0 (1 ∷ 1 ∷ [])

-- One clock later: thread 1 is outside the window and paid nothing; or it is inside and ran.
abbrev outside : ℕ → List ℕ
outside c = gives idle (at c (left 0 1 false 1 ∷ left 2 2 false 0 ∷ []))

abbrev inside : ℕ → List ℕ
inside c = gives (ran 1) (at c (left 0 1 false 1 ∷ left 1 1 false 1 ∷ []))

-- E's answers in a mode, thread 0 sending these bytes and thread 1 always 1; the state after them; and what a domain is shown of them.
abbrev e_answers : Mode → List ℕ → List ℕ
e_answers mode bs = answers_in example mode (quietly (sent bs))

abbrev e_state : Mode → List ℕ → List ℕ
e_state mode bs = state_in example mode (quietly (sent bs))

abbrev e_shown : Mode → ℕ → List ℕ → List ℕ
e_shown mode d bs = shown_in example mode d (quietly (sent bs))

-- What domain 0 is shown of E in `windows`: thread 1 at clocks 4, 7 and 8.
abbrev seen_below : List ℕ
seen_below = joined (replicate 4 gap ++ (seen 1 ∷ gap ∷ gap ∷ seen 1 ∷ seen 1 ∷ gap ∷ []))

-- K-2's ten answers; and those where thread 1 is never walked.
abbrev k_2 : List ℕ
k_2 = joined (ran 0 ∷ (replicate 3 (idle_for 0) ++ (replicate 3 (ran 1) ++ replicate 3 idle)))

abbrev k_2_alone : List ℕ
k_2_alone = joined (ran 0 ∷ (replicate 3 (idle_for 0) ++ replicate 6 idle))

-- 64 windows of the longest length, all of domain d but window 26, which is of domain e.
abbrev longest : ℕ → ℕ → Mode
longest d e = in_frame (replicate 26 (window d 60000) ++ (window e 60000 ∷ replicate 37 (window d 60000)))

-- A state that fits E; one with thread 0's rest above its W of 4; and each at the last clock.
abbrev some : State
some = at 3 (left 2 1 true 1 ∷ left 1 2 false 2 ∷ [])

abbrev misfit : State
misfit = at 3 (left 5 1 true 1 ∷ left 1 2 false 2 ∷ [])

abbrev last : State
last = at 1000000000 (left 2 1 true 1 ∷ left 1 2 false 2 ∷ [])

abbrev misfit_last : State
misfit_last = at 1000000000 (left 5 1 true 1 ∷ left 1 2 false 2 ∷ [])

-- A frame with a window of domain 2, where E has domains 0 and 1.
abbrev bad : Mode
bad = in_frame (window 1 2 ∷ window 2 3 ∷ [])

-- A call that is refused hands back the state that it was given.
abbrev refusal : ℕ → Table → Mode → State → ℕ → List ℕ → Entry
refusal why t mode s mask bs = record { computed = call_in t mode s mask bs; by_hand = gives (refused_with why) s }

-- Nothing is wrong but the frame.
abbrev refusal_19 : Mode → Entry
refusal_19 mode = refusal 19 example mode some 0 (1 ∷ 1 ∷ [])

abbrev known : List Entry
known =
    -- in a window of domain 1 thread 0 is walked, and runs; thread 1, outside it, is released all the same
    record { computed = windowed example (at 0 []) (1 ∷ 1 ∷ []); by_hand = gives (ran 0) (at 1 (left 3 1 false 1 ∷ left 3 3 false 0 ∷ [])) }
    -- thread 0 has no rest, and thread 1 is not walked: idle on nobody's account, and thread 1 keeps its rest
    ∷ record {
      computed = windowed example (at 1 (left 0 1 false 1 ∷ left 3 3 false 0 ∷ [])) (1 ∷ 1 ∷ []);
      by_hand = gives idle (at 2 (left 0 1 false 1 ∷ left 3 3 false 0 ∷ []));
    }
    -- without a frame it runs there
    ∷ record {
      computed = call example (at 1 (left 0 1 false 1 ∷ left 3 3 false 0 ∷ [])) (1 ∷ 1 ∷ []);
      by_hand = gives (ran 1) (at 2 (left 0 1 false 1 ∷ left 2 2 false 1 ∷ []));
    }
    -- in a window of domain 0, which may flow to both, it runs where thread 0 has no rest
    ∷ record {
      computed = windowed example (at 2 (left 0 1 false 1 ∷ left 3 3 false 0 ∷ [])) (1 ∷ 1 ∷ []);
      by_hand = gives (ran 1) (at 3 (left 0 1 false 1 ∷ left 2 2 false 1 ∷ []));
    }
    -- by priority: thread 0 is first; it runs, or it is marked and waits
    ∷ record {
      computed = windowed example (at 2 (left 2 1 false 1 ∷ left 3 3 false 0 ∷ [])) (1 ∷ 1 ∷ []);
      by_hand = gives (ran 0) (at 3 (left 1 0 false 2 ∷ left 3 3 false 0 ∷ []));
    }
    ∷ record {
      computed = windowed example (at 2 (left 2 1 false 1 ∷ left 3 3 false 0 ∷ [])) (0 ∷ 1 ∷ []);
      by_hand = gives (idle_for 0) (at 3 (left 1 1 false 1 ∷ left 3 3 false 0 ∷ []));
    }
    -- clock 1 is the last of a window, 2 the first of the next, 4 the last of the frame, and 5 the first of its repetition
    ∷ record { computed = asking windows 1; by_hand = outside 2 }
    ∷ record { computed = asking windows 2; by_hand = inside 3 }
    ∷ record { computed = asking windows 4; by_hand = inside 5 }
    ∷ record { computed = asking windows 5; by_hand = outside 6 }
    -- so in the repetition: 6, 7 and 9; and in a later one, where 10,001 is 1 and 10,002 is 2 steps behind its start
    ∷ record { computed = asking windows 6; by_hand = outside 7 }
    ∷ record { computed = asking windows 7; by_hand = inside 8 }
    ∷ record { computed = asking windows 9; by_hand = inside 10 }
    ∷ record { computed = asking windows 10001; by_hand = outside 10002 }
    ∷ record { computed = asking windows 10002; by_hand = inside 10003 }
    -- windows of domains 1, 0 and 1 again: at the frame's end the last and the first of them stand side by side, at clocks 3 and 4
    ∷ record { computed = asking (in_frame (window 1 1 ∷ window 0 2 ∷ window 1 1 ∷ [])) 2; by_hand = inside 3 }
    ∷ record { computed = asking (in_frame (window 1 1 ∷ window 0 2 ∷ window 1 1 ∷ [])) 3; by_hand = outside 4 }
    ∷ record { computed = asking (in_frame (window 1 1 ∷ window 0 2 ∷ window 1 1 ∷ [])) 4; by_hand = outside 5 }
    ∷ record { computed = asking (in_frame (window 1 1 ∷ window 0 2 ∷ window 1 1 ∷ [])) 5; by_hand = inside 6 }
    -- a finish byte from outside is not heard, whether thread 0 runs or nobody is chosen
    ∷ record {
      computed = windowed example (at 1 (left 3 1 false 1 ∷ left 3 3 false 0 ∷ [])) (1 ∷ 2 ∷ []);
      by_hand = gives (ran 0) (at 2 (left 2 0 false 2 ∷ left 3 3 false 0 ∷ []));
    }
    ∷ record {
      computed = windowed example (at 6 (left 0 1 false 1 ∷ left 3 3 false 0 ∷ [])) (1 ∷ 2 ∷ []);
      by_hand = gives idle (at 7 (left 0 1 false 1 ∷ left 3 3 false 0 ∷ []));
    }
    -- in a window of domain 0 it is: thread 1 is marked as finished, and pays
    ∷ record {
      computed = windowed example (at 7 (left 0 1 false 1 ∷ left 3 3 false 0 ∷ [])) (1 ∷ 2 ∷ []);
      by_hand = gives idle (at 8 (left 0 1 false 1 ∷ left 2 3 true 0 ∷ []));
    }
    -- a finish mark from before stays while its thread is outside
    ∷ record {
      computed = windowed example (at 5 (left 0 1 false 1 ∷ left 2 2 true 1 ∷ [])) (1 ∷ 1 ∷ []);
      by_hand = gives idle (at 6 (left 0 1 false 1 ∷ left 2 2 true 1 ∷ []));
    }
    -- clock 10 is phase 0, in a window of domain 1: thread 1, outside, is set to W and W - B all the same, and its finish mark is cleared
    ∷ record {
      computed = windowed example (at 10 (left 1 0 true 4 ∷ left 1 0 true 3 ∷ [])) (1 ∷ 1 ∷ []);
      by_hand = gives (ran 0) (at 11 (left 3 1 false 5 ∷ left 3 3 false 3 ∷ []));
    }
    -- phases count from O, outside too: thread 1 with O 1 has none at clock 0, and phase 0 at clock 1
    ∷ record {
      computed = windowed (with_lower (task 0 20 10 1 3 10 0)) (at 0 []) (1 ∷ 1 ∷ []);
      by_hand = gives (ran 0) (at 1 (left 3 1 false 1 ∷ []));
    }
    ∷ record {
      computed = windowed (with_lower (task 0 20 10 1 3 10 0)) (at 1 (left 3 1 false 1 ∷ [])) (1 ∷ 1 ∷ []);
      by_hand = gives (ran 0) (at 2 (left 2 0 false 2 ∷ left 3 3 false 0 ∷ []));
    }
    -- thread 1 with D 6, outside at clocks 5 and 6: phase 5 leaves its rests, phase 6 cuts both and leaves its finish mark
    ∷ record {
      computed = windowed (with_lower (task 0 20 10 0 3 6 0)) (at 5 (left 0 1 false 1 ∷ left 2 2 true 1 ∷ [])) (1 ∷ 1 ∷ []);
      by_hand = gives idle (at 6 (left 0 1 false 1 ∷ left 2 2 true 1 ∷ []));
    }
    ∷ record {
      computed = windowed (with_lower (task 0 20 10 0 3 6 0)) (at 6 (left 0 1 false 1 ∷ left 2 2 true 1 ∷ [])) (1 ∷ 1 ∷ []);
      by_hand = gives idle (at 7 (left 0 1 false 1 ∷ left 0 0 true 1 ∷ []));
    }
    -- marks are the whole table's: thread 0, alone in its window, is marked for thread 1, so it pays and the processor idles on its account
    ∷ record { computed = windowed example (at 0 []) (0 ∷ 1 ∷ []); by_hand = gives (idle_for 0) (at 1 (left 3 2 false 0 ∷ left 3 3 false 0 ∷ [])) }
    ∷ record { computed = windowed example (at 0 []) (2 ∷ 1 ∷ []); by_hand = gives (idle_for 0) (at 1 (left 3 2 true 0 ∷ left 3 3 false 0 ∷ [])) }
    ∷ record {
      computed = windowed example (at 1 (left 3 0 false 1 ∷ left 3 3 false 0 ∷ [])) (1 ∷ 1 ∷ []);
      by_hand = gives (idle_for 0) (at 2 (left 2 0 false 1 ∷ left 3 3 false 0 ∷ []));
    }
    -- its time is not handed down to thread 1 of its own domain, either, since both are marked for thread 2, outside
    ∷ record {
      computed = windowed two_above (at 0 []) (0 ∷ 1 ∷ 1 ∷ []);
      by_hand = gives (idle_for 0) (at 1 (left 3 2 false 0 ∷ left 2 2 false 0 ∷ left 3 3 false 0 ∷ []));
    }
    ∷ record {
      computed = windowed two_above (at 1 (left 0 1 false 1 ∷ left 2 2 false 0 ∷ left 3 3 false 0 ∷ [])) (1 ∷ 0 ∷ 1 ∷ []);
      by_hand = gives (idle_for 1) (at 2 (left 0 1 false 1 ∷ left 1 2 false 0 ∷ left 3 3 false 0 ∷ []));
    }
    -- where domain 1 may flow to 0 as well, both threads are in its window and none is marked: the time is handed down
    ∷ record { computed = windowed both_ways (at 0 []) (0 ∷ 1 ∷ []); by_hand = gives (ran 1) (at 1 (left 3 2 false 0 ∷ left 2 2 false 1 ∷ [])) }
    ∷ record { computed = windowed both_ways (at 0 []) (0 ∷ 0 ∷ []); by_hand = gives idle (at 1 (left 3 2 false 0 ∷ left 2 3 false 0 ∷ [])) }
    -- a thread outside is passed though it has the highest priority: thread 0 of domain 0, at clock 0; at clock 2 it runs
    ∷ record {
      computed = windowed (with_threads (top ∷ upper ∷ lower ∷ [])) (at 0 []) (1 ∷ 1 ∷ 1 ∷ []);
      by_hand = gives (ran 1) (at 1 (left 2 2 false 0 ∷ left 3 1 false 1 ∷ left 3 3 false 0 ∷ []));
    }
    ∷ record {
      computed = windowed (with_threads (top ∷ upper ∷ lower ∷ [])) (at 2 (left 2 2 false 0 ∷ left 2 0 false 2 ∷ left 3 3 false 0 ∷ [])) (1 ∷ 1 ∷ 1 ∷ []);
      by_hand = gives (ran 0) (at 3 (left 1 1 false 1 ∷ left 2 0 false 2 ∷ left 3 3 false 0 ∷ []));
    }
    -- E with its threads exchanged: by priority and not in table order; thread 0 is the one outside
    ∷ record {
      computed = windowed exchanged (at 2 (left 3 3 false 0 ∷ left 2 1 false 1 ∷ [])) (1 ∷ 1 ∷ []);
      by_hand = gives (ran 1) (at 3 (left 3 3 false 0 ∷ left 1 0 false 2 ∷ []));
    }
    ∷ record {
      computed = windowed exchanged (at 1 (left 3 3 false 0 ∷ left 0 1 false 1 ∷ [])) (1 ∷ 1 ∷ []);
      by_hand = gives idle (at 2 (left 3 3 false 0 ∷ left 0 1 false 1 ∷ []));
    }
    -- a window of domain 2, which has no thread and may flow to none: idle on nobody's account, no byte is heard, and both are released
    ∷ record {
      computed = call_in (and_a_third (upper ∷ lower ∷ [])) in_three (at 0 []) 0 (1 ∷ 1 ∷ []);
      by_hand = gives idle (at 1 (left 4 2 false 0 ∷ left 3 3 false 0 ∷ []));
    }
    ∷ record {
      computed = call_in (and_a_third (upper ∷ lower ∷ [])) in_three (at 0 []) 0 (2 ∷ 2 ∷ []);
      by_hand = gives idle (at 1 (left 4 2 false 0 ∷ left 3 3 false 0 ∷ []));
    }
    -- thread 0, outside a window of domain 2, is marked and waits, but holds nobody up and pays nothing: thread 1 runs
    ∷ record {
      computed = call_in apart in_three (at 0 []) 0 (0 ∷ 1 ∷ 1 ∷ []);
      by_hand = gives (ran 1) (at 1 (left 4 2 false 0 ∷ left 1 1 false 1 ∷ left 3 3 false 0 ∷ []));
    }
    -- thread 1 waits there, marked for thread 2, outside
    ∷ record {
      computed = call_in apart in_three (at 0 []) 0 (1 ∷ 0 ∷ 1 ∷ []);
      by_hand = gives (idle_for 1) (at 1 (left 4 2 false 0 ∷ left 1 2 false 0 ∷ left 3 3 false 0 ∷ []));
    }
    -- clock 1, a window of domain 1: thread 0 alone; clock 2, a window of domain 0: threads 0 and 2, though thread 1 stands between them
    ∷ record {
      computed = call_in apart in_three (at 1 (left 0 1 false 1 ∷ left 2 2 false 0 ∷ left 3 3 false 0 ∷ [])) 0 (1 ∷ 1 ∷ 1 ∷ []);
      by_hand = gives idle (at 2 (left 0 1 false 1 ∷ left 2 2 false 0 ∷ left 3 3 false 0 ∷ []));
    }
    ∷ record {
      computed = call_in apart in_three (at 2 (left 0 1 false 1 ∷ left 2 2 false 0 ∷ left 3 3 false 0 ∷ [])) 0 (1 ∷ 1 ∷ 1 ∷ []);
      by_hand = gives (ran 2) (at 3 (left 0 1 false 1 ∷ left 2 2 false 0 ∷ left 2 2 false 1 ∷ []));
    }
    -- an event releases thread 1 outside its window, whether thread 0 runs or nobody is chosen; one step later one step has passed
    ∷ record {
      computed = call_in eventful windows (at 0 (no_progress ∷ left_since 0 0 false 0 10 ∷ [])) 2 (1 ∷ 1 ∷ []);
      by_hand = gives (ran 0) (at 1 (left 3 1 false 1 ∷ left_since 3 3 false 0 1 ∷ []));
    }
    ∷ record {
      computed = call_in eventful windows (at 1 (left 0 1 false 1 ∷ left_since 0 0 false 0 10 ∷ [])) 2 (1 ∷ 1 ∷ []);
      by_hand = gives idle (at 2 (left 0 1 false 1 ∷ left_since 3 3 false 0 1 ∷ []));
    }
    -- its steps since release go on outside, with an early event, which is lost, or without one, and stop at P
    ∷ record {
      computed = call_in eventful windows (at 6 (left 0 1 false 1 ∷ left_since 3 3 false 0 5 ∷ [])) 0 (1 ∷ 1 ∷ []);
      by_hand = gives idle (at 7 (left 0 1 false 1 ∷ left_since 3 3 false 0 6 ∷ []));
    }
    ∷ record {
      computed = call_in eventful windows (at 6 (left 0 1 false 1 ∷ left_since 3 3 false 0 5 ∷ [])) 2 (1 ∷ 1 ∷ []);
      by_hand = gives idle (at 7 (left 0 1 false 1 ∷ left_since 3 3 false 0 6 ∷ []));
    }
    ∷ record {
      computed = call_in eventful windows (at 6 (left 0 1 false 1 ∷ left_since 0 0 false 0 10 ∷ [])) 0 (1 ∷ 1 ∷ []);
      by_hand = gives idle (at 7 (left 0 1 false 1 ∷ left_since 0 0 false 0 10 ∷ []));
    }
    -- 10 steps after its release, outside at clock 16: it is cut, its D being 10; or an event refills it
    ∷ record {
      computed = call_in eventful windows (at 16 (left 0 1 false 1 ∷ left_since 2 1 true 1 10 ∷ [])) 0 (1 ∷ 1 ∷ []);
      by_hand = gives idle (at 17 (left 0 1 false 1 ∷ left_since 0 0 true 1 10 ∷ []));
    }
    ∷ record {
      computed = call_in eventful windows (at 16 (left 0 1 false 1 ∷ left_since 2 1 true 1 10 ∷ [])) 2 (1 ∷ 1 ∷ []);
      by_hand = gives idle (at 17 (left 0 1 false 1 ∷ left_since 3 3 false 1 1 ∷ []));
    }
    -- with a D of 5 it is cut 5 steps after its release, outside
    ∷ record {
      computed = call_in (in_version 2 (with_lower (event 0 20 10 3 5 0))) windows (at 6 (left 0 1 false 1 ∷ left_since 3 3 false 0 5 ∷ [])) 0 (1 ∷ 1 ∷ []);
      by_hand = gives idle (at 7 (left 0 1 false 1 ∷ left_since 0 0 false 0 6 ∷ []));
    }
    -- a run with an event at clock 0: thread 0 spends clocks 0 to 3, thread 1 has 4, 7 and 8, and at 5, 6 and 9 nobody is chosen
    ∷ record {
      computed = answers_in eventful windows (map (with_mask (1 ∷ 1 ∷ [])) (2 ∷ replicate 9 0));
      by_hand = joined (ran 0 ∷ ran 0 ∷ idle_for 0 ∷ idle_for 0 ∷ ran 1 ∷ idle ∷ idle ∷ ran 1 ∷ ran 1 ∷ idle ∷ []);
    }
    ∷ record {
      computed = state_in eventful windows (map (with_mask (1 ∷ 1 ∷ [])) (2 ∷ replicate 9 0));
      by_hand = state (at 10 (left 0 0 false 2 ∷ left_since 0 0 false 3 10 ∷ []));
    }
    -- an event at clock 5, outside: thread 1 has 7, 8 and 9
    ∷ record {
      computed = answers_in eventful windows (map (with_mask (1 ∷ 1 ∷ [])) (replicate 5 0 ++ (2 ∷ replicate 4 0)));
      by_hand = joined (ran 0 ∷ ran 0 ∷ idle_for 0 ∷ idle_for 0 ∷ idle ∷ idle ∷ idle ∷ ran 1 ∷ ran 1 ∷ ran 1 ∷ []);
    }
    -- K-2's bytes: thread 0 spends clocks 0 to 3, in either window, thread 1 has 4, 7 and 8
    ∷ record {
      computed = e_answers windows waiting;
      by_hand = joined (ran 0 ∷ idle_for 0 ∷ idle_for 0 ∷ idle_for 0 ∷ ran 1 ∷ idle ∷ idle ∷ ran 1 ∷ ran 1 ∷ idle ∷ []);
    }
    ∷ record { computed = e_state windows waiting; by_hand = state (at 10 (left 0 1 true 1 ∷ left 0 0 false 3 ∷ [])) }
    -- K-3's: it may run two of them, and domain 0 is shown the same
    ∷ record {
      computed = e_answers windows (replicate 10 1);
      by_hand = joined (ran 0 ∷ ran 0 ∷ idle_for 0 ∷ idle_for 0 ∷ ran 1 ∷ idle ∷ idle ∷ ran 1 ∷ ran 1 ∷ idle ∷ []);
    }
    ∷ record { computed = e_state windows (replicate 10 1); by_hand = state (at 10 (left 0 0 false 2 ∷ left 0 0 false 3 ∷ [])) }
    ∷ record { computed = e_shown windows 0 waiting; by_hand = seen_below }
    ∷ record { computed = e_shown windows 0 (replicate 10 1); by_hand = seen_below }
    -- two steps of domain 0, then three of domain 1: thread 1 has 5 and 6 only; the step that it missed is not added at its release
    ∷ record {
      computed = e_answers (in_frame (window 0 2 ∷ window 1 3 ∷ [])) (replicate 10 1);
      by_hand = joined (ran 0 ∷ ran 0 ∷ idle_for 0 ∷ idle_for 0 ∷ idle ∷ ran 1 ∷ ran 1 ∷ idle ∷ idle ∷ idle ∷ []);
    }
    ∷ record {
      computed = e_state (in_frame (window 0 2 ∷ window 1 3 ∷ [])) (replicate 10 1);
      by_hand = state (at 10 (left 0 0 false 2 ∷ left 1 1 false 2 ∷ []));
    }
    ∷ record {
      computed = e_state (in_frame (window 0 2 ∷ window 1 3 ∷ [])) (replicate 11 1);
      by_hand = state (at 11 (left 3 1 false 3 ∷ left 3 3 false 2 ∷ []));
    }
    -- one window of domain 0, of any length: every thread at every clock, as without a frame
    ∷ record { computed = e_answers (in_frame (window 0 1 ∷ [])) waiting; by_hand = k_2 }
    ∷ record { computed = e_answers (in_frame (window 0 4 ∷ [])) waiting; by_hand = k_2 }
    ∷ record { computed = e_answers (in_frame (window 0 60000 ∷ [])) waiting; by_hand = k_2 }
    -- one of domain 1, of any length: thread 1 never runs and keeps its rest
    ∷ record { computed = e_answers (in_frame (window 1 1 ∷ [])) waiting; by_hand = k_2_alone }
    ∷ record { computed = e_answers (in_frame (window 1 4 ∷ [])) waiting; by_hand = k_2_alone }
    ∷ record { computed = e_answers (in_frame (window 1 60000 ∷ [])) waiting; by_hand = k_2_alone }
    ∷ record { computed = e_state (in_frame (window 1 1 ∷ [])) waiting; by_hand = state (at 10 (left 0 1 true 1 ∷ left 3 3 false 0 ∷ [])) }
    -- 59,999 steps of domain 1 and 60,000 of domain 0: the second begins at clock 59,999, and the frame anew at 119,999
    ∷ record { computed = asking (in_frame (window 1 59999 ∷ window 0 60000 ∷ [])) 59998; by_hand = outside 59999 }
    ∷ record { computed = asking (in_frame (window 1 59999 ∷ window 0 60000 ∷ [])) 59999; by_hand = inside 60000 }
    ∷ record { computed = asking (in_frame (window 1 59999 ∷ window 0 60000 ∷ [])) 119998; by_hand = inside 119999 }
    ∷ record { computed = asking (in_frame (window 1 59999 ∷ window 0 60000 ∷ [])) 119999; by_hand = outside 120000 }
    -- 64 windows of one step, the last of domain 0: clock 63, and 127
    ∷ record { computed = asking (in_frame (replicate 63 (window 1 1) ++ (window 0 1 ∷ []))) 62; by_hand = outside 63 }
    ∷ record { computed = asking (in_frame (replicate 63 (window 1 1) ++ (window 0 1 ∷ []))) 63; by_hand = inside 64 }
    ∷ record { computed = asking (in_frame (replicate 63 (window 1 1) ++ (window 0 1 ∷ []))) 64; by_hand = outside 65 }
    ∷ record { computed = asking (in_frame (replicate 63 (window 1 1) ++ (window 0 1 ∷ []))) 127; by_hand = inside 128 }
    -- clock 999,999,999 steps: 4 steps behind the start of a frame of five, 0 behind that of a frame of three
    ∷ record { computed = asking windows 999999999; by_hand = inside 1000000000 }
    ∷ record { computed = asking (in_frame (window 1 2 ∷ window 0 1 ∷ [])) 999999999; by_hand = outside 1000000000 }
    ∷ record { computed = asking (in_frame (window 0 2 ∷ window 1 1 ∷ [])) 999999999; by_hand = inside 1000000000 }
    -- 1,599,999 behind that of the longest frame, which takes 3,840,000: in window 26, from 1,560,000 on
    ∷ record { computed = asking (longest 1 0) 999999999; by_hand = inside 1000000000 }
    ∷ record { computed = asking (longest 0 1) 999999999; by_hand = outside 1000000000 }
    -- 19 and the state as it was: no window, 65 windows, and 255
    ∷ refusal_19 (in_counted 0 [])
    ∷ refusal_19 (in_counted 0 (window 0 1 ∷ []))
    ∷ refusal_19 (in_counted 65 (replicate 64 (window 0 1)))
    ∷ refusal_19 (in_counted 255 (replicate 64 (window 0 1)))
    -- 19: a window of domain 2 where the table has two, of a domain that no table has, and behind a good window
    ∷ refusal_19 (in_frame (window 2 1 ∷ []))
    ∷ refusal_19 (in_frame (window 255 1 ∷ []))
    ∷ refusal_19 (in_frame (window 0 1 ∷ window 2 1 ∷ []))
    -- 19: a length of 0, of 60,001, of the most that a window has room for, and behind a good window
    ∷ refusal_19 (in_frame (window 0 0 ∷ []))
    ∷ refusal_19 (in_frame (window 0 60001 ∷ []))
    ∷ refusal_19 (in_frame (window 0 65535 ∷ []))
    ∷ refusal_19 (in_frame (window 0 1 ∷ window 0 0 ∷ []))
    ∷ refusal_19 (in_frame (window 0 1 ∷ window 0 60001 ∷ []))
    -- 19: only the last window that is in use, of 64; only the first, in which the clock does not fall; a count of 2 with one window written
    ∷ refusal_19 (in_frame (replicate 63 (window 0 1) ++ (window 2 1 ∷ [])))
    ∷ refusal_19 (in_frame (replicate 63 (window 0 1) ++ (window 0 0 ∷ [])))
    ∷ refusal_19 (in_frame (window 2 1 ∷ window 0 5 ∷ []))
    ∷ refusal_19 (in_counted 2 (window 0 1 ∷ []))
    -- 19: a bad count, domain and length at once
    ∷ refusal_19 (in_counted 65 (window 2 0 ∷ []))
    -- windows past the count are not judged, nor do they take a step: domain 0's single one is followed by two bad ones
    ∷ record { computed = asking (in_counted 1 (window 0 1 ∷ window 2 0 ∷ window 255 65535 ∷ [])) 1; by_hand = inside 2 }
    ∷ record { computed = asking (in_counted 2 (window 1 2 ∷ window 0 3 ∷ window 1 7 ∷ window 2 60001 ∷ [])) 5; by_hand = outside 6 }
    ∷ record { computed = asking (in_counted 2 (window 1 2 ∷ window 0 3 ∷ window 1 7 ∷ window 2 60001 ∷ [])) 9; by_hand = inside 10 }
    -- the other numbers in a good frame: 11, 12, 13, 18 and 14
    ∷ refusal 11 row_too_many windows some 0 (1 ∷ 1 ∷ [])
    ∷ refusal 12 example windows misfit 0 (1 ∷ 1 ∷ [])
    ∷ refusal 13 example windows some 0 (1 ∷ [])
    ∷ refusal 18 example windows some 1 (1 ∷ 1 ∷ [])
    ∷ refusal 14 example windows last 0 (1 ∷ 1 ∷ [])
    -- 12 for a rest of a thread outside, too; 13 asks for a byte of each thread, walked or not
    ∷ refusal 12 example windows (at 1 (left 0 1 false 1 ∷ left 4 3 false 0 ∷ [])) 0 (1 ∷ 1 ∷ [])
    ∷ refusal 13 example windows (at 1 (left 0 1 false 1 ∷ left 3 3 false 0 ∷ [])) 0 (1 ∷ [])
    -- marks over the whole table, across windows: thread 0 is marked for thread 2, which is not walked at clock 0
    ∷ record { computed = answers_in across one_and_nine (quietly (replicate 3 (1 ∷ 1 ∷ 1 ∷ []))); by_hand = joined (ran 0 ∷ ran 1 ∷ ran 2 ∷ []) }
    ∷ record { computed = answers_in across one_and_nine (quietly (replicate 3 (0 ∷ 1 ∷ 1 ∷ []))); by_hand = joined (idle_for 0 ∷ ran 1 ∷ ran 2 ∷ []) }
    -- 11 before 19; 19 before 12, 13, 18 and 14
    ∷ refusal 11 row_too_many bad some 0 (1 ∷ 1 ∷ [])
    ∷ refusal 19 example bad misfit 0 (1 ∷ 1 ∷ [])
    ∷ refusal 19 example bad some 0 (1 ∷ [])
    ∷ refusal 19 example bad some 1 (1 ∷ 1 ∷ [])
    ∷ refusal 19 example bad last 0 (1 ∷ 1 ∷ [])
    -- all faults at once, and all but the table's
    ∷ refusal 11 row_too_many bad misfit_last 1 (1 ∷ [])
    ∷ refusal 19 example bad misfit_last 1 (1 ∷ [])
    -- in a good frame the order behind 19 is 12, 13, 18, 14, each two of them; and 11 comes before them
    ∷ refusal 12 example windows misfit 0 (1 ∷ [])
    ∷ refusal 12 example windows misfit 1 (1 ∷ 1 ∷ [])
    ∷ refusal 12 example windows misfit_last 0 (1 ∷ 1 ∷ [])
    ∷ refusal 13 example windows some 1 (1 ∷ [])
    ∷ refusal 13 example windows last 0 (1 ∷ [])
    ∷ refusal 18 example windows last 1 (1 ∷ 1 ∷ [])
    ∷ refusal 11 row_too_many windows misfit_last 1 (1 ∷ [])
    ∷ []

pub all_frames : Holds known
unfolding steps-opened sight-opened fresh_given same all_same
all_frames = by_numbers known refl

-- And one window of whatever length: at every clock the threads of every domain that its domain may flow to.
pub one-window : (t : Table) (d n c : ℕ) → threads_at t (in_frame (window d n ∷ [])) c ≡ open_to t d (order t)
unfolding Frame-opened threads_at
one-window t d n c =
    let f : Frame = record { count = 1; windows = window d n ∷ replicate 63 no_window } in
    in-both-cases (λ (k : Sought ℕ). open_to t (the-window f (number k)).domain (order t) ≡ open_to t d (order t)) (ltb (c % (0 + n)) (0 + n)) (found 0) nothing refl refl

-- In E's domain 0 these are all threads, as without a frame.
pub one_window_of_0 : (n c : ℕ) → threads_at example (in_frame (window 0 n ∷ [])) c ≡ threads_at example unframed c
unfolding steps-opened
one_window_of_0 n c = one-window example 0 n c
