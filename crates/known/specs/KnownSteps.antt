-- More of document 01 by hand: single calls of the step, each with the whole state that it hands back, and runs of calls.
use Rattle.std.specs.Prelude.{ℕ, refl, List, [], ◌∷◌, ◌++◌, true, false, replicate}
use Rattle.table.specs.declared.Table.{Table}
use Rattle.example.specs.Example.{example, task, upper, lower}
use Rattle.example.specs.Story.{story}
use Rattle.state.specs.State.{no_progress, fresh_given}
use Rattle.state.specs.declared.State.{State}
use Rattle.scheduler.specs.Opened.{opened as steps-opened}
use Rattle.known.specs.Entry.{Entry, Holds, same, all_same, by_numbers}
use Rattle.known.specs.Example.{later, later_short, lower_with, top, two, with_threads, exchanged, both_ways, short_deadlines, row_too_many}
use Rattle.known.specs.Runs.{ran, idle_for, idle, refused_with, joined, left, at, state, gives, call, first_call, answers, state_after}

-- Thread 0's rest of 5 is above its budget of 4; the same at the last clock; and a state that fits there.
abbrev misfit : State
misfit = at 0 (left 5 0 false 0 ∷ [])

abbrev misfit_last : State
misfit_last = at 1000000000 (left 5 0 false 0 ∷ [])

abbrev last : State
last = at 1000000000 (left 2 1 true 7 ∷ left 1 1 false 9 ∷ [])

-- A call that is refused hands back the state that it was given.
abbrev refusal : ℕ → Table → State → List ℕ → Entry
refusal why t s bs = record { computed = call t s bs; by_hand = gives (refused_with why) s }

abbrev known : List Entry
known =
    -- phase 0 sets the rest to W and the rest of execution to W - B, of a thread below the chosen one, too; a reached thread that runs pays one, is chosen and counted
    record { computed = first_call example (1 ∷ 1 ∷ []); by_hand = gives (ran 0) (at 1 (left 3 1 false 1 ∷ left 3 3 false 0 ∷ [])) }
    -- a marked thread that waits pays one, is chosen and not counted: the processor idles on its account
    ∷ record { computed = first_call example (0 ∷ 1 ∷ []); by_hand = gives (idle_for 0) (at 1 (left 3 2 false 0 ∷ left 3 3 false 0 ∷ [])) }
    -- finish sets the finish mark, and the thread waits by this byte; it pays one, and the rest stays
    ∷ record { computed = first_call example (2 ∷ 1 ∷ []); by_hand = gives (idle_for 0) (at 1 (left 3 2 true 0 ∷ left 3 3 false 0 ∷ [])) }
    -- a thread whose finish mark was set before waits, whatever it sends
    ∷ record {
      computed = call example (at 1 (left 3 2 true 0 ∷ left 3 3 false 0 ∷ [])) (1 ∷ 1 ∷ []);
      by_hand = gives (idle_for 0) (at 2 (left 2 2 true 0 ∷ left 3 3 false 0 ∷ []));
    }
    -- and whatever else it sends, the mark stays
    ∷ record {
      computed = call example (at 1 (left 3 2 true 0 ∷ left 3 3 false 0 ∷ [])) (0 ∷ 1 ∷ []);
      by_hand = gives (idle_for 0) (at 2 (left 2 2 true 0 ∷ left 3 3 false 0 ∷ []));
    }
    -- a finish is heard where no execution is left, too
    ∷ record {
      computed = call example (at 2 (left 2 0 false 2 ∷ left 3 3 false 0 ∷ [])) (2 ∷ 1 ∷ []);
      by_hand = gives (idle_for 0) (at 3 (left 1 0 true 2 ∷ left 3 3 false 0 ∷ []));
    }
    -- bytes 3 and 255 set no mark
    ∷ record { computed = first_call example (3 ∷ 1 ∷ []); by_hand = gives (idle_for 0) (at 1 (left 3 2 false 0 ∷ left 3 3 false 0 ∷ [])) }
    ∷ record { computed = first_call example (255 ∷ 1 ∷ []); by_hand = gives (idle_for 0) (at 1 (left 3 2 false 0 ∷ left 3 3 false 0 ∷ [])) }
    -- and the thread that sent them runs later
    ∷ record { computed = answers example (1 ∷ 3 ∷ 255 ∷ 1 ∷ []); by_hand = joined (ran 0 ∷ idle_for 0 ∷ idle_for 0 ∷ ran 0 ∷ []) }
    ∷ record { computed = answers both_ways (3 ∷ 1 ∷ 255 ∷ 1 ∷ []); by_hand = joined (ran 1 ∷ ran 0 ∷ ran 1 ∷ ran 0 ∷ []) }
    -- threads below the chosen one pay nothing and their bytes are not heard: it runs, or the processor idles on its account
    ∷ record { computed = first_call example (1 ∷ 2 ∷ []); by_hand = gives (ran 0) (at 1 (left 3 1 false 1 ∷ left 3 3 false 0 ∷ [])) }
    ∷ record { computed = first_call example (0 ∷ 2 ∷ []); by_hand = gives (idle_for 0) (at 1 (left 3 2 false 0 ∷ left 3 3 false 0 ∷ [])) }
    -- a thread whose rest is 0 is passed: it does not pay, and its byte is not heard
    ∷ record {
      computed = call example (at 4 (left 0 1 false 4 ∷ left 3 3 false 0 ∷ [])) (2 ∷ 1 ∷ []);
      by_hand = gives (ran 1) (at 5 (left 0 1 false 4 ∷ left 2 2 false 1 ∷ []));
    }
    -- an unmarked thread that waits pays one, and the walk goes on
    ∷ record { computed = first_call both_ways (0 ∷ 1 ∷ []); by_hand = gives (ran 1) (at 1 (left 3 2 false 0 ∷ left 2 2 false 1 ∷ [])) }
    -- an unmarked thread that finishes pays one and keeps the rest, and the walk goes on
    ∷ record { computed = first_call both_ways (2 ∷ 1 ∷ []); by_hand = gives (ran 1) (at 1 (left 3 2 true 0 ∷ left 2 2 false 1 ∷ [])) }
    -- it goes on paying while it waits
    ∷ record {
      computed = call both_ways (at 1 (left 3 2 true 0 ∷ left 2 2 false 1 ∷ [])) (1 ∷ 1 ∷ []);
      by_hand = gives (ran 1) (at 2 (left 2 2 true 0 ∷ left 1 1 false 2 ∷ []));
    }
    -- nobody is chosen: all that were reached have paid, and the processor idles on nobody's account
    ∷ record { computed = first_call both_ways (0 ∷ 0 ∷ []); by_hand = gives idle (at 1 (left 3 2 false 0 ∷ left 2 3 false 0 ∷ [])) }
    ∷ record { computed = first_call both_ways (2 ∷ 2 ∷ []); by_hand = gives idle (at 1 (left 3 2 true 0 ∷ left 2 3 true 0 ∷ [])) }
    ∷ record {
      computed = call example (at 4 (left 0 1 false 4 ∷ left 3 3 false 0 ∷ [])) (1 ∷ 0 ∷ []);
      by_hand = gives idle (at 5 (left 0 1 false 4 ∷ left 2 3 false 0 ∷ []));
    }
    -- an unmarked thread waits, a marked one below it waits: both pay, and the processor idles on the marked one's account
    ∷ record {
      computed = first_call (with_threads (top ∷ upper ∷ lower ∷ [])) (0 ∷ 0 ∷ 1 ∷ []);
      by_hand = gives (idle_for 1) (at 1 (left 1 2 false 0 ∷ left 3 2 false 0 ∷ left 3 3 false 0 ∷ []));
    }
    -- a thread that would run with no execution left waits and pays: marked, the processor idles on its account; else the walk goes on
    ∷ record {
      computed = call example (at 2 (left 2 0 false 2 ∷ left 3 3 false 0 ∷ [])) (1 ∷ 1 ∷ []);
      by_hand = gives (idle_for 0) (at 3 (left 1 0 false 2 ∷ left 3 3 false 0 ∷ []));
    }
    ∷ record {
      computed = call both_ways (at 2 (left 2 0 false 2 ∷ left 3 3 false 0 ∷ [])) (1 ∷ 1 ∷ []);
      by_hand = gives (ran 1) (at 3 (left 1 0 false 2 ∷ left 2 2 false 1 ∷ []));
    }
    -- a thread that waits keeps its execution, which is above its rest then; it still runs only while it has a rest
    ∷ record { computed = state_after example (replicate 3 0); by_hand = state (at 3 (left 1 2 false 0 ∷ left 3 3 false 0 ∷ [])) }
    ∷ record { computed = answers example (0 ∷ 0 ∷ 0 ∷ replicate 7 1); by_hand = joined (replicate 3 (idle_for 0) ++ (ran 0 ∷ (replicate 3 (ran 1) ++ replicate 3 idle))) }
    ∷ record { computed = state_after example (0 ∷ 0 ∷ 0 ∷ 1 ∷ []); by_hand = state (at 4 (left 0 1 false 1 ∷ left 3 3 false 0 ∷ [])) }
    -- a thread with B = W never runs: E with thread 0's share 4
    ∷ record {
      computed = answers (two 3 2 (task 1 30 10 0 4 10 4) lower) (replicate 10 1);
      by_hand = joined (replicate 4 (idle_for 0) ++ (replicate 3 (ran 1) ++ replicate 3 idle));
    }
    -- from the highest priority down, threads in any order
    ∷ record { computed = first_call exchanged (1 ∷ 1 ∷ []); by_hand = gives (ran 1) (at 1 (left 3 3 false 0 ∷ left 3 1 false 1 ∷ [])) }
    ∷ record {
      computed = first_call story (1 ∷ 1 ∷ 1 ∷ []);
      by_hand = gives (ran 2) (at 1 (left 3 3 false 0 ∷ left 2 2 false 0 ∷ left 3 0 false 1 ∷ []));
    }
    -- step bytes stand in table order
    ∷ record { computed = first_call exchanged (1 ∷ 0 ∷ []); by_hand = gives (idle_for 1) (at 1 (left 3 3 false 0 ∷ left 3 2 false 0 ∷ [])) }
    ∷ record { computed = first_call exchanged (0 ∷ 1 ∷ []); by_hand = gives (ran 1) (at 1 (left 3 3 false 0 ∷ left 3 1 false 1 ∷ [])) }
    -- phase 0 sets the rest to W, adds nothing to it, and clears the finish mark; the count stays
    ∷ record {
      computed = call example (at 10 (left 2 0 true 4 ∷ left 1 0 true 3 ∷ [])) (1 ∷ 1 ∷ []);
      by_hand = gives (ran 0) (at 11 (left 3 1 false 5 ∷ left 3 3 false 3 ∷ []));
    }
    -- other phases change nothing: phase 9 with D 10
    ∷ record {
      computed = call example (at 9 (left 2 2 false 4 ∷ left 1 2 true 3 ∷ [])) (1 ∷ 1 ∷ []);
      by_hand = gives (ran 0) (at 10 (left 1 1 false 5 ∷ left 1 2 true 3 ∷ []));
    }
    -- phase D and phase D or more set both rests to 0
    ∷ record {
      computed = call short_deadlines (at 3 (left 1 1 false 1 ∷ left 1 2 false 1 ∷ [])) (1 ∷ 1 ∷ []);
      by_hand = gives idle (at 4 (left 0 0 false 1 ∷ left 0 0 false 1 ∷ []));
    }
    ∷ record {
      computed = call short_deadlines (at 9 (left 1 1 false 1 ∷ left 3 3 false 2 ∷ [])) (1 ∷ 1 ∷ []);
      by_hand = gives idle (at 10 (left 0 0 false 1 ∷ left 0 0 false 2 ∷ []));
    }
    -- at the deadline and after it the finish mark is neither cleared nor set
    ∷ record {
      computed = call short_deadlines (at 3 (left 0 0 true 1 ∷ left 1 1 false 2 ∷ [])) (1 ∷ 1 ∷ []);
      by_hand = gives idle (at 4 (left 0 0 true 1 ∷ left 0 0 false 2 ∷ []));
    }
    ∷ record {
      computed = call short_deadlines (at 3 (left 0 1 false 1 ∷ left 1 3 true 1 ∷ [])) (1 ∷ 1 ∷ []);
      by_hand = gives idle (at 4 (left 0 0 false 1 ∷ left 0 0 true 1 ∷ []));
    }
    -- phases count from O: with O 3, clock 13 is phase 0 and clock 10 is phase 7
    ∷ record {
      computed = call (two 3 2 later lower) (at 13 (left 0 0 true 3 ∷ left 2 1 false 3 ∷ [])) (1 ∷ 1 ∷ []);
      by_hand = gives (ran 0) (at 14 (left 3 1 false 4 ∷ left 2 1 false 3 ∷ []));
    }
    ∷ record {
      computed = call (two 3 2 later lower) (at 10 (left 1 1 true 3 ∷ left 0 0 false 3 ∷ [])) (1 ∷ 1 ∷ []);
      by_hand = gives (idle_for 0) (at 11 (left 0 1 true 3 ∷ left 3 3 false 3 ∷ []));
    }
    -- with O 3 and D 5, clock 5 is phase 2 and clock 8 is phase 5
    ∷ record {
      computed = call (two 3 2 later_short lower) (at 5 (left 2 1 false 1 ∷ left 1 1 false 1 ∷ [])) (1 ∷ 1 ∷ []);
      by_hand = gives (ran 0) (at 6 (left 1 0 false 2 ∷ left 1 1 false 1 ∷ []));
    }
    ∷ record {
      computed = call (two 3 2 later_short lower) (at 8 (left 2 1 false 1 ∷ left 1 1 false 1 ∷ [])) (1 ∷ 1 ∷ []);
      by_hand = gives (ran 1) (at 9 (left 0 0 false 1 ∷ left 0 0 false 2 ∷ []));
    }
    -- at clock O a thread is released
    ∷ record {
      computed = call (two 3 2 later lower) (at 3 (left 0 1 true 1 ∷ left 2 2 false 1 ∷ [])) (1 ∷ 1 ∷ []);
      by_hand = gives (ran 0) (at 4 (left 3 1 false 2 ∷ left 2 2 false 1 ∷ []));
    }
    -- before O nothing happens: a thread from a fresh start has no rest
    ∷ record { computed = first_call (two 3 2 later lower) (1 ∷ 1 ∷ []); by_hand = gives (ran 1) (at 1 (left 0 0 false 0 ∷ left 2 2 false 1 ∷ [])) }
    -- a state of another table that fits is accepted: E's after its first call, and before O nothing happens to its rest
    ∷ record {
      computed = call (two 3 2 later lower) (at 1 (left 3 1 false 1 ∷ left 3 3 false 0 ∷ [])) (1 ∷ 1 ∷ []);
      by_hand = gives (ran 0) (at 2 (left 2 0 false 2 ∷ left 3 3 false 0 ∷ []));
    }
    -- nor to its mark, though the phase, were there one, would be behind D
    ∷ record {
      computed = call (two 3 2 later_short lower) (at 2 (left 2 2 true 1 ∷ left 1 0 false 1 ∷ [])) (1 ∷ 1 ∷ []);
      by_hand = gives (idle_for 0) (at 3 (left 1 2 true 1 ∷ left 1 0 false 1 ∷ []));
    }
    -- a run over a release: thread 0 finishes with a rest left and waits until its next release, which clears the mark
    ∷ record {
      computed = answers example (1 ∷ 2 ∷ replicate 10 1);
      by_hand = joined (ran 0 ∷ idle_for 0 ∷ idle_for 0 ∷ idle_for 0 ∷ ran 1 ∷ ran 1 ∷ ran 1 ∷ idle ∷ idle ∷ idle ∷ ran 0 ∷ ran 0 ∷ []);
    }
    -- a table that is not admitted may still run
    ∷ record {
      computed = first_call (two 3 2 upper (lower_with 7)) (1 ∷ 1 ∷ []);
      by_hand = gives (ran 0) (at 1 (left 3 1 false 1 ∷ left 7 7 false 0 ∷ []));
    }
    -- a state fits with each rest at W, each rest of execution at W - B and each count at the clock
    ∷ record {
      computed = call example (at 1 (left 4 2 false 1 ∷ left 3 3 true 1 ∷ [])) (1 ∷ 1 ∷ []);
      by_hand = gives (ran 0) (at 2 (left 3 1 false 2 ∷ left 3 3 true 1 ∷ []));
    }
    -- 12 and the state as it was: thread 1's rest above its W of 3, its count above the clock, a clock above 1,000,000,000
    ∷ refusal 12 example (at 1 (left 4 0 false 0 ∷ left 4 0 false 0 ∷ [])) (1 ∷ 1 ∷ [])
    ∷ refusal 12 example (at 1 (left 0 0 false 0 ∷ left 0 0 false 2 ∷ [])) (1 ∷ 1 ∷ [])
    ∷ refusal 12 example (at 1000000001 []) (1 ∷ 1 ∷ [])
    -- 12: thread 0's rest of execution above its W - B of 2, though not above W, and thread 1's above its 3
    ∷ refusal 12 example (at 1 (left 4 3 false 0 ∷ left 3 3 false 0 ∷ [])) (1 ∷ 1 ∷ [])
    ∷ refusal 12 example (at 1 (left 4 2 false 0 ∷ left 3 4 false 0 ∷ [])) (1 ∷ 1 ∷ [])
    -- 12: the place past the last thread has a rest, a rest of execution, a finish mark or a count; and the last place of all a finish mark
    ∷ refusal 12 example (at 1 (no_progress ∷ no_progress ∷ left 1 0 false 0 ∷ [])) (1 ∷ 1 ∷ [])
    ∷ refusal 12 example (at 1 (no_progress ∷ no_progress ∷ left 0 1 false 0 ∷ [])) (1 ∷ 1 ∷ [])
    ∷ refusal 12 example (at 1 (no_progress ∷ no_progress ∷ left 0 0 true 0 ∷ [])) (1 ∷ 1 ∷ [])
    ∷ refusal 12 example (at 1 (no_progress ∷ no_progress ∷ left 0 0 false 1 ∷ [])) (1 ∷ 1 ∷ [])
    ∷ refusal 12 example (at 1 (replicate 31 no_progress ++ (left 0 0 true 0 ∷ []))) (1 ∷ 1 ∷ [])
    -- 13: a byte too few, one too many, and none
    ∷ refusal 13 example (at 0 []) (1 ∷ [])
    ∷ refusal 13 example (at 0 []) (1 ∷ 1 ∷ 1 ∷ [])
    ∷ refusal 13 example (at 0 []) []
    -- K-11: clock 999,999,999 steps, to the last clock; 1,000,000,000 gives 14
    ∷ record {
      computed = call example (at 999999999 (left 1 1 false 7 ∷ left 1 1 false 999999999 ∷ [])) (1 ∷ 1 ∷ []);
      by_hand = gives (ran 0) (at 1000000000 (left 0 0 false 8 ∷ left 1 1 false 999999999 ∷ []));
    }
    ∷ refusal 14 example last (1 ∷ 1 ∷ [])
    -- the order 11, 12, 13, 14, with the state as it was: 11 before 12, 12 before 13, 13 before 14
    ∷ refusal 11 row_too_many misfit (1 ∷ 1 ∷ [])
    ∷ refusal 12 example misfit (1 ∷ [])
    ∷ refusal 13 example last (1 ∷ [])
    -- 11 before 13 and 14, 12 before 14; and all four faults
    ∷ refusal 11 row_too_many (at 0 []) (1 ∷ [])
    ∷ refusal 11 row_too_many last (1 ∷ 1 ∷ [])
    ∷ refusal 12 example misfit_last (1 ∷ 1 ∷ [])
    ∷ refusal 11 row_too_many misfit_last (1 ∷ [])
    ∷ []

pub all-steps : Holds known
unfolding steps-opened fresh_given same all_same
all-steps = by_numbers known refl
