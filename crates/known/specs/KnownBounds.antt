-- More of document 01 by hand: admission; of Q-4: the prohibition time and the most idle steps; and of Q-14: the counts.
use Rattle.std.specs.Prelude.{ℕ, ◌+◌, refl, List, [], ◌∷◌, replicate}
use Rattle.basis.specs.Search.{listed}
use Rattle.table.specs.declared.Table.{Table}
use Rattle.table.specs.declared.Thread.{Thread}
use Rattle.example.specs.Example.{task, event, in_version, example, upper, lower}
use Rattle.admission.specs.Bounded.{bounding}
use Rattle.admission.specs.Tried.{lengths, count_given}
use Rattle.admission.specs.Admit.{counts_given}
use Rattle.admission.specs.Worst.{worst_given}
use Rattle.admission.specs.Prohibition.{prohibiting}
use Rattle.admission.specs.IdleMost.{idling}
use Rattle.admission.specs.Opened.{opened as admission-opened}
use Rattle.known.specs.Entry.{Entry, Holds, same, all_same, by_numbers, flat, admit_told}
use Rattle.known.specs.Example.{later, lower_with, top, two, with_threads, exchanged, both_ways, short_deadlines, eventful, row_too_many}
use Rattle.known.specs.Runs.{joined}

-- Thread 0 is released by events, P 5 and W 2, above a thread of W 4 and D 10.
abbrev event_above : Table
event_above = in_version 2 (two 3 2 (event 1 30 5 2 5 1) (task 0 20 10 0 4 10 0))

-- What `bound_of`, `prohibition` and `idle_most` tell.
abbrev bound_told : Table → ℕ → List ℕ
bound_told t i = flat (bounding t i)

abbrev prohibition_told : Table → ℕ → List ℕ
prohibition_told t l = flat (prohibiting t l)

abbrev idle_told : Table → ℕ → ℕ → List ℕ
idle_told t h length = flat (idling t h length)

-- E with a period of 25 for thread 1: the planner's case.
abbrev slow : Thread
slow = task 0 20 25 0 3 25 0

abbrev planned : Table
planned = two 3 2 upper slow

-- E with a second thread of domain 1 in between: priority 25, P 20, B 1.
abbrev two_marked : Table
two_marked = with_threads (upper ∷ task 1 25 20 0 2 20 1 ∷ lower ∷ [])

-- Below a thread that takes every step, one with a budget of w and a deadline of 40.
abbrev below_all : ℕ → Table
below_all w = two 3 2 (task 1 30 1 0 1 1 0) (task 0 20 40 0 w 40 0)

abbrev known : List Entry
known =
    -- E's bounds one by one; the bound of a thread with nobody above it is W
    record { computed = joined (bound_told example 0 ∷ bound_told example 1 ∷ []); by_hand = joined ((0 ∷ 4 ∷ []) ∷ (0 ∷ 7 ∷ []) ∷ []) }
    -- thread 1's budget 6 and 7: all bounds, or the first thread that has none and no bounds
    ∷ record { computed = admit_told (two 3 2 upper (lower_with 6)); by_hand = 0 ∷ 4 ∷ 10 ∷ replicate 30 0 }
    ∷ record { computed = admit_told (two 3 2 upper (lower_with 7)); by_hand = 0 ∷ 1 ∷ replicate 32 0 }
    -- over all threads of higher priority, wherever they stand: 2, 2 + 4, 2 + 4 + 3
    ∷ record { computed = admit_told (with_threads (lower ∷ top ∷ upper ∷ [])); by_hand = 0 ∷ 9 ∷ 2 ∷ 6 ∷ replicate 29 0 }
    -- ceil(x / P of h) times W of h: above P 5, W 2, then W 4: 4 + 2 from 4 and 5, 4 + 2 * 2 from 6 on, so 8
    ∷ record { computed = admit_told (two 3 2 (task 1 30 5 0 2 5 1) (task 0 20 10 0 4 10 0)); by_hand = 0 ∷ 2 ∷ 8 ∷ replicate 30 0 }
    -- and with W 3: 3 + 2 at 5, which is once 5
    ∷ record { computed = admit_told (two 3 2 (task 1 30 5 0 2 5 1) (lower_with 3)); by_hand = 0 ∷ 2 ∷ 5 ∷ replicate 30 0 }
    -- from W to D: with D 7 the bound is 7, with D 6 there is none
    ∷ record { computed = bound_told (two 3 2 upper (task 0 20 10 0 3 7 0)) 1; by_hand = 0 ∷ 7 ∷ [] }
    ∷ record { computed = bound_told (two 3 2 upper (task 0 20 10 0 3 6 0)) 1; by_hand = 0 ∷ [] }
    -- an offset changes no bound
    ∷ record { computed = admit_told (two 3 2 later lower); by_hand = 0 ∷ 4 ∷ 7 ∷ replicate 30 0 }
    -- two threads have none: the first in table order, though the other stands above it, and though another stands before it
    ∷ record { computed = admit_told (with_threads (task 0 10 10 0 5 10 0 ∷ lower_with 7 ∷ upper ∷ [])); by_hand = 0 ∷ 0 ∷ replicate 32 0 }
    ∷ record { computed = admit_told (with_threads (upper ∷ lower_with 7 ∷ task 0 10 10 0 5 10 0 ∷ [])); by_hand = 0 ∷ 1 ∷ replicate 32 0 }
    -- the prohibition time of a thread with nobody above it is 0, though it is marked itself
    ∷ record { computed = prohibition_told example 0; by_hand = 0 ∷ 0 ∷ [] }
    -- marked threads only: none in K-4's table, and not one of domain 0 above E's threads, though its share is 2
    ∷ record { computed = prohibition_told both_ways 1; by_hand = 0 ∷ 0 ∷ [] }
    ∷ record { computed = prohibition_told (with_threads (task 0 40 10 0 2 10 2 ∷ upper ∷ lower ∷ [])) 2; by_hand = 0 ∷ 2 ∷ [] }
    -- threads above only, wherever they stand
    ∷ record { computed = joined (prohibition_told exchanged 0 ∷ prohibition_told exchanged 1 ∷ []); by_hand = joined ((0 ∷ 2 ∷ []) ∷ (0 ∷ 0 ∷ []) ∷ []) }
    -- ceil(P of l / P of h) times B of h: P of h is 10, B 2; P of l is 25, the planner's case, then 20, then 5 and 4
    ∷ record { computed = prohibition_told planned 1; by_hand = 0 ∷ 6 ∷ [] }
    ∷ record { computed = prohibition_told (two 3 2 upper (task 0 20 20 0 3 20 0)) 1; by_hand = 0 ∷ 4 ∷ [] }
    ∷ record { computed = joined (prohibition_told (two 3 2 upper (task 0 20 5 0 3 5 0)) 1 ∷ prohibition_told (two 3 2 upper (task 0 20 4 0 3 4 0)) 1 ∷ []); by_hand = joined ((0 ∷ 2 ∷ []) ∷ (0 ∷ 2 ∷ []) ∷ []) }
    -- the sum: 1 * 2 + 1 * 1, and for a P of 25 below both 3 * 2 + 2 * 1
    ∷ record { computed = prohibition_told two_marked 2; by_hand = 0 ∷ 3 ∷ [] }
    ∷ record { computed = prohibition_told (with_threads (upper ∷ task 1 25 20 0 2 20 1 ∷ slow ∷ [])) 2; by_hand = 0 ∷ 8 ∷ [] }
    -- the mark counts, also above a thread that the marked one's domain may flow to: 2 * 2 for its P of 20
    ∷ record { computed = prohibition_told two_marked 1; by_hand = 0 ∷ 4 ∷ [] }
    -- the most idle steps on thread 0's account, P 10 and W 4, in 0, 1, 10, 11, 20 and 25 steps: once, twice, twice, three times, three times, four times W
    ∷ record { computed = joined (idle_told example 0 0 ∷ idle_told example 0 1 ∷ idle_told example 0 10 ∷ idle_told example 0 11 ∷ []); by_hand = joined ((0 ∷ 4 ∷ []) ∷ (0 ∷ 8 ∷ []) ∷ (0 ∷ 8 ∷ []) ∷ (0 ∷ 12 ∷ []) ∷ []) }
    ∷ record { computed = joined (idle_told example 0 20 ∷ idle_told planned 0 25 ∷ []); by_hand = joined ((0 ∷ 12 ∷ []) ∷ (0 ∷ 16 ∷ []) ∷ []) }
    -- an unmarked thread has the figure too, W 3; and so has one that is released by events
    ∷ record { computed = joined (idle_told example 1 10 ∷ idle_told eventful 1 10 ∷ []); by_hand = joined ((0 ∷ 6 ∷ []) ∷ (0 ∷ 6 ∷ []) ∷ []) }
    -- the longest length, of 32 bits: 429,496,730 periods of 10 begin in it
    ∷ record { computed = idle_told example 0 4294967295; by_hand = 0 ∷ 1717986924 ∷ [] }
    -- .. and of a thread that takes every step, P, W and D 1: more than 32 bits hold
    ∷ record { computed = idle_told (below_all 1) 0 4294967295; by_hand = 0 ∷ 4294967296 ∷ [] }
    -- 15: no such thread
    ∷ record { computed = joined (bound_told example 2 ∷ bound_told example 32 ∷ []); by_hand = 15 ∷ 15 ∷ [] }
    ∷ record { computed = joined (prohibition_told example 2 ∷ prohibition_told example 32 ∷ []); by_hand = 15 ∷ 15 ∷ [] }
    ∷ record { computed = joined (idle_told example 2 10 ∷ idle_told example 32 10 ∷ []); by_hand = 15 ∷ 15 ∷ [] }
    -- 11, and before 15
    ∷ record { computed = admit_told row_too_many; by_hand = 11 ∷ replicate 32 0 }
    ∷ record { computed = joined (bound_told row_too_many 1 ∷ bound_told row_too_many 2 ∷ []); by_hand = 11 ∷ 11 ∷ [] }
    ∷ record { computed = joined (prohibition_told row_too_many 1 ∷ prohibition_told row_too_many 2 ∷ []); by_hand = 11 ∷ 11 ∷ [] }
    ∷ record { computed = joined (idle_told row_too_many 1 10 ∷ idle_told row_too_many 2 10 ∷ []); by_hand = 11 ∷ 11 ∷ [] }
    -- the lengths whose demand is worked out: thread 0's budget 4 holds its demand, thread 1 goes from 3 to 3 + 4
    ∷ record { computed = joined (lengths example 0 ∷ lengths example 1 ∷ []); by_hand = joined ((4 ∷ []) ∷ (3 ∷ 7 ∷ []) ∷ []) }
    -- E's counts, of its admission and one by one
    ∷ record { computed = counts_given example; by_hand = 1 ∷ 2 ∷ replicate 30 0 }
    ∷ record { computed = count_given example 0 ∷ count_given example 1 ∷ []; by_hand = 1 ∷ 2 ∷ [] }
    -- thread 1's budget 6: 6 and 10; 7: only 7, since its demand 11 is above D, and the thread without a bound counts too
    ∷ record { computed = counts_given (two 3 2 upper (lower_with 6)); by_hand = 1 ∷ 2 ∷ replicate 30 0 }
    ∷ record { computed = lengths (two 3 2 upper (lower_with 7)) 1; by_hand = 7 ∷ [] }
    ∷ record { computed = counts_given (two 3 2 upper (lower_with 7)); by_hand = 1 ∷ 1 ∷ replicate 30 0 }
    -- the threads in another order: 3 and 9; 2; 4 and 6
    ∷ record { computed = counts_given (with_threads (lower ∷ top ∷ upper ∷ [])); by_hand = 2 ∷ 1 ∷ 2 ∷ replicate 29 0 }
    -- above P 5, W 2: from 4 to 4 + 2, to 4 + 2 * 2, which holds its demand
    ∷ record { computed = lengths (two 3 2 (task 1 30 5 0 2 5 1) (task 0 20 10 0 4 10 0)) 1; by_hand = 4 ∷ 6 ∷ 8 ∷ [] }
    -- D 7 is a length that may be tried, with D 6 the search gives up before 7
    ∷ record { computed = count_given (two 3 2 upper (task 0 20 10 0 3 7 0)) 1 ∷ count_given (two 3 2 upper (task 0 20 10 0 3 6 0)) 1 ∷ []; by_hand = 2 ∷ 1 ∷ [] }
    -- threads behind the first without a bound are not searched, though they have one or have none
    ∷ record { computed = counts_given (with_threads (task 0 10 10 0 5 10 0 ∷ lower_with 7 ∷ upper ∷ [])); by_hand = 1 ∷ replicate 31 0 }
    ∷ record { computed = counts_given (with_threads (upper ∷ lower_with 7 ∷ task 0 10 10 0 5 10 0 ∷ [])); by_hand = 1 ∷ 1 ∷ replicate 30 0 }
    -- D - W + 1 with D well above W: W 1, and each demand is one more than its length, so that all 40 are tried; with W 2 every other one
    ∷ record { computed = lengths (below_all 1) 1; by_hand = listed 40 (λ i. 1 + i) }
    ∷ record { computed = counts_given (below_all 1); by_hand = 1 ∷ 40 ∷ replicate 30 0 }
    ∷ record { computed = counts_given (below_all 2); by_hand = 1 ∷ 20 ∷ replicate 30 0 }
    -- an event thread has a search as others have, and above another it counts by its P: 4, 6, 8
    ∷ record { computed = counts_given eventful; by_hand = 1 ∷ 2 ∷ replicate 30 0 }
    ∷ record { computed = counts_given event_above; by_hand = 1 ∷ 3 ∷ replicate 30 0 }
    ∷ record { computed = lengths event_above 1; by_hand = 4 ∷ 6 ∷ 8 ∷ [] }
    -- where W is D one length is tried, with a bound or without
    ∷ record { computed = counts_given short_deadlines; by_hand = 1 ∷ 1 ∷ replicate 30 0 }
    -- the worst count: 7 and 8 lengths in E, one each where D is W, 1 and 40 below a thread that takes every step
    ∷ record { computed = joined (flat (worst_given example) ∷ flat (worst_given short_deadlines) ∷ flat (worst_given (below_all 1)) ∷ []); by_hand = joined ((0 ∷ 15 ∷ []) ∷ (0 ∷ 2 ∷ []) ∷ (0 ∷ 41 ∷ []) ∷ []) }
    -- on a refusal the counts are 0, and the worst count is refused with 11
    ∷ record { computed = counts_given row_too_many; by_hand = replicate 32 0 }
    ∷ record { computed = count_given row_too_many 1 ∷ count_given example 2 ∷ count_given example 32 ∷ []; by_hand = 0 ∷ 0 ∷ 0 ∷ [] }
    ∷ record { computed = flat (worst_given row_too_many); by_hand = 11 ∷ [] }
    ∷ []

pub all_bounds : Holds known
unfolding admission-opened same all_same
all_bounds = by_numbers known refl
