-- K-1 to K-10 of document 01, held against the definitions: one list, one claim.
use Rattle.std.specs.Prelude.{ℕ, refl, List, [], ◌∷◌, ◌++◌, false, replicate}
use Rattle.example.specs.Example.{example, upper, waiting}
use Rattle.state.specs.State.{fresh_given}
use Rattle.reader.specs.Opened.{opened as reader-opened}
use Rattle.scheduler.specs.Opened.{opened as steps-opened}
use Rattle.sight.specs.Opened.{opened as sight-opened}
use Rattle.admission.specs.Bounded.{bounding}
use Rattle.admission.specs.Prohibition.{prohibiting}
use Rattle.admission.specs.Opened.{opened as admission-opened}
use Rattle.known.specs.Entry.{Entry, Holds, same, all_same, by_numbers, flat, number_of, gap_of, is_legal, marks_told, admit_told}
use Rattle.known.specs.Example.{lower_with, two, both_ways, short_deadlines}
use Rattle.known.specs.Runs.{ran, idle_for, idle, seen, gap, joined, left, at, state, answers, state_after, shown_to}

-- What E answers in document 01's run.
abbrev waited : List ℕ
waited = joined (ran 0 ∷ idle_for 0 ∷ idle_for 0 ∷ idle_for 0 ∷ ran 1 ∷ ran 1 ∷ ran 1 ∷ idle ∷ idle ∷ idle ∷ [])

-- What domain 0 is shown of it.
abbrev waited_shown : List ℕ
waited_shown = joined (gap ∷ gap ∷ gap ∷ gap ∷ seen 1 ∷ seen 1 ∷ seen 1 ∷ gap ∷ gap ∷ gap ∷ [])

abbrev known : List Entry
known =
    -- K-1: in E thread 0 is marked, for thread 1, and thread 1 is not
    record { computed = marks_told example; by_hand = 0 ∷ 1 ∷ replicate 31 100 }
    -- K-2: E's ten answers
    ∷ record { computed = answers example waiting; by_hand = waited }
    -- K-3: E with thread 0 sending 1 always: T0 twice, I0 twice, T1 three times, idle three times
    ∷ record {
      computed = answers example (replicate 10 1);
      by_hand = joined (replicate 2 (ran 0) ++ (replicate 2 (idle_for 0) ++ (replicate 3 (ran 1) ++ replicate 3 idle)));
    }
    -- K-3: domain 0 is shown what it is shown in K-2
    ∷ record { computed = shown_to example 0 (replicate 10 1); by_hand = waited_shown }
    ∷ record { computed = shown_to example 0 waiting; by_hand = waited_shown }
    -- K-4: E with row 1 as 3 has no marks
    ∷ record { computed = marks_told both_ways; by_hand = 0 ∷ replicate 32 100 }
    -- K-4: T0, T1, T1, T1, then idle six times
    ∷ record { computed = answers both_ways waiting; by_hand = joined (ran 0 ∷ ran 1 ∷ ran 1 ∷ ran 1 ∷ replicate 6 idle) }
    -- K-5: E's bounds are 4 and 7
    ∷ record { computed = admit_told example; by_hand = 0 ∷ 4 ∷ 7 ∷ replicate 30 0 }
    -- K-5: prohibition time of thread 1 is 2
    ∷ record { computed = flat (prohibiting example 1); by_hand = 0 ∷ 2 ∷ [] }
    -- K-6: E with thread 1's budget 6: bound 10
    ∷ record { computed = flat (bounding (two 3 2 upper (lower_with 6)) 1); by_hand = 0 ∷ 10 ∷ [] }
    -- K-6: with 7: none
    ∷ record { computed = flat (bounding (two 3 2 upper (lower_with 7)) 1); by_hand = 0 ∷ [] }
    -- K-7: 128, 60,000 and 65,535
    ∷ record { computed = number_of (0x80 ∷ 0x01 ∷ []); by_hand = 0 ∷ 128 ∷ 2 ∷ [] }
    ∷ record { computed = number_of (0xE0 ∷ 0xD4 ∷ 0x03 ∷ []); by_hand = 0 ∷ 60000 ∷ 3 ∷ [] }
    ∷ record { computed = number_of (0xFF ∷ 0xFF ∷ 0x03 ∷ []); by_hand = 0 ∷ 65535 ∷ 3 ∷ [] }
    -- K-7: `80 00` gives 2, `80 80 04` gives 3
    ∷ record { computed = number_of (0x80 ∷ 0x00 ∷ []); by_hand = 2 ∷ [] }
    ∷ record { computed = number_of (0x80 ∷ 0x80 ∷ 0x04 ∷ []); by_hand = 3 ∷ [] }
    -- K-8: rows 3, 6, 4 give 7 with 0, 1, 2; rows 7, 6, 4 pass
    ∷ record { computed = gap_of (3 ∷ 6 ∷ 4 ∷ []); by_hand = 7 ∷ 0 ∷ 1 ∷ 2 ∷ [] }
    ∷ record { computed = gap_of (7 ∷ 6 ∷ 4 ∷ []); by_hand = 0 ∷ [] }
    -- K-9: its table is legal
    ∷ record { computed = is_legal short_deadlines ∷ []; by_hand = 1 ∷ [] }
    -- K-9: T0, T1, T1, idle
    ∷ record { computed = answers short_deadlines (replicate 4 1); by_hand = joined (ran 0 ∷ ran 1 ∷ ran 1 ∷ idle ∷ []) }
    -- K-9: thread 1 loses its last step: its rest goes from 1 to 0, and its count stays
    ∷ record { computed = state_after short_deadlines (replicate 3 1); by_hand = state (at 3 (left 0 0 false 1 ∷ left 1 1 false 2 ∷ [])) }
    ∷ record { computed = state_after short_deadlines (replicate 4 1); by_hand = state (at 4 (left 0 0 false 1 ∷ left 0 0 false 2 ∷ [])) }
    -- K-10: step bytes 3 and 255 act as 0
    ∷ record { computed = answers example (1 ∷ 3 ∷ 255 ∷ 2 ∷ replicate 6 1); by_hand = waited }
    ∷ []

-- The one claim.
pub all_known : Holds known
unfolding reader-opened steps-opened sight-opened admission-opened fresh_given same all_same
all_known = by_numbers known refl
