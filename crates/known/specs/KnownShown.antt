-- More of document 01 by hand: what a domain is shown.
use Rattle.std.specs.Prelude.{refl, List, [], ◌∷◌, true, false}
use Rattle.example.specs.Example.{example}
use Rattle.state.specs.State.{no_progress, longest_since}
use Rattle.state.specs.declared.State.{State}
use Rattle.walk.specs.declared.Answer.TheVariants.{Ran, IdleFor, Idle}
use Rattle.sight.specs.Opened.{opened as sight-opened}
use Rattle.known.specs.Entry.{Entry, Holds, same, all_same, by_numbers}
use Rattle.known.specs.Example.{row_too_many, eventful}
use Rattle.known.specs.Runs.{seen, gap, not_shown, joined, left, left_since, places, at, each, shown, shown_state}

-- A state that fits E, and one with a rest above its budget.
abbrev some : State
some = at 5 (left 2 1 true 1 ∷ left 1 2 false 2 ∷ [])

abbrev misfit : State
misfit = at 5 (left 5 1 true 1 ∷ left 1 2 false 2 ∷ [])

abbrev known : List Entry
known =
    -- thread i if i ran and i's domain may flow to it: thread 0 of domain 1 is shown to domain 1 only, thread 1 of domain 0 to both
    record { computed = joined (shown example 0 (Ran 0) ∷ shown example 1 (Ran 0) ∷ []); by_hand = joined (gap ∷ seen 0 ∷ []) }
    ∷ record { computed = joined (shown example 0 (Ran 1) ∷ shown example 1 (Ran 1) ∷ []); by_hand = joined (seen 1 ∷ seen 1 ∷ []) }
    -- a gap otherwise: idle for a thread, to its own domain, too, and idle
    ∷ record { computed = joined (shown example 0 (IdleFor 0) ∷ shown example 1 (IdleFor 0) ∷ []); by_hand = joined (gap ∷ gap ∷ []) }
    ∷ record { computed = joined (shown example 0 (IdleFor 1) ∷ shown example 1 (IdleFor 1) ∷ []); by_hand = joined (gap ∷ gap ∷ []) }
    ∷ record { computed = joined (shown example 0 Idle ∷ shown example 1 Idle ∷ []); by_hand = joined (gap ∷ gap ∷ []) }
    -- an answer naming no thread of the table shows a gap: the place past the last thread, the last place, and past the places
    ∷ record { computed = joined (shown example 0 (Ran 2) ∷ shown example 1 (Ran 2) ∷ []); by_hand = joined (gap ∷ gap ∷ []) }
    ∷ record { computed = joined (shown example 0 (Ran 31) ∷ shown example 1 (Ran 32) ∷ shown example 0 (Ran 255) ∷ []); by_hand = joined (gap ∷ gap ∷ gap ∷ []) }
    ∷ record { computed = joined (shown example 0 (IdleFor 2) ∷ shown example 1 (IdleFor 255) ∷ []); by_hand = joined (gap ∷ gap ∷ []) }
    -- 15: no such domain, whatever the answer
    ∷ record { computed = joined (shown example 2 (Ran 1) ∷ shown example 16 Idle ∷ []); by_hand = joined (not_shown 15 ∷ not_shown 15 ∷ []) }
    ∷ record { computed = shown example 2 (Ran 2); by_hand = not_shown 15 }
    -- 11, and before 15
    ∷ record { computed = shown row_too_many 0 (Ran 1); by_hand = not_shown 11 }
    ∷ record { computed = shown row_too_many 2 (Ran 1); by_hand = not_shown 11 }
    -- of the state both rests, the mark and the count of each thread whose domain may flow to it, and zeros for the others
    ∷ record { computed = shown_state example some 0; by_hand = 0 ∷ each (places (no_progress ∷ left 1 2 false 2 ∷ [])) }
    ∷ record { computed = shown_state example some 1; by_hand = 0 ∷ each (places (left 2 1 true 1 ∷ left 1 2 false 2 ∷ [])) }
    -- and 0 for an event thread's steps since release, which follow from the public masks
    ∷ record {
      computed = shown_state eventful (at 5 (left 2 1 true 1 ∷ left_since 1 2 false 2 4 ∷ [])) 0;
      by_hand = 0 ∷ each (places (no_progress ∷ left 1 2 false 2 ∷ []));
    }
    ∷ record {
      computed = shown_state eventful (at 5 (left 2 1 true 1 ∷ left_since 1 2 false 2 4 ∷ [])) 1;
      by_hand = 0 ∷ each (places (left 2 1 true 1 ∷ left 1 2 false 2 ∷ []));
    }
    -- 12: steps since release above P
    ∷ record { computed = shown_state eventful (at 5 (no_progress ∷ left_since 0 0 false 0 11 ∷ [])) 1; by_hand = 12 ∷ each (places []) }
    -- 11, 12, 15, each with zeros
    ∷ record { computed = shown_state row_too_many some 1; by_hand = 11 ∷ each (places []) }
    ∷ record { computed = shown_state example misfit 1; by_hand = 12 ∷ each (places []) }
    ∷ record { computed = shown_state example some 2; by_hand = 15 ∷ each (places []) }
    -- 11 before 12, 12 before 15, 11 before 15; and all three faults
    ∷ record { computed = shown_state row_too_many misfit 1; by_hand = 11 ∷ each (places []) }
    ∷ record { computed = shown_state example misfit 2; by_hand = 12 ∷ each (places []) }
    ∷ record { computed = shown_state row_too_many some 2; by_hand = 11 ∷ each (places []) }
    ∷ record { computed = shown_state row_too_many misfit 2; by_hand = 11 ∷ each (places []) }
    ∷ []

pub all_shown : Holds known
unfolding sight-opened longest_since same all_same
all_shown = by_numbers known refl
