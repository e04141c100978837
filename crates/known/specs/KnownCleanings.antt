-- Document 02 on cleaning the shared cache, by hand: what is told, and what the lent list then holds, three numbers a place. In the story a
-- thread's domain may flow to its own and to those after it, so that each pass back to an earlier thread cleans.
use Rattle.std.specs.Prelude.{ℕ, refl, List, [], ◌∷◌, ◌++◌, map, replicate}
use Rattle.table.specs.declared.Table.{Table}
use Rattle.example.specs.Example.{in_version}
use Rattle.example.specs.Story.{story}
use Rattle.cleaning.specs.declared.Cleaning.{Cleaning}
use Rattle.cleaning.specs.Cleanings.{Outcome, listing}
use Rattle.cleaning.specs.Opened.{opened as cleaning-opened}
use Rattle.known.specs.Entry.{Entry, Holds, same, all_same, by_numbers, flat}
use Rattle.known.specs.Runs.{joined}

abbrev numbers : Cleaning → List ℕ
numbers c = c.step ∷ c.before ∷ c.after ∷ []

abbrev all_of : Outcome → List ℕ
all_of o = flat o.told ++ joined (map numbers o.list)

-- The cleanings of a trace of the story, in a list of n places that held 9 in each.
abbrev list_of : Table → List ℕ → ℕ → List ℕ
list_of t trace n = all_of (listing t trace (replicate n (record { step = 9; before = 9; after = 9 })))

abbrev story_list : List ℕ → ℕ → List ℕ
story_list = list_of story

abbrev pub known : List Entry
known =
    -- on to 1 and to 2 nothing, back to 0 a cleaning, twice; the third place stays
    record { computed = story_list (0 ∷ 1 ∷ 2 ∷ 0 ∷ 1 ∷ 0 ∷ []) 3; by_hand = 0 ∷ 2 ∷ 3 ∷ 2 ∷ 0 ∷ 5 ∷ 1 ∷ 0 ∷ 9 ∷ 9 ∷ 9 ∷ [] }
    -- idle steps, on whosever account, do not clean and do not change who ran last
    ∷ record {
      computed = story_list (2 ∷ 34 ∷ 255 ∷ 33 ∷ 1 ∷ 32 ∷ 2 ∷ 1 ∷ 0 ∷ []) 3;
      by_hand = 0 ∷ 3 ∷ 4 ∷ 2 ∷ 1 ∷ 7 ∷ 2 ∷ 1 ∷ 8 ∷ 1 ∷ 0 ∷ [];
    }
    -- the same thread again, and idle steps alone
    ∷ record { computed = story_list (2 ∷ 255 ∷ 2 ∷ []) 0; by_hand = 0 ∷ 0 ∷ [] }
    ∷ record { computed = story_list (34 ∷ 32 ∷ 255 ∷ []) 0; by_hand = 0 ∷ 0 ∷ [] }
    -- the first trace in two parts: the second begins with 2, which ran last in the first
    ∷ record { computed = story_list (0 ∷ 1 ∷ 2 ∷ []) 0; by_hand = 0 ∷ 0 ∷ [] }
    ∷ record { computed = story_list (2 ∷ 0 ∷ 1 ∷ 0 ∷ []) 2; by_hand = 0 ∷ 2 ∷ 1 ∷ 2 ∷ 0 ∷ 3 ∷ 1 ∷ 0 ∷ [] }
    -- 16 for three cleanings in two places, and the places stay
    ∷ record { computed = story_list (2 ∷ 34 ∷ 255 ∷ 33 ∷ 1 ∷ 32 ∷ 2 ∷ 1 ∷ 0 ∷ []) 2; by_hand = 16 ∷ 9 ∷ 9 ∷ 9 ∷ 9 ∷ 9 ∷ 9 ∷ [] }
    -- 21 for 3, 31, 35 and 254, each before 16
    ∷ record {
      computed = joined (map (λ b. story_list (2 ∷ 0 ∷ b ∷ []) 0) (3 ∷ 31 ∷ 35 ∷ 254 ∷ []));
      by_hand = 21 ∷ 21 ∷ 21 ∷ 21 ∷ [];
    }
    -- 11 before 21
    ∷ record { computed = list_of (in_version 3 story) (3 ∷ []) 1; by_hand = 11 ∷ 9 ∷ 9 ∷ 9 ∷ [] }
    ∷ []

pub all-cleanings : Holds known
unfolding cleaning-opened same all_same
all-cleanings = by_numbers known refl
