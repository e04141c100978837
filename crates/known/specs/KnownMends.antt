-- Document 02 on mending a flow policy, by hand: what is told, the 16 rows, and what the lent list then holds.
use Rattle.std.specs.Prelude.{ℕ, ◌+◌, ◌*◌, refl, List, [], ◌∷◌, ◌++◌, map, take, drop, replicate}
use Rattle.mend.specs.Mend.{Outcome, mending}
use Rattle.mend.specs.Opened.{opened as mend-opened}
use Rattle.known.specs.Entry.{Entry, Holds, same, all_same, by_numbers, flat}
use Rattle.known.specs.Runs.{joined}

-- What mending these rows tells, its rows, and a list of n places that held 7 in each.
abbrev all_of : Outcome → List ℕ
all_of o = flat o.told ++ o.rows ++ o.pairs

abbrev mend_told : List ℕ → ℕ → List ℕ
mend_told given n = all_of (mending given (replicate n 7))

-- The pairs from domain a to each of these.
abbrev pairs : ℕ → List ℕ → List ℕ
pairs a bs = map (λ b. 16 * a + b) bs

abbrev domains : List ℕ
domains = 0 ∷ 1 ∷ 2 ∷ 3 ∷ 4 ∷ 5 ∷ 6 ∷ 7 ∷ 8 ∷ 9 ∷ 10 ∷ 11 ∷ 12 ∷ 13 ∷ 14 ∷ 15 ∷ []

-- Each of 16 domains to itself and the next; the last to itself, and in the cycle to the first too.
abbrev up_to_last : List ℕ
up_to_last = 3 ∷ 6 ∷ 12 ∷ 24 ∷ 48 ∷ 96 ∷ 192 ∷ 384 ∷ 768 ∷ 1536 ∷ 3072 ∷ 6144 ∷ 12288 ∷ 24576 ∷ 49152 ∷ []

abbrev known : List Entry
known =
    -- rows 3, 6, 4 of K-8 gain the pair 0 to 2, and the list's second place stays; rows 7, 6, 4 come back
    record { computed = mend_told (3 ∷ 6 ∷ 4 ∷ []) 2; by_hand = 0 ∷ 1 ∷ 7 ∷ 6 ∷ 4 ∷ (replicate 13 0 ++ 2 ∷ 7 ∷ []) }
    ∷ record { computed = mend_told (7 ∷ 6 ∷ 4 ∷ []) 0; by_hand = 0 ∷ 0 ∷ 7 ∷ 6 ∷ 4 ∷ replicate 13 0 }
    -- one place is enough for that pair, and none is too few: 16
    ∷ record { computed = mend_told (3 ∷ 6 ∷ 4 ∷ []) 1; by_hand = 0 ∷ 1 ∷ 7 ∷ 6 ∷ 4 ∷ (replicate 13 0 ++ 2 ∷ []) }
    ∷ record { computed = mend_told (3 ∷ 6 ∷ 4 ∷ []) 0; by_hand = 16 ∷ replicate 16 0 }
    -- the chain of 16 gains 105: from a to each domain from a + 2 on; a row has its own domain and all behind it
    ∷ record {
      computed = mend_told (up_to_last ++ 32768 ∷ []) 106;
      by_hand =
          0 ∷ 105 ∷ 65535 ∷ 65534 ∷ 65532 ∷ 65528 ∷ 65520 ∷ 65504 ∷ 65472 ∷ 65408 ∷ 65280 ∷ 65024 ∷ 64512 ∷ 63488 ∷ 61440 ∷ 57344 ∷ 49152 ∷ 32768
          ∷ (joined (map (λ a. pairs a (drop (a + 2) domains)) domains) ++ 7 ∷ []);
    }
    -- the cycle of 16 gains 224 to its 32, so that all 256 are there: from a to all but a and a + 1, and from 15 to all but 15 and 0
    ∷ record {
      computed = mend_told (up_to_last ++ 32769 ∷ []) 240;
      by_hand =
          0 ∷ 224 ∷ (replicate 16 65535 ++ joined (map (λ a. pairs a (take a domains ++ drop (a + 2) domains)) (take 15 domains))
          ++ pairs 15 (drop 1 (take 15 domains)) ++ replicate 16 7);
    }
    -- 5 for no row and for 17
    ∷ record { computed = joined (mend_told [] 1 ∷ mend_told (replicate 17 65535) 1 ∷ []); by_hand = joined ((5 ∷ (replicate 16 0 ++ 7 ∷ [])) ∷ (5 ∷ (replicate 16 0 ++ 7 ∷ [])) ∷ []) }
    -- 6 with the first row at fault: a bit for domain 2 of two; and two rows that lack their own, with no place for the pairs
    ∷ record { computed = mend_told (1 ∷ 6 ∷ []) 1; by_hand = 6 ∷ 1 ∷ (replicate 16 0 ++ 7 ∷ []) }
    ∷ record { computed = mend_told (3 ∷ 4 ∷ 1 ∷ []) 0; by_hand = 6 ∷ 1 ∷ replicate 16 0 }
    ∷ []

pub all_mends : Holds known
unfolding mend-opened same all_same
all_mends = by_numbers known refl
