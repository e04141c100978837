-- What a domain is shown of a block: its number and place, each byte of the trace as its answer is shown, the record's other bytes, and the threads
-- of the state handed back.
use Prim.Native.Nat.{ℕ, ◌+◌, ◌<◌}
use mathlib.Core.Path.{◌≡◌, refl, ◌∙◌, ap, ap₂}
use mathlib.Core.List.{List, [], ◌∷◌, ◌++◌, map}
use lib.ListN.{length, take, drop}
use Rattle.basis.specs.Told.{answered}
use Rattle.table.specs.Legal.{Legal}
use Rattle.table.specs.declared.Table.{Table}
use Rattle.table.proofs.LegalLaws.{legal_complete}
use Rattle.state.specs.State.{Fits}
use Rattle.state.specs.declared.State.{State}
use Rattle.frame.specs.Mode.{Mode}
use Rattle.scheduler.specs.Taken.{Taken, answer_of}
use Rattle.scheduler.specs.Calls.{calls}
use Rattle.sight.specs.Shown.{view, seen_threads}
use Rattle.isolation.proofs.Isolation.{state-shown}
use Rattle.block.specs.Block.{inputs, byte_of, Blocked, recorded}
use Rattle.block.proofs.RecordLaws.{record_refused, record_trace}
use Rattle.block_isolation.specs.Shown.{record_shown, block_shown}
use Rattle.block_isolation.proofs.ByteLaws.{byte-answer, shown-append, shown-take, shown-drop}

module _ (t : Table) (l : Legal t) (d : ℕ) where
  pub number-shown : (b : Blocked) → ((block_shown t d b).number ≡ b.number) × ((block_shown t d b).next ≡ b.next)
  unfolding block_shown
  number-shown b = (refl, refl)

  -- Of a state that fits.
  pub threads_told : (mode : Mode) → d < t.domains → (b : Blocked) → Fits t b.state
      → ((block_shown t d b).state-told ≡ answered []) × ((block_shown t d b).threads ≡ seen_threads t d b.state)
  unfolding block_shown
  threads_told mode dd b f = state-shown t mode (legal_complete t l) d dd b.state f

  answers-shown : (rs : List Taken) → record_shown t d (map byte_of rs) ≡ map (λ (r : Taken). view t d (answer_of r.told.values)) rs
  unfolding record_shown
  answers-shown [] = refl
  answers-shown (r ∷ rs) = ap₂ ◌∷◌ (byte-answer t d l.count_high (answer_of r.told.values)) (answers-shown rs)

  module _ (mode : Mode) (masks bs : List ℕ) (s : State) (out : List ℕ) (at : ℕ) where
    -- A block that is not refused.
    pub trace-shown : length s.threads ≡ 32 → (recorded t mode masks bs s out at).number ≡ 0
        → (block_shown t d (recorded t mode masks bs s out at)).bytes
        ≡ take at (record_shown t d out)
        ++ (map (λ (r : Taken). view t d (answer_of r.told.values)) (calls t mode (inputs t masks bs 0 (length masks)) s)
        ++ drop (at + length masks) (record_shown t d out))
    unfolding block_shown
    trace-shown long e =
        let rs : List Taken = calls t mode (inputs t masks bs 0 (length masks)) s in
        let rest : List ℕ = drop (at + length masks) out in
        ap (record_shown t d) (record_trace t mode masks bs s out at long e)
        ∙ shown-append t d (take at out) (map byte_of rs ++ rest)
        ∙ ap₂ ◌++◌ (shown-take t d at out) (shown-append t d (map byte_of rs) rest ∙ ap₂ ◌++◌ (answers-shown rs) (shown-drop t d (at + length masks) out))

    -- A refused one: the record as it was.
    pub refused-shown : 0 < (recorded t mode masks bs s out at).number → (block_shown t d (recorded t mode masks bs s out at)).bytes ≡ record_shown t d out
    unfolding block_shown
    refused-shown h = ap (record_shown t d) (record_refused t mode masks bs s out at h).1
