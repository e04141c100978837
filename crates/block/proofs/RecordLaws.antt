-- What a call into a record gives, and so each of the four operations: one that is lent a part is a call at the part's front.
use Prim.Native.Nat.{ℕ, ◌+◌, ◌≤◌, ◌<◌}
use native.Mathlib.Omega.{arith}
use native.Mathlib.Nat.{zero-add, add_assoc}
use mathlib.Core.Path.{◌≡◌, refl, sym, ◌∙◌, ap, ap₂, subst}
use mathlib.Core.List.{List, [], ◌++◌, map, append_assoc}
use mathlib.Core.Bool.{false}
use lib.ListN.{length, take, drop, take-append-drop}
use lib.Seq.{length-take-le, take-append-add, drop-append-add, drop_at, drop-drop}
use lib.Dec.{eqb, leb}
use borrow.Author.Tests.{eqb-true, eqb-false, leb-true}
use Rattle.basis.specs.Tests.{pick}
use Rattle.basis.specs.Turns.{after}
use Rattle.basis.proofs.TestLaws.{either, both_ways}
use Rattle.table.specs.Legal.{Sized}
use Rattle.table.specs.declared.Table.{Table}
use Rattle.state.specs.declared.State.{State}
use Rattle.frame.specs.Mode.{Mode}
use Rattle.walk.specs.Step.{step}
use Rattle.scheduler.specs.Taken.{Taken, took, taken}
use Rattle.scheduler.specs.Calls.{calls, steps}
use Rattle.block.specs.Block.{byte_of, inputs, trace_of, refusal, Blocked, refused_block, made, block, stop, behind, or_no_room, recorded}
use Rattle.block.proofs.StretchLaws.{trace-length, inputs-length}
use Rattle.block.proofs.RunLaws.{block_made, block-next}
use Rattle.block.proofs.PlaceLaws.{recorded-within}
use Rattle.block.proofs.CallLaws.{block-calls, block-state, block-trace}
use Rattle.block.proofs.TwoLaws.{two_blocks}

module _ (t : Table) (mode : Mode) (masks bs : List ℕ) (s : State) where
  -- A part that is lent is a record from its place 0 on.
  pub recorded-front : (part : List ℕ) → recorded t mode masks bs s part 0 ≡ block t mode masks bs s part
  unfolding block made stop pick
  recorded-front part =
      sym (recorded-within t mode masks bs s part 0 (omega arith))
      ∙ either (λ (b : Blocked). behind 0 part b ≡ b) (eqb (refusal t mode masks bs s (length part)) 0)
      (λ _. rw (zero-add (length (inputs t masks bs 0 (length masks))))) (λ e. rw e)

  pub block-number : (part : List ℕ) → (block t mode masks bs s part).number ≡ refusal t mode masks bs s (length part)
  unfolding block made
  block-number part =
      either (λ (b : Blocked). b.number ≡ refusal t mode masks bs s (length part)) (eqb (refusal t mode masks bs s (length part)) 0)
      (λ e. sym (eqb-true _ _ e)) (λ e. refl)

  -- No number of a block comes with values.
  pub block-values : (part : List ℕ) → (block t mode masks bs s part).values ≡ []
  unfolding block made
  block-values part = both_ways (λ (b : Blocked). b.values ≡ []) (eqb (refusal t mode masks bs s (length part)) 0) _ _ refl refl

  module _ (out : List ℕ) (at : ℕ) where
    -- A refused call hands back the state it was given, writes no byte, and its place is 0.
    abbrev Untouched : Blocked → Type 0
    Untouched b = (b.state ≡ s) × (b.part ≡ out) × (b.next ≡ 0)

    refused_past : (n : ℕ) → Untouched (refused_block n s out)
    refused_past n = (refl, refl, refl)

    refused-within : (n : ℕ) → eqb n 0 ≡ false → Untouched (behind at out (refused_block n s (drop at out)))
    unfolding stop pick
    refused-within n e = (refl, take-append-drop at out, rw e)

    pub record_refused : 0 < (recorded t mode masks bs s out at).number
        → ((recorded t mode masks bs s out at).state ≡ s) × ((recorded t mode masks bs s out at).part ≡ out) × ((recorded t mode masks bs s out at).next ≡ 0)
    unfolding recorded block made
    record_refused =
        let n : ℕ = refusal t mode masks bs s (length (drop at out)) in
        either (λ (b : Blocked). 0 < b.number → Untouched b) (leb at (length out))
        (λ _. either (λ (b : Blocked). 0 < b.number → Untouched (behind at out b)) (eqb n 0) (λ _ h. absurd (omega arith)) (λ e h. refused-within n e))
        (λ _ h. refused_past (or_no_room (refusal t mode masks bs s 0)))

    -- A call that is not refused has its place in the record, and nothing refuses the part from there on.
    pub record_passes : (recorded t mode masks bs s out at).number ≡ 0 → (at ≤ length out) × (refusal t mode masks bs s (length (drop at out)) ≡ 0)
    unfolding recorded or_no_room
    record_passes =
        either (λ (b : Blocked). b.number ≡ 0 → (at ≤ length out) × (refusal t mode masks bs s (length (drop at out)) ≡ 0)) (leb at (length out))
        (λ l e. (leb-true _ _ l, sym (block-number (drop at out)) ∙ e))
        (λ _. either (λ (n : ℕ). n ≡ 0 → (at ≤ length out) × (refusal t mode masks bs s (length (drop at out)) ≡ 0)) (eqb (refusal t mode masks bs s 0) 0)
        (λ _ e. absurd (omega arith)) (λ n e. absurd (eqb-false _ _ n e)))

    -- The place that a call which is not refused reports: as many bytes on as it has masks.
    pub record_next : (recorded t mode masks bs s out at).number ≡ 0 → (recorded t mode masks bs s out at).next ≡ at + length masks
    unfolding stop pick
    record_next e =
        let p = record_passes e in
        ap (λ (b : Blocked). b.next) (sym (recorded-within t mode masks bs s out at p.0))
        ∙ ap₂ (λ (n k : ℕ). stop n at k) (block-number (drop at out) ∙ p.1) (block-next t mode masks bs s (drop at out) p.1)

    module _ (long : length s.threads ≡ 32) (e : (recorded t mode masks bs s out at).number ≡ 0) where
      -- As many single calls of the step, none of which is refused: each gives what the inner step gives.
      pub record_calls : calls t mode (inputs t masks bs 0 (length masks)) s ≡ map took (steps t mode (inputs t masks bs 0 (length masks)) s)
      record_calls = block-calls t mode masks bs s (drop at out) long (record_passes e).1

      -- The state is the one after them.
      pub record_state : (recorded t mode masks bs s out at).state ≡ after (taken t mode) (λ (r : Taken). r.state) (inputs t masks bs 0 (length masks)) s
      record_state =
          ap (λ (b : Blocked). b.state) (sym (recorded-within t mode masks bs s out at (record_passes e).0))
          ∙ block-state t mode masks bs s (drop at out) long (record_passes e).1

      -- From the place on stand the bytes of their answers; what is before them and behind them stays.
      pub record_trace : (recorded t mode masks bs s out at).part
          ≡ take at out ++ (map byte_of (calls t mode (inputs t masks bs 0 (length masks)) s) ++ drop (at + length masks) out)
      record_trace =
          ap (λ (b : Blocked). b.part) (sym (recorded-within t mode masks bs s out at (record_passes e).0))
          ∙ ap (λ (l : List ℕ). take at out ++ l)
          (block-trace t mode masks bs s (drop at out) long (record_passes e).1
          ∙ ap (λ (l : List ℕ). map byte_of (calls t mode (inputs t masks bs 0 (length masks)) s) ++ l) (drop-drop (length masks) at out))

moved_on : (at m k : ℕ) → stop 0 at (m + k) ≡ stop 0 (at + m) k
unfolding stop pick
moved_on at m k = sym (add_assoc at m k)

-- Two calls one after the other are one call: the second from the state and the record that the first left, at the place where it stopped.
module _ (t : Table) (mode : Mode) (z : Sized t) (masks masks' bs bs' : List ℕ) (s : State) (out : List ℕ) (at : ℕ) where
  abbrev one : Blocked
  one = block t mode masks bs s (drop at out)

  abbrev next : State → List ℕ → ℕ → Blocked
  next y l k = recorded t mode masks' bs' y l k

  -- What the first call left from the second's place on.
  one_rest : refusal t mode masks bs s (length (drop at out)) ≡ 0 → drop (length masks) one.part ≡ drop (length masks) (drop at out)
  unfolding made
  one_rest p =
      let xs = inputs t masks bs 0 (length masks) in
      let n : length xs ≡ length masks = inputs-length t masks bs 0 (length masks) in
      ap (λ (b : Blocked). drop (length masks) b.part) (sym (block_made t mode masks bs s (drop at out) p))
      ∙ drop_at (trace_of (step t mode) xs s) (drop (length xs) (drop at out)) (length masks) (trace-length (step t mode) s xs ∙ n)
      ∙ ap (λ (k : ℕ). drop k (drop at out)) n

  two_at : at ≤ length out → refusal t mode masks bs s (length (drop at out)) ≡ 0 → (next one.state (take at out ++ one.part) (at + length masks)).number ≡ 0
      → recorded t mode (masks ++ masks') (bs ++ bs') s out at ≡ next one.state (take at out ++ one.part) (at + length masks)
  two_at l p e =
      let m : ℕ = length masks in
      let whole : List ℕ = take at out ++ one.part in
      let two : Blocked = block t mode masks' bs' one.state (drop m (drop at out)) in
      let a : length (take at out) ≡ at = length-take-le at out l in
      let rest : drop (at + m) whole ≡ drop m (drop at out)
      = ap (λ (k : ℕ). drop (k + m) whole) (sym a) ∙ drop-append-add (take at out) one.part m ∙ one_rest p in
      let front : take (at + m) whole ≡ take at out ++ take m one.part
      = ap (λ (k : ℕ). take (k + m) whole) (sym a) ∙ take-append-add (take at out) one.part m in
      let q = record_passes t mode masks' bs' one.state whole (at + m) e in
      let q' : refusal t mode masks' bs' one.state (length (drop m (drop at out))) ≡ 0
      = subst (λ (x : List ℕ). refusal t mode masks' bs' one.state (length x) ≡ 0) rest q.1 in
      let n : two.number ≡ 0 = block-number t mode masks' bs' one.state (drop m (drop at out)) ∙ q' in
      let v : two.values ≡ [] = block-values t mode masks' bs' one.state (drop m (drop at out)) in
      let there : stop 0 at (m + two.next) ≡ stop two.number (at + m) two.next = moved_on at m two.next ∙ ap (λ (j : ℕ). stop j (at + m) two.next) (sym n) in
      sym (recorded-within t mode (masks ++ masks') (bs ++ bs') s out at l)
      ∙ ap (λ (b : Blocked). behind at out b) (two_blocks t mode z masks masks' bs bs' s (drop at out) p q')
      ∙ (λ i. record {
        number = sym n i;
        values = sym v i;
        state = two.state;
        part = (sym (append_assoc (take at out) (take m one.part) two.part) ∙ ap (λ (x : List ℕ). x ++ two.part) (sym front)) i;
        next = there i;
      })
      ∙ ap (λ (x : List ℕ). behind (at + m) whole (block t mode masks' bs' one.state x)) (sym rest)
      ∙ recorded-within t mode masks' bs' one.state whole (at + m) q.0

  pub two_records :
      let first = recorded t mode masks bs s out at in
      first.number ≡ 0 → (next first.state first.part first.next).number ≡ 0
      → recorded t mode (masks ++ masks') (bs ++ bs') s out at ≡ next first.state first.part first.next
  two_records e =
      let p = record_passes t mode masks bs s out at e in
      let both : List ℕ → Blocked = λ o. recorded t mode (masks ++ masks') (bs ++ bs') s o at in
      let first : Blocked = recorded t mode masks bs s out at in
      let G : State → List ℕ → ℕ → Type 0 = λ y l k. (next y l k).number ≡ 0 → both out ≡ next y l k in
      subst (λ (k : ℕ). G first.state first.part k) (sym (record_next t mode masks bs s out at e))
      (subst (λ (b : Blocked). G b.state b.part (at + length masks)) (recorded-within t mode masks bs s out at p.0) (two_at p.0 p.1))
