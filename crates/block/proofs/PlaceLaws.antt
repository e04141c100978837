-- A block into a record from a place on: what the part comes back with is said of the whole, and a place past the end is refused.
use Prim.Native.Nat.{ℕ, ◌+◌, ◌-◌, ◌≤◌, ◌<◌}
use mathlib.Core.Path.{◌≡◌, ◌∙◌, ap}
use mathlib.Core.List.{List, ◌++◌, append-nil}
use native.Mathlib.Omega.{arith}
use borrow.Author.Tests.{le-leb, lt-leb}
use lib.ListN.{length, take, drop, length-take, length-drop, drop_of_length-le}
use lib.Seq.{take_all}
use Rattle.basis.specs.Tests.{pick}
use Rattle.table.specs.declared.Table.{Table}
use Rattle.state.specs.declared.State.{State}
use Rattle.frame.specs.Mode.{Mode}
use Rattle.block.specs.declared.Ended.{Ended}
use Rattle.basis.specs.Refusals.{number_or_0}
use Rattle.block.specs.Block.{refusal, Blocked, refused_block, block, stop, behind, or_no_room, recorded, next_of, values_of, blocked_of}
use Rattle.block.proofs.CallLaws.{block_inside}

module _ (t : Table) (mode : Mode) (masks bs : List ℕ) (s : State) (o : List ℕ) (at : ℕ) where
  pub recorded_past : (n : ℕ) → length o < at → n ≡ or_no_room (refusal t mode masks bs s 0) → refused_block n s o ≡ recorded t mode masks bs s o at
  unfolding recorded pick
  recorded_past n h e = rw (lt-leb at (length o) h, e)

  pub recorded-within : at ≤ length o → behind at o (block t mode masks bs s (drop at o)) ≡ recorded t mode masks bs s o at
  unfolding recorded pick
  recorded-within h = rw (le-leb at (length o) h)

  pub recorded_part : (r q : Ended) (ys : List ℕ) → at ≤ length o → q.state ≡ r.state → number_or_0 q.outcome ≡ number_or_0 r.outcome
      → values_of q.outcome ≡ values_of r.outcome
      → next_of q.outcome ≡ stop (number_or_0 r.outcome) at (next_of r.outcome) → blocked_of r ys ≡ block t mode masks bs s (take (length o - at) (drop at o))
      → blocked_of q (take at o ++ (ys ++ drop (length o - at) (drop at o))) ≡ recorded t mode masks bs s o at
  recorded_part r q ys h z m v n e =
      let l : length (drop at o) ≤ length o - at = omega (arith, length-drop at o) in
      let a : take (length o - at) (drop at o) ≡ drop at o = take_all (length o - at) (drop at o) l in
      let b : ys ++ drop (length o - at) (drop at o) ≡ ys = ap (λ (x : List ℕ). ys ++ x) (drop_of_length-le (drop at o) l) ∙ append-nil ys in
      (λ i. record { number = m i; values = v i; state = z i; part = take at o ++ b i; next = n i })
      ∙ ap (λ (x : Blocked). behind at o x) (e ∙ ap (λ (x : List ℕ). block t mode masks bs s x) a)
      ∙ recorded-within h

  -- The place where it stopped stands in the record.
  pub part-inside : (r : Ended) (ys : List ℕ) → at ≤ length o → blocked_of r ys ≡ block t mode masks bs s (take (length o - at) (drop at o)) → at + next_of r.outcome ≤ length o
  part-inside r ys h e =
      let p : List ℕ = take (length o - at) (drop at o) in
      let n : next_of r.outcome ≡ (block t mode masks bs s p).next = ap (λ (b : Blocked). b.next) e in
      omega (arith, n, block_inside t mode masks bs s p, length-take (length o - at) (drop at o), length-drop at o)
