-- Each number of a block is given exactly when its row of `BlockNumbered` holds, by asking the tests in turn; no byte brings a refusal about.
use Prim.Native.Nat.{ℕ, ◌+◌, ◌-◌, ◌*◌, ◌<◌}
use native.Mathlib.Omega.{arith}
use mathlib.Core.Path.{◌≡◌, refl, sym, ◌∙◌, ap}
use mathlib.Core.List.{List}
use mathlib.Core.Bool.{true}
use mathlib.Core.Logic.{◌≢◌, ◌↔◌}
use lib.ListN.{length, get_or, drop, length-drop}
use lib.Dec.{leb}
use borrow.Author.Tests.{ne_eqb, leb-true, leb-false, le-leb, lt-leb}
use Rattle.basis.specs.Tests.{pick}
use Rattle.basis.proofs.TestLaws.{by_test, either, both, every-at, every-all}
use Rattle.basis.proofs.BackLaws.{exactly_by, row_here}
use Rattle.table.specs.Legal.{legal}
use Rattle.table.specs.declared.Table.{Table}
use Rattle.state.specs.State.{last_clock, fits}
use Rattle.state.specs.declared.State.{State}
use Rattle.frame.specs.Mode.{Mode, mode_ok}
use Rattle.scheduler.specs.Taken.{mask_ok}
use Rattle.block.specs.Block.{whole, masks_ok, refusal_then, refusal, Blocked, or_no_room, recorded}
use Rattle.block.specs.Numbered.{BlockNumbered, not-legal, bad-frame, not-fitting, not-whole, no_event, too_late, no_room, makes}
use Rattle.block.proofs.RunLaws.{whole_long}
use Rattle.block.proofs.CallLaws.{block_same_refusal}
use Rattle.block.proofs.TwoLaws.{whole_by}
use Rattle.block.proofs.RecordLaws.{block-number}

-- Lengths pass exactly if there is one byte for each thread and mask.
pub whole_exactly : (t : Table) (masks bs : List ℕ) → 0 < t.count → (whole t masks bs ≡ true) ↔ (length bs ≡ length masks * t.count)
whole_exactly t masks bs h = (whole_long t masks bs, whole_by t masks bs h)

-- Masks pass exactly if each does.
pub masks_exactly : (t : Table) (masks : List ℕ) → (masks_ok t masks ≡ true) ↔ ((k : ℕ) → k < length masks → mask_ok t (get_or masks k 0) ≡ true)
unfolding masks_ok
masks_exactly t masks = (λ e k l. every-at _ (length masks) k e l, every-all _ (length masks))

module _ (t : Table) (mode : Mode) (masks bs : List ℕ) (s : State) (out : List ℕ) (at : ℕ) where
  abbrev number : ℕ
  number = (recorded t mode masks bs s out at).number

  -- A number that is given whatever the room is given at every place.
  whatever_room : (n : ℕ) → n ≢ 0 → ((room : ℕ) → refusal t mode masks bs s room ≡ n) → number ≡ n
  unfolding recorded or_no_room pick
  whatever_room n d h =
      either (λ (b : Blocked). b.number ≡ n) (leb at (length out))
      (λ _. block-number t mode masks bs s (drop at out) ∙ h (length (drop at out)))
      (λ _. rw (h 0, ne_eqb n 0 d))

  -- The room is what is left from the place on.
  left : length (drop at out) ≡ length out - at
  left = length-drop at out

  number_only : {n : ℕ} → BlockNumbered t mode masks bs s out at n → number ≡ n
  unfolding recorded or_no_room refusal refusal_then pick
  number_only (not-legal a) = whatever_room 11 (λ e. absurd (omega arith)) (λ room. rw a)
  number_only (bad-frame a o) = whatever_room 19 (λ e. absurd (omega arith)) (λ room. rw (a, o))
  number_only (not-fitting a o b) = whatever_room 12 (λ e. absurd (omega arith)) (λ room. rw (a, o, b))
  number_only (not-whole a o b c) = whatever_room 13 (λ e. absurd (omega arith)) (λ room. rw (a, o, b, c))
  number_only (no_event a o b c m) = whatever_room 18 (λ e. absurd (omega arith)) (λ room. rw (a, o, b, c, m))
  number_only (too_late a o b c m d) = whatever_room 14 (λ e. absurd (omega arith)) (λ room. rw (a, o, b, c, m, lt-leb (s.clock + length masks) last_clock d))
  number_only (no_room a o b c m d r) =
      either (λ (w : Blocked). w.number ≡ 16) (leb at (length out))
      (λ l. block-number t mode masks bs s (drop at out)
      ∙ rw (a, o, b, c, m, le-leb (s.clock + length masks) last_clock d, lt-leb (length masks) (length (drop at out)) (omega (arith, left, leb-true at (length out) l))))
      (λ _. by_test (leb (length masks) 0)
      (λ k. rw (a, o, b, c, m, le-leb (s.clock + length masks) last_clock d, k)) (λ k. rw (a, o, b, c, m, le-leb (s.clock + length masks) last_clock d, k)))
  number_only (makes a o b c m d r) =
      either (λ (w : Blocked). w.number ≡ 0) (leb at (length out))
      (λ l. block-number t mode masks bs s (drop at out)
      ∙ rw (a, o, b, c, m, le-leb (s.clock + length masks) last_clock d, le-leb (length masks) (length (drop at out)) (omega (arith, left))))
      (λ l. absurd (omega (arith, leb-false at (length out) l)))

  here : {n : ℕ} → BlockNumbered t mode masks bs s out at n → BlockNumbered t mode masks bs s out at number
  here r = row_here (BlockNumbered t mode masks bs s out at) r (number_only r)

  number-given : BlockNumbered t mode masks bs s out at number
  number-given =
      by_test (legal t)
      (λ a. by_test (mode_ok t mode)
      (λ o. by_test (fits t s)
      (λ b. by_test (whole t masks bs)
      (λ c. by_test (masks_ok t masks)
      (λ m. by_test (leb (s.clock + length masks) last_clock)
      (λ d. by_test (leb (at + length masks) (length out))
      (λ r. here (makes a o b c m (leb-true _ _ d) (leb-true _ _ r)))
      (λ r. here (no_room a o b c m (leb-true _ _ d) (leb-false _ _ r))))
      (λ d. here (too_late a o b c m (leb-false _ _ d))))
      (λ m. here (no_event a o b c m)))
      (λ c. here (not-whole a o b c)))
      (λ b. here (not-fitting a o b)))
      (λ o. here (bad-frame a o)))
      (λ a. here (not-legal a))

  -- Each number, and 0, exactly when its row holds; a number without a row never.
  pub block_number_exactly : (n : ℕ) → (number ≡ n) ↔ BlockNumbered t mode masks bs s out at n
  block_number_exactly = exactly_by (BlockNumbered t mode masks bs s out at) number-given (λ n r. number_only r)

  -- It hangs on how many bytes there are, and not on what they are.
  pub record_same_refusal : (cs : List ℕ) → length bs ≡ length cs → number ≡ (recorded t mode masks cs s out at).number
  unfolding recorded
  record_same_refusal cs l =
      both (λ (v w : Blocked). v.number ≡ w.number) (leb at (length out)) _ refl
      (λ _. block-number t mode masks bs s (drop at out) ∙ block_same_refusal t mode masks bs s cs (length (drop at out)) l
      ∙ sym (block-number t mode masks cs s (drop at out)))
      (λ _. ap or_no_room (block_same_refusal t mode masks bs s cs 0 l))
