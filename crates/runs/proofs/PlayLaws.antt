-- The steps before the first that is refused are a block that is not refused, and the state behind them refuses the next.
use Prim.Native.Nat.{ℕ, ◌+◌, ◌*◌, ◌≤◌, ◌<◌}
use mathlib.Core.Path.{◌≡◌, sym, ◌∙◌, ap}
use mathlib.Core.List.{List, []}
use mathlib.Core.Bool.{true}
use native.Mathlib.Omega.{arith}
use borrow.Author.Tests.{eq-eqb, le-leb}
use lib.ListN.{length, get_or, take, drop, length-drop}
use lib.Seq.{length-take-le, get_or-take}
use lib.Dec.{ltb}
use Rattle.basis.specs.Tests.{pick}
use Rattle.basis.proofs.TestLaws.{by_test, every-all}
use Rattle.table.specs.Legal.{Legal}
use Rattle.table.specs.declared.Table.{Table}
use Rattle.table.proofs.LegalLaws.{legal_complete}
use Rattle.state.specs.State.{last_clock, Fits}
use Rattle.state.specs.declared.State.{State}
use Rattle.state.proofs.FitLaws.{fits_complete}
use Rattle.frame.specs.Mode.{Mode, mode_ok}
use Rattle.walk.specs.Step.{Input, step}
use Rattle.walk.proofs.StepLaws.{step_clock, step_fits}
use Rattle.scheduler.specs.Taken.{mask_ok, taken_then, taken}
use Rattle.basis.specs.Refusals.{number_or_0}
use Rattle.block.specs.Block.{input_at, inputs, end_of, masks_ok, refusal_then, refusal, Blocked, made, block, blocked_of, next_of, values_of}
use Rattle.block.specs.declared.Ended.{Ended}
use Rattle.block.proofs.StretchLaws.{clock_at, fits-at, part-inside}
use Rattle.block.proofs.RunLaws.{block_made, block-next}
use Rattle.block.proofs.TwoLaws.{whole_by}
use Rattle.runs.specs.Playing.{whole_steps}
use Rattle.runs.specs.Stopping.{step_refusal, Stops, Plays}
use Rattle.runs.specs.Stopping.{Halt}
use Rattle.runs.proofs.StepsLaws.{steps_masks, steps-bytes}
use Rattle.runs.proofs.StopLaws.{not-refused, stop_early}

-- Whole steps stand within the masks and the bytes.
module _ (t : Table) (masks bs : List ℕ) (n : ℕ) (h : n ≤ whole_steps t masks bs) where
  pub masks_inside : n ≤ length masks
  masks_inside = steps_masks t.count (length masks) (length bs) n h

  pub bytes_inside : n * t.count ≤ length bs
  bytes_inside = steps-bytes t.count (length masks) (length bs) n h

-- The bytes of a whole step are one for each thread.
pub step_long : (t : Table) (masks bs : List ℕ) (k : ℕ) → k < whole_steps t masks bs → length (input_at t masks bs k).bytes ≡ t.count
unfolding input_at
step_long t masks bs k h =
    length-take-le t.count (drop (k * t.count) bs)
    (omega (arith, length-drop (k * t.count) bs, part-inside k (whole_steps t masks bs) t.count h, bytes_inside t masks bs (whole_steps t masks bs) (omega arith)))

-- A whole step from a fitting state is refused by its mask, by the clock, or not at all.
pub step-number : (t : Table) (mode : Mode) → Legal t → mode_ok t mode ≡ true → (x : Input) (z : State) → Fits t z → length x.bytes ≡ t.count
    → (taken t mode x z).told.number ≡ step_refusal t z.clock x.mask
unfolding taken taken_then step_refusal pick
step-number t mode l o x z f e =
    by_test (mask_ok t x.mask)
    (λ m. by_test (ltb z.clock last_clock)
    (λ c. rw (legal_complete t l, o, fits_complete t z f, eq-eqb _ _ e, m, c))
    (λ c. rw (legal_complete t l, o, fits_complete t z f, eq-eqb _ _ e, m, c)))
    (λ m. rw (legal_complete t l, o, fits_complete t z f, eq-eqb _ _ e, m))

module _ (t : Table) (mode : Mode) (l : Legal t) (o : mode_ok t mode ≡ true) (s : State) (f : Fits t s) (masks bs part part' : List ℕ) (b : Halt) (r : Ended)
    (stops : Stops t s.clock masks (whole_steps t masks bs) b) (room : whole_steps t masks bs ≤ length part)
    (gave : blocked_of r part' ≡ block t mode (take b.n masks) (take (b.n * t.count) bs) s part) where
  abbrev front_masks : List ℕ
  front_masks = take b.n masks

  abbrev front_bytes : List ℕ
  front_bytes = take (b.n * t.count) bs

  many : length front_masks ≡ b.n
  many = length-take-le b.n masks (masks_inside t masks bs b.n stops.within)

  long : length front_bytes ≡ length front_masks * t.count
  long = length-take-le (b.n * t.count) bs (bytes_inside t masks bs b.n stops.within) ∙ ap (λ (n : ℕ). n * t.count) (sym many)

  early : s.clock + b.n ≤ last_clock
  early = stop_early t s.clock masks (whole_steps t masks bs) b f.clock_high stops

  passing : masks_ok t front_masks ≡ true
  unfolding masks_ok
  passing =
      every-all (λ k. mask_ok t (get_or front_masks k 0)) (length front_masks)
      (λ k h. let q : k < b.n = omega (arith, many) in
      ap (mask_ok t) (get_or-take b.n masks k 0 q) ∙ (not-refused t (s.clock + k) (get_or masks k 0) (stops.passed k q)).0)

  -- None refuses the block, ..
  unrefused : refusal t mode front_masks front_bytes s (length part) ≡ 0
  unfolding refusal refusal_then pick
  unrefused =
      rw (
        legal_complete t l,
        o,
        fits_complete t s f,
        whole_by t front_masks front_bytes l.count_low long,
        passing,
        le-leb (s.clock + length front_masks) last_clock (omega (arith, many, early)),
        le-leb (length front_masks) (length part) (omega (arith, many, stops.within, room)),
      )

  -- .. so that it gives the steps.
  steps-made : blocked_of r part' ≡ made (step t mode) (inputs t front_masks front_bytes 0 (length front_masks)) s part
  steps-made = gave ∙ sym (block_made t mode front_masks front_bytes s part unrefused)

  state-made : r.state ≡ end_of (step t mode) (inputs t front_masks front_bytes 0 (length front_masks)) s
  unfolding made
  state-made = ap (λ (x : Blocked). x.state) steps-made

  number-made : number_or_0 r.outcome ≡ 0
  unfolding made
  number-made = ap (λ (x : Blocked). x.number) steps-made

  values-made : values_of r.outcome ≡ []
  unfolding made
  values-made = ap (λ (x : Blocked). x.values) steps-made

  next-made : next_of r.outcome ≡ b.n
  next-made = ap (λ (x : Blocked). x.next) gave ∙ block-next t mode front_masks front_bytes s part unrefused ∙ many

  state_clock : r.state.clock ≡ s.clock + b.n
  state_clock = clock_at t (step t mode) (step_clock t mode) front_masks front_bytes 0 (length front_masks) s r.state state-made ∙ ap (λ (n : ℕ). s.clock + n) many

  state-fits : Fits t r.state
  state-fits =
      fits-at t (step t mode) (step_clock t mode) (step_fits t mode) front_masks front_bytes 0 (length front_masks) s r.state state-made f (omega (arith, many, early))

  -- The whole step behind them.
  next-number : b.n < whole_steps t masks bs → (taken t mode (input_at t masks bs b.n) r.state).told.number ≡ b.why
  unfolding input_at
  next-number h =
      step-number t mode l o (input_at t masks bs b.n) r.state state-fits (step_long t masks bs b.n h)
      ∙ ap (λ (c : ℕ). step_refusal t c (get_or masks b.n 0)) state_clock ∙ (stops.stopped h).1

  pub plays : Plays t mode s masks bs part (record { state = r.state; why = b.why; n = b.n }) part'
  plays = record {
    within = stops.within;
    made = (λ i. record { number = sym number-made i; values = sym values-made i; state = r.state; part = part'; next = sym next-made i }) ∙ gave;
    stopped = λ h. ((stops.stopped h).0, next-number h);
    ended = stops.ended;
  }
