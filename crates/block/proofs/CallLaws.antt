-- A block that is not refused is as many single calls of the step, none of which is refused; and no byte's value brings a refusal about.
use Prim.Native.Nat.{ℕ, zero, suc, ◌+◌, ◌*◌, ◌≤◌, ◌<◌}
use mathlib.Core.Path.{◌≡◌, refl, sym, ap, ap₂}
use mathlib.Core.List.{List, [], ◌∷◌, ◌++◌, map}
use mathlib.Core.Bool.{true}
use native.Mathlib.Omega.{arith}
use lib.ListN.{length, get_or, drop, length-drop}
use lib.Seq.{length-take-le}
use lib.Dec.{eqb}
use borrow.Author.Tests.{eqb-true}
use Rattle.basis.specs.Tests.{pick}
use Rattle.basis.specs.Search.{listed}
use Rattle.basis.specs.Turns.{in_turn, after}
use Rattle.basis.proofs.TestLaws.{by_test, either, every-at}
use Rattle.table.specs.Legal.{legal}
use Rattle.table.specs.declared.Table.{Table}
use Rattle.table.proofs.LegalLaws.{legal_small}
use Rattle.state.specs.State.{last_clock, fits, Fits}
use Rattle.state.specs.declared.State.{State}
use Rattle.state.proofs.FitLaws.{fits_sound, fits_complete}
use Rattle.frame.specs.Mode.{Mode, mode_ok}
use Rattle.walk.specs.Step.{Input, step}
use Rattle.walk.specs.declared.Walked.{Walked}
use Rattle.walk.proofs.StepLaws.{step_clock, step_fits}
use Rattle.scheduler.specs.Taken.{Taken, took, mask_ok, taken}
use Rattle.scheduler.specs.Calls.{WholeSteps, ended, next, calls, steps}
use Rattle.scheduler.proofs.RefusalLaws.{taken-steps}
use Rattle.scheduler.proofs.CallLaws.{calls-steps}
use Rattle.scheduler.proofs.UniqueLaws.{answer_back}
use Rattle.block.specs.Block.{trace, byte_of, input_at, inputs, end_of, trace_of, whole, masks_ok, refusal_then, refusal, Blocked, made, block}
use Rattle.block.proofs.RunLaws.{Passes, passes, block_made}
use Rattle.block.proofs.StretchLaws.{inputs-length, part-inside}

whole_append : (t : Table) (xs ys : List Input) → WholeSteps t xs → WholeSteps t ys → WholeSteps t (xs ++ ys)
whole_append t xs ys ended v = v
whole_append t xs ys (next {x} {more} e m w) v = next e m (whole_append t more ys w v)

-- Each step of a block has one byte for each thread, and events of event threads only.
whole-inputs : (t : Table) (masks bs : List ℕ) → length bs ≡ length masks * t.count → masks_ok t masks ≡ true
    → (n : ℕ) → n ≤ length masks → WholeSteps t (inputs t masks bs 0 n)
unfolding inputs listed input_at masks_ok
whole-inputs t masks bs e o zero l = ended
whole-inputs t masks bs e o (suc n) l =
    let inside : (0 + n) * t.count + t.count ≤ length masks * t.count = part-inside (0 + n) (length masks) t.count (omega arith) in
    whole_append t _ _ (whole-inputs t masks bs e o n (omega arith))
    (next (length-take-le t.count (drop ((0 + n) * t.count) bs) (omega (arith, length-drop ((0 + n) * t.count) bs, inside, e)))
    (every-at (λ k. mask_ok t (get_or masks k 0)) (length masks) (0 + n) o (omega arith)) ended)

-- The masks of a block that is not refused pass.
pub masked : (t : Table) (masks bs : List ℕ) (s : State) (room : ℕ) → refusal_then t masks bs s room ≡ 0 → masks_ok t masks ≡ true
unfolding refusal_then pick
masked t masks bs s room e =
    by_test (fits t s)
    (λ f. by_test (whole t masks bs)
    (λ w. by_test (masks_ok t masks) (λ m. m)
    (λ m. let z : refusal_then t masks bs s room ≡ 18 = rw (f, w, m) in absurd (omega arith)))
    (λ w. let z : refusal_then t masks bs s room ≡ 13 = rw (f, w) in absurd (omega arith)))
    (λ f. let z : refusal_then t masks bs s room ≡ 12 = rw f in absurd (omega arith))

module _ (t : Table) (mode : Mode) (masks bs : List ℕ) (s : State) where
  -- It passed 11 and 19.
  pub judged : (room : ℕ) → refusal t mode masks bs s room ≡ 0 → (legal t ≡ true) × (mode_ok t mode ≡ true) × (refusal_then t masks bs s room ≡ 0)
  unfolding refusal pick
  judged room e =
      by_test (legal t)
      (λ l. by_test (mode_ok t mode)
      (λ o. (l, o, rw (l, o) at e))
      (λ o. let z : refusal t mode masks bs s room ≡ 19 = rw (l, o) in absurd (omega arith)))
      (λ l. let z : refusal t mode masks bs s room ≡ 11 = rw l in absurd (omega arith))

  -- No thread's byte brings a refusal about: it hangs on how many bytes there are.
  pub block_same_refusal : (cs : List ℕ) (room : ℕ) → length bs ≡ length cs → refusal t mode masks bs s room ≡ refusal t mode masks cs s room
  unfolding refusal refusal_then whole
  block_same_refusal cs room l = rw l

  -- It stops inside the part.
  pub block_inside : (part : List ℕ) → (block t mode masks bs s part).next ≤ length part
  unfolding block made
  block_inside part =
      either (λ (b : Blocked). b.next ≤ length part) (eqb (refusal t mode masks bs s (length part)) 0)
      (λ e. let z = (judged (length part) (eqb-true _ _ e)).2 in omega (arith, inputs-length t masks bs 0 (length masks), (passes t masks bs s (length part) z).roomy))
      (λ _. omega arith)

-- The state after single calls that are steps, and the bytes of their answers.
after-steps : (t : Table) (mode : Mode) → legal t ≡ true → mode_ok t mode ≡ true → (xs : List Input) → WholeSteps t xs → (s : State) → Fits t s
    → s.clock + length xs ≤ last_clock → after (taken t mode) (λ (r : Taken). r.state) xs s ≡ end_of (step t mode) xs s
unfolding after end_of
after-steps t mode ok o xs ended s f h = refl
after-steps t mode ok o xs (next {x} {more} e m w) s f h =
    let l : s.clock < last_clock = omega arith in
    let c : taken t mode x s ≡ took (step t mode x s) = taken-steps t mode x s ok o (fits_complete t s f) e m l in
    rw c (after-steps t mode ok o more w (step t mode x s).state (step_fits t mode x s f l) (omega (arith, step_clock t mode x s)))

bytes-took : (ws : List Walked) → map byte_of (map took ws) ≡ map (λ (w : Walked). trace w.answer) ws
bytes-took [] = refl
bytes-took (w ∷ ws) = ap₂ ◌∷◌ (ap trace (answer_back w.answer)) (bytes-took ws)

-- State and trace of a block that is not refused are those of single calls, of which none is refused.
module _ (t : Table) (mode : Mode) (masks bs : List ℕ) (s : State) (part : List ℕ) (long : length s.threads ≡ 32)
    (e : refusal t mode masks bs s (length part) ≡ 0) where
  abbrev xs : List Input
  xs = inputs t masks bs 0 (length masks)

  passed : Passes t masks bs s (length part)
  passed = passes t masks bs s (length part) (judged t mode masks bs s (length part) e).2

  fitting : Fits t s
  fitting = fits_sound t s (legal_small t (judged t mode masks bs s (length part) e).0).1 long passed.fitting

  every-step : WholeSteps t xs
  every-step = whole-inputs t masks bs passed.long (masked t masks bs s (length part) (judged t mode masks bs s (length part) e).2) (length masks) (omega arith)

  early : s.clock + length xs ≤ last_clock
  early = rw (inputs-length t masks bs 0 (length masks)) passed.early

  pub block-calls : calls t mode xs s ≡ map took (steps t mode xs s)
  block-calls =
      let j = judged t mode masks bs s (length part) e in
      calls-steps t mode j.0 j.1 xs every-step s fitting early

  pub block-state : (block t mode masks bs s part).state ≡ after (taken t mode) (λ (r : Taken). r.state) xs s
  unfolding made
  block-state =
      let j = judged t mode masks bs s (length part) e in
      rw (← block_made t mode masks bs s part e) (sym (after-steps t mode j.0 j.1 xs every-step s fitting early))

  pub block-trace : (block t mode masks bs s part).part ≡ map byte_of (calls t mode xs s) ++ drop (length masks) part
  unfolding made trace_of steps
  block-trace =
      rw (← block_made t mode masks bs s part e, block-calls, bytes-took (in_turn (step t mode) (λ (w : Walked). w.state) xs s), inputs-length t masks bs 0 (length masks))
