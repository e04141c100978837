-- Steps over the threads that a mode has at each of their clocks are steps in that mode, and what a call that is not refused makes.
use Prim.Native.Nat.{ℕ, suc, ◌+◌, ◌*◌, ◌/◌, ◌%◌, ◌≤◌, ◌<◌}
use mathlib.Core.Path.{◌≡◌, refl, sym, ◌∙◌, ap, subst}
use mathlib.Core.List.{List, [], ◌∷◌, ◌++◌}
use mathlib.Core.Bool.{true, false}
use native.Mathlib.Omega.{arith}
use native.Mathlib.Nat.{add-zero, div-add-mod'}
use borrow.Author.Tests.{eqb-true, leb-true, ne_eqb}
use lib.ListN.{length, drop}
use lib.Seq.{sets, sets-eq}
use lib.Dec.{eqb, leb}
use Rattle.basis.specs.Tests.{pick}
use Rattle.basis.specs.Turns.{in_turn, after}
use Rattle.basis.proofs.TestLaws.{and_both, by_test}
use Rattle.table.specs.Legal.{legal}
use Rattle.table.specs.Mark.{marks_of}
use Rattle.table.specs.Mark.{Mark}
use Rattle.table.specs.declared.Table.{Table}
use Rattle.state.specs.State.{last_clock, fits}
use Rattle.state.specs.declared.State.{State}
use Rattle.order.specs.Order.{order}
use Rattle.frame.specs.Mode.{Mode, unframed, mode_ok, threads_at}
use Rattle.walk.specs.Step.{Input, advance, step}
use Rattle.walk.specs.declared.Walked.{Walked}
use Rattle.walk.proofs.StepLaws.{step_clock}
use Rattle.walk.proofs.MarksLaws.{step_by}
use Rattle.block.specs.Block.{trace, inputs, end_of, trace_of, whole, masks_ok, refusal_then, refusal, Blocked, refused_block, made, block}
use Rattle.block.proofs.StretchLaws.{trace-length, inputs-length}

module _ (t : Table) (mode : Mode) (is : List ℕ) where
  step_same : (x : Input) (s : State) → threads_at t mode s.clock ≡ is → advance t (marks_of t) is x s ≡ step t mode x s
  step_same x s h = ap (λ (l : List ℕ). advance t (marks_of t) l x s) (sym h) ∙ sym (step_by t mode x s)

  abbrev Has : ℕ → State → Type 0
  Has n s = (j : ℕ) → j < n → threads_at t mode (s.clock + j) ≡ is

  has_first : (n : ℕ) (s : State) → Has (suc n) s → threads_at t mode s.clock ≡ is
  has_first n s h = subst (λ (c : ℕ). threads_at t mode c ≡ is) (add-zero s.clock) (h 0 (omega arith))

  has_rest : (n : ℕ) (x : Input) (s : State) → Has (suc n) s → Has n (step t mode x s).state
  has_rest n x s h j l =
      let e : s.clock + suc j ≡ (step t mode x s).state.clock + j = omega (arith, step_clock t mode x s) in
      subst (λ (c : ℕ). threads_at t mode c ≡ is) e (h (suc j) (omega arith))

  pub end_same : (xs : List Input) (s : State) → Has (length xs) s → end_of (advance t (marks_of t) is) xs s ≡ end_of (step t mode) xs s
  unfolding end_of after
  end_same [] s h = refl
  end_same (x ∷ xs) s h =
      ap (λ (w : Walked). end_of (advance t (marks_of t) is) xs w.state) (step_same x s (has_first (length xs) s h))
      ∙ end_same xs (step t mode x s).state (has_rest (length xs) x s h)

  pub trace-same : (xs : List Input) (s : State) → Has (length xs) s → trace_of (advance t (marks_of t) is) xs s ≡ trace_of (step t mode) xs s
  unfolding trace_of in_turn
  trace-same [] s h = refl
  trace-same (x ∷ xs) s h =
      let e = step_same x s (has_first (length xs) s h) in
      ap (λ (w : Walked). trace w.answer ∷ trace_of (advance t (marks_of t) is) xs w.state) e
      ∙ ap (λ (l : List ℕ). trace (step t mode x s).answer ∷ l) (trace-same xs (step t mode x s).state (has_rest (length xs) x s h))

-- Bytes put at the front stand before those that stay.
sets_front : (xs o : List ℕ) → length xs ≤ length o → sets o 0 xs ≡ xs ++ drop (length xs) o
sets_front xs o h = let e : 0 + length xs ≡ length xs = omega arith in sets-eq xs o 0 (omega arith) ∙ ap (λ (n : ℕ). xs ++ drop n o) e

pub makes : (f : Input → State → Walked) (xs : List Input) (s z : State) (part part' : List ℕ) (n : ℕ) → z ≡ end_of f xs s → part' ≡ sets part 0 (trace_of f xs s)
    → n ≡ length xs → n ≤ length part → ◌≡◌ {A = Blocked} (record { number = 0; values = []; state = z; part = part'; next = n }) (made f xs s part)
unfolding made
makes f xs s z part part' n e p k h =
    let l : length (trace_of f xs s) ≡ length xs = trace-length f s xs in
    let q : part' ≡ trace_of f xs s ++ drop (length xs) part
    = p ∙ sets_front (trace_of f xs s) part (omega arith) ∙ ap (λ (k : ℕ). trace_of f xs s ++ drop k part) l in
    rw (e, q, k)

-- One byte for each thread and step.
pub whole_long : (t : Table) (masks bs : List ℕ) → whole t masks bs ≡ true → length bs ≡ length masks * t.count
unfolding whole
whole_long t masks bs e =
    let b = and_both (eqb (length bs % t.count) 0) _ e in
    let r : length bs % t.count ≡ 0 = eqb-true _ _ b.0 in
    let m : length masks ≡ length bs / t.count = eqb-true _ _ b.1 in
    rw m (omega (arith, div-add-mod' (length bs) t.count, r))

-- What a block that none refuses has.
pub record Passes (t : Table) (masks bs : List ℕ) (s : State) (room : ℕ) : Type 0 where
  pub fitting : fits t s ≡ true
  pub long : length bs ≡ length masks * t.count
  pub early : s.clock + length masks ≤ last_clock
  pub roomy : length masks ≤ room

pub passes : (t : Table) (masks bs : List ℕ) (s : State) (room : ℕ) → refusal_then t masks bs s room ≡ 0 → Passes t masks bs s room
unfolding refusal_then pick
passes t masks bs s room e =
    by_test (fits t s)
    (λ f. by_test (whole t masks bs)
    (λ w. by_test (masks_ok t masks)
    (λ m. by_test (leb (s.clock + length masks) last_clock)
    (λ c. by_test (leb (length masks) room)
    (λ r. record { fitting = f; long = whole_long t masks bs w; early = leb-true _ _ c; roomy = leb-true _ _ r })
    (λ r. let z : refusal_then t masks bs s room ≡ 16 = rw (f, w, m, c, r) in absurd (omega arith)))
    (λ c. let z : refusal_then t masks bs s room ≡ 14 = rw (f, w, m, c) in absurd (omega arith)))
    (λ m. let z : refusal_then t masks bs s room ≡ 18 = rw (f, w, m) in absurd (omega arith)))
    (λ w. let z : refusal_then t masks bs s room ≡ 13 = rw (f, w) in absurd (omega arith)))
    (λ f. let z : refusal_then t masks bs s room ≡ 12 = rw f in absurd (omega arith))

module _ (t : Table) (mode : Mode) (masks bs : List ℕ) (s : State) where
  pub refused_11 : (room : ℕ) → legal t ≡ false → refusal t mode masks bs s room ≡ 11
  unfolding refusal pick
  refused_11 room l = rw l

  pub refused_19 : (room : ℕ) → legal t ≡ true → mode_ok t mode ≡ false → refusal t mode masks bs s room ≡ 19
  unfolding refusal pick
  refused_19 room l o = rw (l, o)

  pub refused-then : (room : ℕ) → legal t ≡ true → mode_ok t mode ≡ true → refusal t mode masks bs s room ≡ refusal_then t masks bs s room
  unfolding refusal pick
  refused-then room l o = rw (l, o)

  pub block_refused : (part : List ℕ) (n : ℕ) → refusal t mode masks bs s (length part) ≡ n → (n ≡ 0 → ⊥) → refused_block n s part ≡ block t mode masks bs s part
  unfolding block pick
  block_refused part n e d = rw (e, ne_eqb n 0 d)

  pub block_made : (part : List ℕ) → refusal t mode masks bs s (length part) ≡ 0
      → made (step t mode) (inputs t masks bs 0 (length masks)) s part ≡ block t mode masks bs s part
  unfolding block pick
  block_made part e = rw e

  -- A block stops behind its last byte, and so inside the part; a refused one at 0.
  pub block-next : (part : List ℕ) → refusal t mode masks bs s (length part) ≡ 0 → (block t mode masks bs s part).next ≡ length masks
  unfolding made
  block-next part e = ap (λ (b : Blocked). b.next) (sym (block_made part e)) ∙ inputs-length t masks bs 0 (length masks)

unframed_has : (t : Table) (c : ℕ) → threads_at t unframed c ≡ order t
unfolding threads_at
unframed_has t c = refl

-- A block of steps in a mode, where none refuses it.
pub mode-made : (t : Table) (mode : Mode) (masks bs : List ℕ) (s z : State) (part part' : List ℕ)
    → z ≡ end_of (step t mode) (inputs t masks bs 0 (length masks)) s → part' ≡ sets part 0 (trace_of (step t mode) (inputs t masks bs 0 (length masks)) s)
    → length masks ≤ length part → refusal t mode masks bs s (length part) ≡ 0
    → ◌≡◌ {A = Blocked} (record { number = 0; values = []; state = z; part = part'; next = length masks }) (block t mode masks bs s part)
mode-made t mode masks bs s z part part' e p h r =
    makes (step t mode) (inputs t masks bs 0 (length masks)) s z part part' (length masks) e p (sym (inputs-length t masks bs 0 (length masks))) h
    ∙ block_made t mode masks bs s part r

-- The same without a frame: the steps go over all threads in their order.
pub unframed_made : (t : Table) (m : List Mark) (is masks bs : List ℕ) (s z : State) (part part' : List ℕ) → m ≡ marks_of t → is ≡ order t
    → z ≡ end_of (advance t m is) (inputs t masks bs 0 (length masks)) s → part' ≡ sets part 0 (trace_of (advance t m is) (inputs t masks bs 0 (length masks)) s)
    → length masks ≤ length part → refusal t unframed masks bs s (length part) ≡ 0
    → ◌≡◌ {A = Blocked} (record { number = 0; values = []; state = z; part = part'; next = length masks }) (block t unframed masks bs s part)
unframed_made t m is masks bs s z part part' a b e p h r =
    let xs : List Input = inputs t masks bs 0 (length masks) in
    let u : end_of (advance t m is) xs s ≡ end_of (step t unframed) xs s
    = ap (λ (n : List Mark). end_of (advance t n is) xs s) a ∙ ap (λ (l : List ℕ). end_of (advance t (marks_of t) l) xs s) b
    ∙ end_same t unframed (order t) xs s (λ j l. unframed_has t (s.clock + j)) in
    let v : trace_of (advance t m is) xs s ≡ trace_of (step t unframed) xs s
    = ap (λ (n : List Mark). trace_of (advance t n is) xs s) a ∙ ap (λ (l : List ℕ). trace_of (advance t (marks_of t) l) xs s) b
    ∙ trace-same t unframed (order t) xs s (λ j l. unframed_has t (s.clock + j)) in
    mode-made t unframed masks bs s z part part' (e ∙ u) (p ∙ ap (λ (l : List ℕ). sets part 0 l) v) h r

-- The clock of a state that fits.
pub fits_early : (t : Table) (s : State) → fits t s ≡ true → s.clock ≤ last_clock
unfolding fits
fits_early t s e = leb-true _ _ (and_both (leb s.clock last_clock) _ e).0
