-- Steps in turn: one more, how far the clock goes, that the state fits on, and what has been written.
use Prim.Native.Nat.{ℕ, suc, ◌+◌, ◌-◌, ◌*◌, ◌≤◌, ◌<◌}
use mathlib.Core.Path.{◌≡◌, sym, ◌∙◌, ap, subst}
use mathlib.Core.List.{List, [], ◌∷◌, ◌++◌, map, map-append}
use native.Mathlib.Omega.{arith}
use native.Mathlib.Numerals.{add-one}
use native.Mathlib.Nat.{add-zero, suc-mul, mul-le-mul_right}
use lib.ListN.{length, get_or, set, take, drop, length-map, length-drop}
use lib.Seq.{sets, length-sets, length-take-le}
use Rattle.basis.specs.Search.{listed}
use Rattle.basis.specs.Turns.{in_turn, after}
use Rattle.basis.proofs.SearchLaws.{length-listed}
use Rattle.basis.proofs.TurnLaws.{turns-length, turns_join, after_join}
use Rattle.table.specs.Threads.{thread}
use Rattle.table.specs.declared.Table.{Table}
use Rattle.table.specs.Mark.{Mark}
use Rattle.state.specs.State.{last_clock, each_thread, Fits}
use Rattle.state.specs.Release.{has_event, release}
use Rattle.state.specs.Methods.{tick}
use Rattle.state.specs.Given.{Counted}
use Rattle.state.specs.declared.State.{State}
use Rattle.state.proofs.StateLaws.{each-length}
use Rattle.state.proofs.TickLaws.{tick-leaves}
use Rattle.state.proofs.FitLaws.{release-fits}
use Rattle.walk.specs.Walk.{walk}
use Rattle.walk.specs.Step.{Input, advance}
use Rattle.walk.specs.declared.Walked.{Walked}
use Rattle.block.specs.Block.{trace, input_at, inputs, end_of, trace_of}
use Rattle.block.proofs.ThreadLaws.{moved}
use Rattle.block.proofs.EarlyLaws.{early}
use Rattle.block.proofs.VisitLaws.{Traces}

-- Two runs of bytes put one after the other are one.
pub sets_join : (xs ys l : List ℕ) (i : ℕ) → sets (sets l i xs) (i + length xs) ys ≡ sets l i (xs ++ ys)
sets_join [] ys l i = rw add-zero
sets_join (x ∷ xs) ys l i =
    let e : i + suc (length xs) ≡ suc i + length xs = omega arith in rw e (sets_join xs ys (set l i x) (suc i))

module _ (f : Input → State → Walked) (s : State) where
  -- One step more.
  pub end_next : (xs : List Input) (x : Input) → end_of f (xs ++ (x ∷ [])) s ≡ (f x (end_of f xs s)).state
  unfolding end_of after
  end_next xs x = after_join f (λ (w : Walked). w.state) xs (x ∷ []) s

  pub trace-next : (xs : List Input) (x : Input) → trace_of f (xs ++ (x ∷ [])) s ≡ trace_of f xs s ++ (trace (f x (end_of f xs s)).answer ∷ [])
  unfolding trace_of end_of in_turn
  trace-next xs x =
      ap (map (λ (w : Walked). trace w.answer)) (turns_join f (λ (w : Walked). w.state) xs (x ∷ []) s)
      ∙ map-append (λ (w : Walked). trace w.answer) (in_turn f (λ (w : Walked). w.state) xs s) _

  -- One byte a step.
  pub trace-length : (xs : List Input) → length (trace_of f xs s) ≡ length xs
  unfolding trace_of
  trace-length xs =
      length-map (in_turn f (λ (w : Walked). w.state) xs s) (λ (w : Walked). trace w.answer) ∙ turns-length f (λ (w : Walked). w.state) xs s

module _ (t : Table) (masks bs : List ℕ) (from : ℕ) where
  pub inputs-next : (k : ℕ) → inputs t masks bs from (k + 1) ≡ inputs t masks bs from k ++ (input_at t masks bs (from + k) ∷ [])
  unfolding inputs listed
  inputs-next k = rw (add-one k)

  pub inputs-length : (k : ℕ) → length (inputs t masks bs from k) ≡ k
  unfolding inputs
  inputs-length k = length-listed k (λ j. input_at t masks bs (from + j))

-- Steps that each move the clock by one and keep a fitting state.
module _ (t : Table) (f : Input → State → Walked) (ticks : (x : Input) (s : State) → (f x s).state.clock ≡ s.clock + 1) where
  end_clock : (xs : List Input) (s : State) → (end_of f xs s).clock ≡ s.clock + length xs
  unfolding end_of after
  end_clock [] s = omega arith
  end_clock (x ∷ xs) s = end_clock xs (f x s).state ∙ omega (arith, ticks x s)

  module _ (keeps : (x : Input) (s : State) → Fits t s → s.clock < last_clock → Fits t (f x s).state) where
    end_fits : (xs : List Input) (s : State) → Fits t s → s.clock + length xs ≤ last_clock → Fits t (end_of f xs s)
    unfolding end_of after
    end_fits [] s h l = h
    end_fits (x ∷ xs) s h l = end_fits xs (f x s).state (keeps x s h (omega arith)) (omega (arith, ticks x s))

    -- The same of a state that is known by an equation, as a loop has it.
    pub fits-at : (masks bs : List ℕ) (from k : ℕ) (s z : State) → z ≡ end_of f (inputs t masks bs from k) s → Fits t s
        → s.clock + k ≤ last_clock → Fits t z
    fits-at masks bs from k s z e h l =
        subst (Fits t) (sym e) (end_fits (inputs t masks bs from k) s h (omega (arith, inputs-length t masks bs from k)))

  pub clock_at : (masks bs : List ℕ) (from k : ℕ) (s z : State) → z ≡ end_of f (inputs t masks bs from k) s → z.clock ≡ s.clock + k
  clock_at masks bs from k s z e =
      ap (λ (y : State). y.clock) e ∙ end_clock (inputs t masks bs from k) s ∙ omega (arith, inputs-length t masks bs from k)

-- Release and tick under way, and at their end.
module _ (t : Table) (mask : ℕ) (y : State) (h : Fits t y) where
  pub moved_long : (i : ℕ) (z : State) → z ≡ each_thread (λ k. moved (thread t k) y.clock (has_event mask k)) i y → length z.threads ≡ 32
  moved_long i z e =
      ap (λ (x : State). length x.threads) e ∙ each-length (λ k. moved (thread t k) y.clock (has_event mask k)) i y ∙ h.long

  pub moved-counted : (z : State) → y.clock < last_clock → z ≡ tick t (release t mask y) → Counted 999999999 z
  moved-counted z l e =
      let r = release-fits t mask y h in
      subst (Counted 999999999) (sym e) (record { at = λ i. omega (arith, (r.at i).ran_high, (tick-leaves t (release t mask y) i).3, l) })

-- One step, by what release and tick, and then the walk leave.
module _ (t : Table) (m : List Mark) (is : List ℕ) (x : Input) (y r w : State) (a : ℕ) (q : r ≡ tick t (release t x.mask y))
    (d : Traces (walk m x.bytes is r) w a) where
  stepped : walk m x.bytes is r ≡ advance t m is x y
  stepped = ap (λ (z : State). walk m x.bytes is z) q ∙ early t m is x y

  step-state : w ≡ (advance t m is x y).state
  step-state = sym d.state ∙ ap (λ (z : Walked). z.state) stepped

  step-byte : trace (advance t m is x y).answer ≡ a
  step-byte = ap (λ (z : Walked). trace z.answer) (sym stepped) ∙ d.byte

-- One turn of the loop over the steps.
module _ (t : Table) (m : List Mark) (is masks bs : List ℕ) (s : State) (from k : ℕ) (y r w : State) (now : List ℕ) (a : ℕ)
    (p : y ≡ end_of (advance t m is) (inputs t masks bs from k) s) (b : now ≡ take t.count (drop ((from + k) * t.count) bs))
    (q : r ≡ tick t (release t (get_or masks (from + k) 0) y)) (d : Traces (walk m now is r) w a) where
  abbrev given : Input
  given = record { mask = get_or masks (from + k) 0; bytes = now }

  same : given ≡ input_at t masks bs (from + k)
  unfolding input_at
  same = rw b

  pub next-state : w ≡ end_of (advance t m is) (inputs t masks bs from (k + 1)) s
  next-state =
      step-state t m is given y r w a q d
      ∙ ap (λ (u : Input). (advance t m is u y).state) same
      ∙ ap (λ (z : State). (advance t m is (input_at t masks bs (from + k)) z).state) p
      ∙ sym (end_next (advance t m is) s (inputs t masks bs from k) (input_at t masks bs (from + k)))
      ∙ ap (λ (xs : List Input). end_of (advance t m is) xs s) (sym (inputs-next t masks bs from k))

  byte-now : trace (advance t m is (input_at t masks bs (from + k)) (end_of (advance t m is) (inputs t masks bs from k) s)).answer ≡ a
  byte-now =
      ap (λ (z : State). trace (advance t m is (input_at t masks bs (from + k)) z).answer) (sym p)
      ∙ ap (λ (u : Input). trace (advance t m is u y).answer) (sym same)
      ∙ step-byte t m is given y r w a q d

  longer : trace_of (advance t m is) (inputs t masks bs from (k + 1)) s ≡ trace_of (advance t m is) (inputs t masks bs from k) s ++ (a ∷ [])
  longer =
      ap (λ (xs : List Input). trace_of (advance t m is) xs s) (inputs-next t masks bs from k)
      ∙ trace-next (advance t m is) s (inputs t masks bs from k) (input_at t masks bs (from + k))
      ∙ ap (λ (n : ℕ). trace_of (advance t m is) (inputs t masks bs from k) s ++ (n ∷ [])) byte-now

  pub next-trace : (o z : List ℕ) → z ≡ sets o from (trace_of (advance t m is) (inputs t masks bs from k) s)
      → set z (from + k) a ≡ sets o from (trace_of (advance t m is) (inputs t masks bs from (k + 1)) s)
  next-trace o z e =
      let l : List ℕ = trace_of (advance t m is) (inputs t masks bs from k) s in
      let n : length l ≡ k = trace-length (advance t m is) s (inputs t masks bs from k) ∙ inputs-length t masks bs from k in
      ap (λ (u : List ℕ). set u (from + k) a) e
      ∙ ap (λ (j : ℕ). set (sets o from l) (from + j) a) (sym n)
      ∙ sets_join l (a ∷ []) o from
      ∙ ap (λ (u : List ℕ). sets o from u) (sym longer)

-- What is written leaves the length.
pub sets_room : (o z : List ℕ) (from : ℕ) (xs : List ℕ) → z ≡ sets o from xs → length z ≡ length o
sets_room o z from xs e = ap (λ (u : List ℕ). length u) e ∙ length-sets o from xs

-- The bytes of step k stand within those of n steps.
pub part-inside : (k n c : ℕ) → k < n → k * c + c ≤ n * c
part-inside k n c h = rw (← suc-mul k c) (mul-le-mul_right c h)

pub part-is : (at k n : ℕ) (bs : List ℕ) → at ≡ k * n → take (at + n - at) (drop at bs) ≡ take n (drop (k * n) bs)
part-is at k n bs e = let q : at + n - at ≡ n = omega arith in rw (q, e)

pub part_length : (at n : ℕ) (bs : List ℕ) → at + n ≤ length bs → length (take (at + n - at) (drop at bs)) ≡ n
part_length at n bs h =
    let q : at + n - at ≡ n = omega arith in
    rw q (length-take-le n (drop at bs) (rw (length-drop at bs) (omega arith)))

pub next-part : (at from k n : ℕ) → at ≡ (from + k) * n → at + n ≡ (from + (k + 1)) * n
next-part at from k n e =
    let q : from + (k + 1) ≡ suc (from + k) = omega arith in
    rw (q, suc-mul (from + k) n, e)
