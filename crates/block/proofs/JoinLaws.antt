-- Stretches one after the other are one.
use Prim.Native.Nat.{ℕ, zero, suc, ◌+◌, ◌<◌}
use mathlib.Core.Path.{◌≡◌, sym, ◌∙◌, ap}
use mathlib.Core.List.{List, [], ◌∷◌, ◌++◌, map, map-append, append_assoc, append-nil}
use native.Mathlib.Omega.{arith}
use native.Mathlib.Nat.{add-zero, add-suc, zero-add}
use lib.ListN.{length}
use lib.Seq.{sets}
use Rattle.basis.specs.Search.{listed}
use Rattle.basis.specs.Turns.{in_turn}
use Rattle.basis.proofs.TurnLaws.{turns_join, after_join}
use Rattle.table.specs.Mark.{marks_of}
use Rattle.table.specs.Mark.{Mark}
use Rattle.table.specs.declared.Table.{Table}
use Rattle.state.specs.declared.State.{State}
use Rattle.frame.specs.Mode.{Mode, threads_at}
use Rattle.walk.specs.Step.{Input, advance, step}
use Rattle.walk.specs.declared.Walked.{Walked}
use Rattle.block.specs.Block.{trace, input_at, inputs, end_of, trace_of}
use Rattle.block.proofs.StretchLaws.{sets_join, trace-length, inputs-length}
use Rattle.block.proofs.RunLaws.{end_same, trace-same}

pub inputs_join : (t : Table) (masks bs : List ℕ) (k n : ℕ) → inputs t masks bs 0 (k + n) ≡ inputs t masks bs 0 k ++ inputs t masks bs k n
unfolding inputs listed
inputs_join t masks bs k zero = ap (λ (m : ℕ). inputs t masks bs 0 m) (add-zero k) ∙ sym (append-nil (inputs t masks bs 0 k))
inputs_join t masks bs k (suc n) =
    ap (λ (m : ℕ). inputs t masks bs 0 m) (add-suc k n)
    ∙ ap (λ (m : ℕ). inputs t masks bs 0 (k + n) ++ (input_at t masks bs m ∷ [])) (zero-add (k + n))
    ∙ ap (λ (xs : List Input). xs ++ (input_at t masks bs (k + n) ∷ [])) (inputs_join t masks bs k n)
    ∙ append_assoc (inputs t masks bs 0 k) (inputs t masks bs k n) (input_at t masks bs (k + n) ∷ [])

module _ (f : Input → State → Walked) (s : State) (xs ys : List Input) where
  pub end_join : end_of f (xs ++ ys) s ≡ end_of f ys (end_of f xs s)
  unfolding end_of
  end_join = after_join f (λ (w : Walked). w.state) xs ys s

  pub trace_join : trace_of f (xs ++ ys) s ≡ trace_of f xs s ++ trace_of f ys (end_of f xs s)
  unfolding trace_of end_of
  trace_join =
      ap (map (λ (w : Walked). trace w.answer)) (turns_join f (λ (w : Walked). w.state) xs ys s)
      ∙ map-append (λ (w : Walked). trace w.answer) (in_turn f (λ (w : Walked). w.state) xs s) _

-- One stretch more: its threads are those of the mode at each of its clocks.
module _ (t : Table) (mode : Mode) (m : List Mark) (a : m ≡ marks_of t) (is masks bs : List ℕ) (s y : State) (k n : ℕ) (p : y ≡ end_of (step t mode) (inputs t masks bs 0 k) s)
    (stay : (j : ℕ) → j < n → threads_at t mode (y.clock + j) ≡ is) where
  stays : (j : ℕ) → j < length (inputs t masks bs k n) → threads_at t mode (y.clock + j) ≡ is
  stays j l = stay j (omega (arith, inputs-length t masks bs k n))

  pub stretch_end : (z : State) → z ≡ end_of (advance t m is) (inputs t masks bs k n) y → z ≡ end_of (step t mode) (inputs t masks bs 0 (k + n)) s
  stretch_end z e =
      e ∙ ap (λ (l : List Mark). end_of (advance t l is) (inputs t masks bs k n) y) a ∙ end_same t mode is (inputs t masks bs k n) y stays
      ∙ ap (λ (x : State). end_of (step t mode) (inputs t masks bs k n) x) p
      ∙ sym (end_join (step t mode) s (inputs t masks bs 0 k) (inputs t masks bs k n))
      ∙ ap (λ (xs : List Input). end_of (step t mode) xs s) (sym (inputs_join t masks bs k n))

  pub stretch-trace : (o u v : List ℕ) → u ≡ sets o 0 (trace_of (step t mode) (inputs t masks bs 0 k) s)
      → v ≡ sets u k (trace_of (advance t m is) (inputs t masks bs k n) y) → v ≡ sets o 0 (trace_of (step t mode) (inputs t masks bs 0 (k + n)) s)
  stretch-trace o u v e q =
      let d : List ℕ = trace_of (step t mode) (inputs t masks bs 0 k) s in
      let b : List ℕ = trace_of (step t mode) (inputs t masks bs k n) y in
      let w : List ℕ = trace_of (step t mode) (inputs t masks bs 0 (k + n)) s in
      let c : 0 + length d ≡ k = omega (arith, trace-length (step t mode) s (inputs t masks bs 0 k), inputs-length t masks bs 0 k) in
      let j : w ≡ d ++ b
      = ap (λ (xs : List Input). trace_of (step t mode) xs s) (inputs_join t masks bs k n)
      ∙ trace_join (step t mode) s (inputs t masks bs 0 k) (inputs t masks bs k n)
      ∙ ap (λ (x : State). d ++ trace_of (step t mode) (inputs t masks bs k n) x) (sym p) in
      q ∙ ap (λ (l : List Mark). sets u k (trace_of (advance t l is) (inputs t masks bs k n) y)) a
      ∙ ap (λ (l : List ℕ). sets u k l) (trace-same t mode is (inputs t masks bs k n) y stays)
      ∙ ap (λ (l : List ℕ). sets l k b) e
      ∙ ap (λ (i : ℕ). sets (sets o 0 d) i b) (sym c)
      ∙ sets_join d b o 0
      ∙ ap (λ (l : List ℕ). sets o 0 l) (sym j)
