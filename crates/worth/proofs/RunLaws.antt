-- A thread that sends 1 from its release on: while it has execution left it runs at each step in which it pays, so that its execution is no
-- more than what its rest is above B, and nothing once it has paid W.
use Prim.Native.Nat.{ℕ, ◌+◌, ◌-◌, ◌≤◌, ◌<◌}
use mathlib.Core.Path.{◌≡◌, sym, ◌∙◌, ap, subst}
use mathlib.Core.List.{List, [], ◌∷◌}
use mathlib.Core.Bool.{true, false}
use native.Mathlib.Omega.{arith}
use borrow.Author.Tests.{eqb-true, eqb-false}
use lib.ListN.{length, get_or}
use lib.Dec.{eqb}
use Rattle.basis.specs.Turns.{after}
use Rattle.basis.proofs.TestLaws.{by_test}
use Rattle.table.specs.Threads.{thread}
use Rattle.table.specs.Legal.{Legal}
use Rattle.table.specs.declared.Table.{Table}
use Rattle.state.specs.State.{progress, Fits}
use Rattle.state.specs.Release.{has_event, release, releases}
use Rattle.state.specs.declared.Progress.{Progress}
use Rattle.state.specs.declared.State.{State}
use Rattle.state.proofs.ReleaseLaws.{release-at, released-ran}
use Rattle.frame.specs.Mode.{unframed}
use Rattle.walk.specs.Step.{Input, step}
use Rattle.walk.specs.Paid.{payments, runs_of}
use Rattle.walk.proofs.CountLaws.{step-runs, step_counts}
use Rattle.walk.proofs.MostLaws.{Room, room_later, fits-later, pays_from_rest}
use Rattle.worth.proofs.PayerLaws.{stays_unmarked, pays_by_running}
use Rattle.worth.proofs.MostLaws.{onward}
use Rattle.worth.proofs.SinceLaws.{Since, calm, since_next, since_release, fills}
use Rattle.worth.proofs.PaysLaws.{left-from}
use Rattle.worth.proofs.CallLaws.{Ones}

-- A progress that is not marked, and whose execution is no more than what its rest is above b.
pub record Going (b : ℕ) (p : Progress) : Type 0 where
  pub unmarked : p.finished ≡ false
  pub within : p.execution ≤ p.rest - b

module _ (t : Table) (g : Legal t) (i : ℕ) (l : i < t.count) where
  abbrev share : ℕ
  share = (thread t i).blocking

  in_place : (s : State) → Fits t s → i < length s.threads
  in_place s f = omega (arith, f.long, g.count_high)

  step_going : (y : Input) (s : State) → Fits t s → get_or y.bytes i 0 ≡ 1 → Going share (progress (release t y.mask s) i)
      → Going share (progress (step t unframed y s).state i)
  step_going y s f one h =
      let ended = step-runs t unframed y s i (in_place s f) in
      let paid = pays_from_rest t unframed y s i in
      record {
        unmarked = stays_unmarked t g y s f i l one h.unmarked;
        within = by_test (eqb (progress (release t y.mask s) i).execution 0)
            (λ e. let z : (progress (release t y.mask s) i).execution ≡ 0 = eqb-true _ _ e in omega (arith, ended))
            (λ e. let d = eqb-false (progress (release t y.mask s) i).execution 0 e in
            omega (arith, ended, paid, h.within, pays_by_running t g y s f i l one h.unmarked (omega (arith, d))));
      }

  -- what becomes of a progress p over steps
  record Through (a : List Input) (s : State) (p : Progress) : Type 0 where
    going : Going share (progress (onward t a s) i)
    spent : (progress (onward t a s) i).execution + runs_of t unframed i a s ≡ p.execution

  through_on : (y : Input) (a : List Input) (s : State) → Fits t s
      → Through a (step t unframed y s).state (progress (step t unframed y s).state i)
      → Through (y ∷ a) s (progress (release t y.mask s) i)
  unfolding after runs_of
  through_on y a s f h = record {
    going = h.going;
    spent = omega (arith, step-runs t unframed y s i (in_place s f), h.spent);
  }

  through_calm : (a : List Input) (s : State) → Fits t s → Room a s → (n : ℕ) → 1 ≤ n → n + length a ≤ (thread t i).deadline → Since t i n s
      → Ones i a → Going share (progress s i) → Through a s (progress s i)
  unfolding after runs_of
  through_calm [] s f r n low high c o h = record { going = h; spent = omega arith }
  through_calm (y ∷ a) s f r n low high c o h =
      let e : progress (release t y.mask s) i ≡ progress s i = calm t g i l y s f n low (omega arith) c in
      subst (λ (p : Progress). Through (y ∷ a) s p) e
      (through_on y a s f
      (through_calm a (step t unframed y s).state (fits-later t unframed y a s f r) (room_later t unframed y a s r) (n + 1) (omega arith) (omega arith)
      (since_next t g i l y s f n low (omega arith) c) o.1
      (step_going y s f o.0 (subst (λ (p : Progress). Going share p) (sym e) h))))

  -- From its release on up to the deadline: once it has paid W, it has run W - B.
  pub runs-from : (y : Input) (a : List Input) (s : State) → Fits t s → Room (y ∷ a) s → releases t i y.mask s ≡ true
      → length (y ∷ a) ≤ (thread t i).deadline → Ones i (y ∷ a) → payments t unframed i (y ∷ a) s ≡ (thread t i).budget
      → runs_of t unframed i (y ∷ a) s ≡ (thread t i).budget - (thread t i).blocking
  runs-from y a s f r rel d o paid =
      let full = fills t g i l y s f rel in
      let w : Through (y ∷ a) s (progress (release t y.mask s) i)
      = through_on y a s f
      (through_calm a (step t unframed y s).state (fits-later t unframed y a s f r) (room_later t unframed y a s r) 1 (omega arith) (omega arith)
      (since_release t g i l y s f rel) o.1
      (step_going y s f o.0 (record { unmarked = full.unmarked; within = omega (arith, full.rest, full.execution) }))) in
      omega (arith, w.spent, w.going.within, full.execution, left-from t g i l s f y a r rel d)

  -- Its count goes up by how often it runs.
  pub counts_on : (a : List Input) (s : State) → Fits t s → Room a s
      → (progress (onward t a s) i).ran ≡ (progress s i).ran + runs_of t unframed i a s
  unfolding after runs_of
  counts_on [] s f r = omega arith
  counts_on (y ∷ a) s f r =
      let z : State = (step t unframed y s).state in
      let same : (progress (release t y.mask s) i).ran ≡ (progress s i).ran
      = ap (λ (p : Progress). p.ran) (release-at t y.mask s i l (in_place s f)) ∙ released-ran (thread t i) s.clock (has_event y.mask i) (progress s i) in
      omega (arith, same, step_counts t unframed y s g.count_high f i l, counts_on a z (fits-later t unframed y a s f r) (room_later t unframed y a s r))
