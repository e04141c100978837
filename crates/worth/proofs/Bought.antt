-- Q-12: what a bound is worth, for one release of one thread in one run.
use Prim.Native.Nat.{ℕ, zero, suc, ◌+◌, ◌-◌, ◌<◌}
use mathlib.Core.Path.{◌≡◌, ◌∙◌, ap}
use mathlib.Core.List.{List, [], ◌∷◌}
use mathlib.Core.Bool.{true}
use native.Mathlib.Omega.{arith}
use lib.ListN.{length, get_or, take, drop, replicate}
use lib.Seq.{take-add}
use Rattle.basis.specs.Told.{answered}
use Rattle.basis.proofs.TurnLaws.{turns-take, turns-drop, after_join}
use Rattle.table.specs.Threads.{thread}
use Rattle.table.specs.Legal.{Legal, Sized}
use Rattle.table.specs.declared.Table.{Table}
use Rattle.table.proofs.LegalLaws.{legal_sound}
use Rattle.state.specs.State.{progress, fresh, Fits}
use Rattle.state.specs.Release.{releases}
use Rattle.state.specs.declared.State.{State}
use Rattle.state.proofs.FitLaws.{fresh-fits}
use Rattle.frame.specs.Mode.{unframed}
use Rattle.walk.specs.Step.{Input, quiet}
use Rattle.walk.specs.Paid.{payments, runs_of}
use Rattle.walk.proofs.MostLaws.{Room}
use Rattle.scheduler.specs.Taken.{Taken, taken}
use Rattle.scheduler.specs.Calls.{calls}
use Rattle.admission.specs.Admit.{admitting, bounds_given}
use Rattle.worth.specs.Worth.{from, after_calls, calls_of, state_at, ReleasedAt, numbers, bytes_of, runs_told, BoundedRelease, Bought, PaysBudget, Worth}
use Rattle.worth.specs.Premises.{seen}
use Rattle.worth.proofs.BoundedLaws.{Bounded, bounded_by, admitted_bound}
use Rattle.worth.proofs.MostLaws.{onward}
use Rattle.worth.proofs.BusyLaws.{Busy, busy-next, busy-fresh}
use Rattle.worth.proofs.PaysLaws.{Starts, pays-from}
use Rattle.worth.proofs.RunLaws.{runs-from, counts_on}
use Rattle.worth.proofs.CallLaws.{Ones, ones_of, calls_keep, Made, made}

-- The release is the first of the steps from place r on.
starts_from : (t : Table) (i n r : ℕ) (run : List Input) (s : State) → releases t i (get_or run r (quiet [])).mask s ≡ true → Starts t i (from r n run) s
starts_from t i zero r run s h = tt
starts_from t i (suc n) zero [] s h = tt
starts_from t i (suc n) zero (y ∷ run) s h = h
starts_from t i (suc n) (suc r) [] s h = tt
starts_from t i (suc n) (suc r) (y ∷ run) s h = starts_from t i (suc n) r run s h

module _ (t : Table) (z : Sized t) (i x r : ℕ) (run : List Input) (b : BoundedRelease t i x r run) where
  abbrev bound : Bounded t i x
  bound = bounded_by t i x b.bounded

  g : Legal t
  g = legal_sound t z bound.lawful

  abbrev due : State
  due = state_at t run r

  abbrev part : List Input
  part = from r x run

  -- the state when the release is due, by the calls before it
  reached : Fits t due × Busy t i x due
  reached = calls_keep t (Busy t i x) (busy-next t i g x bound.is.holds (g.threads i bound.in_table).budget_low) (take r run) (fresh t)
      (fresh-fits t g.count_high, busy-fresh t i g x bound.is.holds (g.threads i bound.in_table).budget_low)

  -- the calls from there on
  same-calls : from r x (calls_of t run) ≡ calls t unframed part due
  unfolding calls
  same-calls =
      ap (take x) (turns-drop (taken t unframed) (λ (c : Taken). c.state) r run (fresh t))
      ∙ turns-take (taken t unframed) (λ (c : Taken). c.state) x (drop r run) due

  made-part : Made t x part due
  made-part = made t x part due reached.0 (rw same-calls at b.makes)

  starts : Starts t i part due
  starts = starts_from t i x r run due b.release

  pays : payments t unframed i part due ≡ (thread t i).budget
  pays = pays-from t g i bound.in_table due reached.0 x bound.is.holds bound.is.to_deadline reached.1 part made-part.room starts made-part.many

  ran : bytes_of i part ≡ replicate x 1 → runs_of t unframed i part due ≡ (thread t i).budget - (thread t i).blocking
  ran o =
      go part made-part.many made-part.room starts pays (ones_of i x part o)
    where
      go : (a : List Input) → length a ≡ x → Room a due → Starts t i a due → payments t unframed i a due ≡ (thread t i).budget → Ones i a
          → runs_of t unframed i a due ≡ (thread t i).budget - (thread t i).blocking
      go [] n m h p o = absurd (omega (arith, bound.is.from_budget, (g.threads i bound.in_table).budget_low))
      go (y ∷ a) n m h p o = runs-from t g i bound.in_table y a due reached.0 m h (omega (arith, bound.is.to_deadline)) o p

  ends : state_at t run (r + x) ≡ onward t part due
  ends =
      ap (λ (a : List Input). after_calls t a (fresh t)) (take-add r x run)
      ∙ after_join (taken t unframed) (λ (c : Taken). c.state) (take r run) part (fresh t) ∙ made-part.ends

  bought : bytes_of i part ≡ replicate x 1 → Bought t i x r run
  bought o =
      let told : runs_told i (from r x (calls_of t run)) ≡ runs_of t unframed i part due = ap (runs_told i) same-calls ∙ made-part.ran i in
      let counted : (progress (state_at t run (r + x)) i).ran ≡ (progress due i).ran + runs_of t unframed i part due
      = ap (λ (s : State). (progress s i).ran) ends ∙ counts_on t g i bound.in_table part due reached.0 made-part.room in
      record { runs = omega (arith, told, ran o); counts = omega (arith, counted, ran o) }

-- The core: in the x steps from a release on the thread pays W.
pub pays_budget : (t : Table) → Sized t → PaysBudget t
pays_budget t z i x r run b = omega (arith, pays t z i x r run b)

-- What admission buys.
pub what_admission_buys : (t : Table) → Sized t → Worth t
what_admission_buys t z i x r run b o = bought t z i x r run b o

-- The same by `admit`: of a table that is admitted each thread has its x beside the answer.
pub admitted_buys : (t : Table) → Sized t → admitting t ≡ answered [] → (i r : ℕ) (run : List Input) → i < t.count → ReleasedAt t i run r
    → numbers (from r (get_or (bounds_given t) i 0) (calls_of t run)) ≡ replicate (get_or (bounds_given t) i 0) 0
    → bytes_of i (from r (get_or (bounds_given t) i 0) run) ≡ replicate (get_or (bounds_given t) i 0) 1 → Bought t i (get_or (bounds_given t) i 0) r run
admitted_buys t z e i r run l h n o = what_admission_buys t z i _ r run (record { bounded = admitted_bound t e i l; release = h; makes = n }) o

-- What a class sees of a thread (`seen`) are these very premises, and what it runs.
pub seen_buys : (t : Table) → Sized t → (i x r : ℕ) (run : List Input)
    → (seen t unframed (fresh t) i run r x).bound ≡ answered (x ∷ []) → (seen t unframed (fresh t) i run r x).release ≡ true
    → (seen t unframed (fresh t) i run r x).numbers ≡ replicate x 0 → (seen t unframed (fresh t) i run r x).bytes ≡ replicate x 1
    → (seen t unframed (fresh t) i run r x).ran ≡ (seen t unframed (fresh t) i run r x).worth
unfolding seen
seen_buys t z i x r run b e n o = (what_admission_buys t z i x r run (record { bounded = b; release = e; makes = n }) o).runs
