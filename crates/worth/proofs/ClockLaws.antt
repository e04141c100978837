-- A run in which no call is refused: call r stands at clock r, so that the clock tells the releases of a periodic thread.
use Prim.Native.Nat.{ℕ, zero, suc, ◌+◌, ◌-◌, ◌%◌, ◌≤◌, ◌<◌}
use mathlib.Core.Path.{◌≡◌, refl, sym, ◌∙◌, ap}
use mathlib.Core.List.{List, [], ◌∷◌, map}
use mathlib.Core.Bool.{true}
use mathlib.Core.Logic.{◌≢◌}
use native.Mathlib.Omega.{arith}
use lib.ListN.{length, get_or, take, replicate}
use Rattle.basis.specs.Told.{answered}
use Rattle.basis.specs.Turns.{in_turn}
use Rattle.basis.proofs.TurnLaws.{turns-take}
use Rattle.table.specs.Threads.{thread}
use Rattle.table.specs.Legal.{legal, Sized}
use Rattle.table.specs.declared.Table.{Table}
use Rattle.table.proofs.LegalLaws.{legal_sound}
use Rattle.state.specs.State.{fresh, last_clock, execution_budget, Fits}
use Rattle.state.specs.Release.{by_the_clock}
use Rattle.state.specs.declared.State.{State}
use Rattle.state.proofs.ReleaseLaws.{releases_exactly}
use Rattle.state.proofs.FitLaws.{fresh-fits, fits_complete}
use Rattle.state.proofs.StartLaws.{fresh_clock}
use Rattle.frame.specs.Mode.{unframed}
use Rattle.frame.proofs.ModeLaws.{unframed_passes}
use Rattle.walk.specs.Step.{Input, quiet, step}
use Rattle.walk.specs.Paid.{payments}
use Rattle.walk.proofs.StepLaws.{step_clock, step_fits}
use Rattle.scheduler.specs.Taken.{Taken, took, taken, mask_ok}
use Rattle.scheduler.specs.Calls.{quietly, calls, WholeSteps, ended, next}
use Rattle.scheduler.proofs.RefusalLaws.{taken-steps}
use Rattle.admission.specs.Bounded.{bounding}
use Rattle.worth.specs.Worth.{from, calls_of, state_at, numbers, bytes_of, runs_told, BoundedRelease, Bought, ClockRelease}
use Rattle.worth.proofs.BoundedLaws.{bounded_by}
use Rattle.worth.proofs.MostLaws.{onward_clock}
use Rattle.worth.proofs.CallLaws.{Made, made}
use Rattle.worth.proofs.Bought.{pays_budget, what_admission_buys}

module _ (t : Table) (ok : legal t ≡ true) where
  step-taken : (y : Input) (s : State) → Fits t s → length y.bytes ≡ t.count → mask_ok t y.mask ≡ true → s.clock < last_clock
      → taken t unframed y s ≡ took (step t unframed y s)
  step-taken y s f e m c = taken-steps t unframed y s ok (unframed_passes t) (fits_complete t s f) e m c

  -- each call is given 0
  whole_makes : (r x : ℕ) (a : List Input) → WholeSteps t a → (s : State) → Fits t s → s.clock + length a ≤ last_clock → r + x ≤ length a
      → numbers (from r x (calls t unframed a s)) ≡ replicate x 0
  unfolding calls in_turn
  whole_makes zero zero a w s f c l = refl
  whole_makes zero (suc x) a ended s f c l = absurd (omega arith)
  whole_makes zero (suc x) a (next {x = y} {more} e m w) s f c l =
      rw (step-taken y s f e m (omega arith))
      (ap (λ (ns : List ℕ). 0 ∷ ns)
      (whole_makes zero x more w (step t unframed y s).state (step_fits t unframed y s f (omega arith)) (omega (arith, step_clock t unframed y s)) (omega arith)))
  whole_makes (suc r) x a ended s f c l = absurd (omega arith)
  whole_makes (suc r) x a (next {x = y} {more} e m w) s f c l =
      rw (step-taken y s f e m (omega arith))
      (whole_makes r x more w (step t unframed y s).state (step_fits t unframed y s f (omega arith)) (omega (arith, step_clock t unframed y s)) (omega arith))

module _ (t : Table) (z : Sized t) (i x r : ℕ) (run : List Input) (b : ClockRelease t i x r run) where
  ok : legal t ≡ true
  ok = (bounded_by t i x b.bounded).lawful

  begins : Fits t (fresh t)
  begins = fresh-fits t (legal_sound t z ok).count_high

  early : (fresh t).clock + length run ≤ last_clock
  early = omega (arith, fresh_clock t, b.clocks)

  -- the calls before call r are r steps
  before : Made t r (take r run) (fresh t)
  unfolding calls
  before =
      made t r (take r run) (fresh t) begins
      (ap numbers (sym (turns-take (taken t unframed) (λ (c : Taken). c.state) r run (fresh t)))
      ∙ whole_makes t ok 0 r run b.whole (fresh t) begins early (omega (arith, b.calls)))

  at_clock : (state_at t run r).clock ≡ r
  at_clock =
      ap (λ (s : State). s.clock) before.ends ∙ onward_clock t (take r run) (fresh t) ∙ omega (arith, fresh_clock t, before.many)

  pub by_clock : BoundedRelease t i x r run
  by_clock = record {
    bounded = b.bounded;
    release = (releases_exactly t i (get_or run r (quiet [])).mask (state_at t run r)).1
        (by_the_clock b.periodic (omega (arith, at_clock, b.begun))
        (ap (λ (c : ℕ). (c - (thread t i).offset) % (thread t i).period) at_clock ∙ b.phase));
    makes = whole_makes t ok r x run b.whole (fresh t) begins early b.calls;
  }

  -- The core for a periodic thread, by the clock, ..
  pub clock_pays : payments t unframed i (from r x run) (state_at t run r) ≡ (thread t i).budget
  clock_pays = pays_budget t z i x r run by_clock

  -- .. and Q-12.
  pub clock_buys : bytes_of i (from r x run) ≡ replicate x 1 → Bought t i x r run
  clock_buys o = what_admission_buys t z i x r run by_clock o

-- A thread with offset 0 is released at each multiple of its period.
pub multiple_buys : (t : Table) → Sized t → (i x : ℕ) → bounding t i ≡ answered (x ∷ []) → (thread t i).kind ≢ 1 → (thread t i).offset ≡ 0
    → (run : List Input) → WholeSteps t run → length run ≤ last_clock → (r : ℕ) → r % (thread t i).period ≡ 0 → r + x ≤ length run
    → bytes_of i (from r x run) ≡ replicate x 1 → runs_told i (from r x (calls_of t run)) ≡ execution_budget (thread t i)
multiple_buys t z i x e k o run w c r m l =
    let q : r - (thread t i).offset ≡ r = omega arith in
    λ ones. (clock_buys t z i x r run
    (record { bounded = e; periodic = k; begun = omega arith; phase = rw q m; whole = w; calls = l; clocks = c })
    ones).runs

-- Steps without events that are made from numbers: they are whole, and thread i sends 1 in each.
module _ (f : ℕ → List ℕ) where
  pub whole_by : (t : Table) → mask_ok t 0 ≡ true → ((b : ℕ) → length (f b) ≡ t.count) → (xs : List ℕ) → WholeSteps t (quietly (map f xs))
  whole_by t m h [] = ended
  whole_by t m h (b ∷ xs) = next (h b) m (whole_by t m h xs)

  pub ones_by : (i : ℕ) → ((b : ℕ) → get_or (f b) i 0 ≡ 1) → (r n : ℕ) (xs : List ℕ) → r + n ≤ length xs
      → bytes_of i (from r n (quietly (map f xs))) ≡ replicate n 1
  ones_by i h zero zero xs l = refl
  ones_by i h zero (suc n) [] l = absurd (omega arith)
  ones_by i h zero (suc n) (b ∷ xs) l = rw (h b) (ap (λ (ns : List ℕ). 1 ∷ ns) (ones_by i h zero n xs (omega arith)))
  ones_by i h (suc r) n [] l = absurd (omega arith)
  ones_by i h (suc r) n (b ∷ xs) l = ones_by i h r n xs (omega arith)

  pub length_by : (xs : List ℕ) → length (quietly (map f xs)) ≡ length xs
  length_by [] = refl
  length_by (b ∷ xs) = ap (λ (n : ℕ). suc n) (length_by xs)
