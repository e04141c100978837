-- Laws of a tick: the clock goes up, each thread's steps since release age, and nothing else changes.
use Prim.Native.Nat.{ℕ, ◌+◌, ◌≤◌, ◌<◌, zero-le}
use mathlib.Core.Path.{◌≡◌, refl, sym, ◌∙◌, ap}
use native.Mathlib.Nat.{le_refl}
use mathlib.Core.Logic.{◌≢◌}
use borrow.Author.Tests.{lt-ltb, le-ltb, ltb-true, ltb-false}
use lib.ListN.{length}
use lib.Dec.{ltb}
use Rattle.basis.specs.Tests.{pick}
use Rattle.basis.proofs.TestLaws.{by_test, both_ways}
use Rattle.table.specs.Threads.{thread}
use Rattle.table.specs.declared.Table.{Table}
use Rattle.table.specs.declared.Thread.{Thread}
use Rattle.state.specs.State.{progress}
use Rattle.state.specs.Methods.{aged, tick}
use Rattle.state.specs.Given.{Each}
use Rattle.state.specs.declared.Progress.{Progress}
use Rattle.state.specs.declared.State.{State}
use Rattle.state.proofs.FitLaws.{longest-event, longest_periodic}
use Rattle.state.proofs.StateLaws.{each_keeps, each-length, each_past, each_at, each_out}

module _ (t : Table) where
  abbrev older : ℕ → Progress → Progress
  older i = aged (thread t i)

  pub tick-length : (s : State) → length (tick t s).threads ≡ length s.threads
  unfolding tick
  tick-length s = each-length older t.count s

  pub tick-each : (s : State) (P : ℕ → Progress → Type 0) → ((i : ℕ) (p : Progress) → i < t.count → P i p → P i (aged (thread t i) p)) → Each P s
      → Each P (tick t s)
  unfolding tick
  tick-each s P k h = record { at = (each_keeps older P t.count k t.count (le_refl _) s h).at }

  -- What does not age stays.
  pub tick_keeps : {A : Type 0} (f : Progress → A) → ((th : Thread) (p : Progress) → f (aged th p) ≡ f p) → (s : State) (i : ℕ)
      → f (progress (tick t s) i) ≡ f (progress s i)
  tick_keeps f same s i =
      (tick-each s (λ k p. f p ≡ f (progress s k)) (λ k p l h. same (thread t k) p ∙ h) (record { at = λ k. refl })).at i

  -- Threads that are alike age alike.
  pub tick-same : (w r : State) → length w.threads ≡ length r.threads → (i : ℕ) → progress w i ≡ progress r i
      → progress (tick t w) i ≡ progress (tick t r) i
  unfolding tick
  tick-same w r e i h =
      by_test (ltb i t.count)
      (λ a. by_test (ltb i (length w.threads))
      (λ b. each_at older t.count w i (ltb-true _ _ a) (ltb-true _ _ b) ∙ ap (older i) h
      ∙ sym (each_at older t.count r i (ltb-true _ _ a) (rw e at (ltb-true i (length w.threads) b))))
      (λ b. each_out older t.count w i (ltb-false _ _ b) ∙ h ∙ sym (each_out older t.count r i (rw e at (ltb-false i (length w.threads) b)))))
      (λ a. each_past older t.count w i (ltb-false _ _ a) ∙ h ∙ sym (each_past older t.count r i (ltb-false _ _ a)))

pub aged_rest : (th : Thread) (p : Progress) → (aged th p).rest ≡ p.rest
unfolding aged
aged_rest th p = both_ways (λ (x : Progress). x.rest ≡ p.rest) _ _ _ refl refl

pub aged_execution : (th : Thread) (p : Progress) → (aged th p).execution ≡ p.execution
unfolding aged
aged_execution th p = both_ways (λ (x : Progress). x.execution ≡ p.execution) _ _ _ refl refl

pub aged-ran : (th : Thread) (p : Progress) → (aged th p).ran ≡ p.ran
unfolding aged
aged-ran th p = both_ways (λ (x : Progress). x.ran ≡ p.ran) _ _ _ refl refl

pub aged-finished : (th : Thread) (p : Progress) → (aged th p).finished ≡ p.finished
unfolding aged
aged-finished th p = both_ways (λ (x : Progress). x.finished ≡ p.finished) _ _ _ refl refl

-- Nothing that a thread has but its steps since release changes with the clock.
pub tick-leaves : (t : Table) (s : State) (i : ℕ)
    → ((progress (tick t s) i).rest ≡ (progress s i).rest) × ((progress (tick t s) i).execution ≡ (progress s i).execution)
    × ((progress (tick t s) i).finished ≡ (progress s i).finished) × ((progress (tick t s) i).ran ≡ (progress s i).ran)
tick-leaves t s i = (
  tick_keeps t (λ p. p.rest) aged_rest s i,
  tick_keeps t (λ p. p.execution) aged_execution s i,
  tick_keeps t (λ p. p.finished) aged-finished s i,
  tick_keeps t (λ p. p.ran) aged-ran s i,
)

-- The steps since release go up by one while an event thread has fewer than P, and stay from then on; a periodic thread's stay at 0.
pub aged_grows : (th : Thread) (p : Progress) → th.kind ≡ 1 → p.since < th.period → (aged th p).since ≡ p.since + 1
unfolding aged pick
aged_grows th p k l = rw (longest-event th k, lt-ltb _ _ l)

pub aged_stops : (th : Thread) (p : Progress) → th.kind ≡ 1 → th.period ≤ p.since → (aged th p).since ≡ p.since
unfolding aged pick
aged_stops th p k l = rw (longest-event th k, le-ltb _ _ l)

pub aged_periodic : (th : Thread) (p : Progress) → th.kind ≢ 1 → (aged th p).since ≡ p.since
unfolding aged pick
aged_periodic th p k = rw (longest_periodic th k, le-ltb _ _ zero-le)
