-- What is accounted of a thread's progress, and that every change of a step moves it by the account alone or keeps it: so what a thread
-- says never reaches its account, which demand 3 needs.
use Prim.Native.Nat.{ℕ, ◌+◌}
use mathlib.Core.Path.{◌≡◌, refl, sym, ◌∙◌, ap}
use mathlib.Core.Bool.{Bool, false}
use lib.Dec.{eqb, ltb, leb}
use Rattle.basis.specs.Tests.{and}
use Rattle.basis.proofs.TestLaws.{both}
use Rattle.table.specs.declared.Thread.{Thread}
use Rattle.state.specs.State.{with_execution, with_finished, with_count, with_since, longest_since}
use Rattle.state.specs.Release.{at_phase, by_clock, by_event, released}
use Rattle.state.specs.Methods.{paid, done, counted, aged}
use Rattle.state.specs.declared.Progress.{Progress}

-- What is accounted of a progress: its rest and its steps since release, which no byte of its own thread touches. The laws below are all
-- that is used of it.
abbrev pub account : Progress → Progress
account p = with_execution 0 (with_finished false (with_count 0 p))

-- A change that moves the account by the account alone, and one that keeps it.
abbrev pub Fair : (Progress → Progress) → Type 0
Fair f = (p q : Progress) → account p ≡ account q → account (f p) ≡ account (f q)

abbrev pub Keeps : (Progress → Progress) → Type 0
Keeps f = (p : Progress) → account (f p) ≡ account p

pub rest_accounted : (p q : Progress) → account p ≡ account q → p.rest ≡ q.rest
rest_accounted p q e = ap (λ (x : Progress). x.rest) e

since_accounted : (p q : Progress) → account p ≡ account q → p.since ≡ q.since
since_accounted p q e = ap (λ (x : Progress). x.since) e

pub released_fair : (th : Thread) (c : ℕ) (e : Bool) → Fair (released th c e)
unfolding released by_event by_clock at_phase
released_fair th c e p q h =
    let R : Progress → Progress → Type 0 = λ x y. account x ≡ account y in
    let s : p.since ≡ q.since = since_accounted p q h in
    both R (eqb th.kind 1) _ refl
    (λ _. both R (and e (leb th.period p.since)) _ (ap (λ n. and e (leb th.period n)) s) (λ _. refl)
    (λ _. both R (leb th.deadline p.since) _ (ap (λ n. leb th.deadline n) s) (λ _. cc) (λ _. h)))
    (λ _. both R _ _ refl (λ _. h) (λ _. both R _ _ refl (λ _. refl) (λ _. both R _ _ refl (λ _. cc) (λ _. h))))

pub aged_fair : (th : Thread) → Fair (aged th)
unfolding aged
aged_fair th p q h =
    let R : Progress → Progress → Type 0 = λ x y. account x ≡ account y in
    let s : p.since ≡ q.since = since_accounted p q h in
    both R (ltb p.since (longest_since th)) _ (ap (λ n. ltb n (longest_since th)) s) (λ _. ap (λ (x : Progress). with_since (x.since + 1) x) h) (λ _. h)

pub paid_fair : Fair paid
paid_fair p q e = ap paid e

pub done_keeps : Keeps done
done_keeps p = refl

pub counted_keeps : Keeps counted
counted_keeps p = refl

pub keeps_fair : (f : Progress → Progress) → Keeps f → Fair f
keeps_fair f keeps p q e = keeps p ∙ e ∙ sym (keeps q)
