-- Tables that reach the largest demand, the largest prohibition time and the largest count, so that none of the numbers can be lowered.
use Prim.Native.Nat.{ℕ, zero, suc, ◌+◌, ◌≤◌, ◌<◌}
use native.Mathlib.Omega.{arith}
use mathlib.Core.Path.{◌≡◌, refl, ◌∙◌, ap}
use mathlib.Core.List.{[], ◌∷◌, ◌++◌}
use mathlib.Core.Bool.{true}
use lib.ListN.{length, get_or, replicate}
use Rattle.basis.specs.Search.{listed}
use Rattle.basis.specs.Ceil.{ceil}
use Rattle.basis.proofs.CeilLaws.{ceil_least, ceil_covers}
use Rattle.table.specs.Threads.{none, thread_of}
use Rattle.table.specs.Legal.{legal}
use Rattle.table.specs.Opened.{opened}
use Rattle.table.specs.declared.Table.{Table}
use Rattle.table.specs.declared.Thread.{Thread}
use Rattle.admission.specs.Demand.{sum, above, share, demand}
use Rattle.admission.specs.Tried.{most_tried, lengths_from, lengths, tried}
use Rattle.admission.specs.Admit.{searched, counts_given, HasBound}
use Rattle.admission.specs.Worst.{worst}
use Rattle.admission.specs.Prohibition.{stretch, prohibition}
use Rattle.admission.proofs.SumLaws.{sum-padded}
use Rattle.admission.proofs.TriedLaws.{from_next, from_last}
use Rattle.admission.proofs.AdmitLaws.{searched_with, first-is, counts_at, counts_past}

-- Thread 31 of the lowest priority, and 31 threads above it that are always ready, with a period of 59,999.
abbrev ready : ℕ → Thread
ready i = thread_of (0 ∷ (1 + i) ∷ 59999 ∷ 0 ∷ 59999 ∷ 59999 ∷ 0 ∷ [])

abbrev pub most_demanded : Table
most_demanded = record {
  version = 1;
  domains = 1;
  count = 32;
  rows = 1 ∷ replicate 15 0;
  threads = listed 31 ready ++ (thread_of (0 ∷ 0 ∷ 60000 ∷ 0 ∷ 60000 ∷ 60000 ∷ 0 ∷ []) ∷ []);
}

pub most_demanded-legal : legal most_demanded ≡ true
unfolding opened
most_demanded-legal = refl

begins_twice : ceil 60000 59999 ≡ 2
begins_twice = omega (arith, ceil_least 60000 59999 2 (omega arith) (omega arith), ceil_covers 60000 59999 (omega arith))

pub demand_reached : demand most_demanded 31 60000 ≡ 3779938
unfolding demand sum share above opened
demand_reached = rw begins_twice

-- Thread 31 of the lowest priority, in a domain that no other flows to, and 31 threads above it that wait all the time, with a period of 59,999.
abbrev waiting : ℕ → Thread
waiting i = thread_of (0 ∷ (1 + i) ∷ 59999 ∷ 0 ∷ 59999 ∷ 59999 ∷ 59999 ∷ [])

abbrev pub most_prohibited : Table
most_prohibited = record {
  version = 1;
  domains = 2;
  count = 32;
  rows = 1 ∷ 2 ∷ replicate 14 0;
  threads = listed 31 waiting ++ (thread_of (1 ∷ 0 ∷ 60000 ∷ 0 ∷ 1 ∷ 1 ∷ 0 ∷ []) ∷ []);
}

pub most_prohibited-legal : legal most_prohibited ≡ true
unfolding opened
most_prohibited-legal = refl

pub prohibition_reached : prohibition most_prohibited 31 ≡ 3719938
unfolding prohibition sum stretch above opened
prohibition_reached = rw begins_twice

-- Thread 0 takes every step, so that the demand on thread 1, with W 1 and D 60,000, is always one step more than the length.
abbrev pub slowest : Table
slowest = record {
  version = 1;
  domains = 1;
  count = 2;
  rows = 1 ∷ replicate 15 0;
  threads = thread_of (0 ∷ 1 ∷ 1 ∷ 0 ∷ 1 ∷ 1 ∷ 0 ∷ []) ∷ thread_of (0 ∷ 0 ∷ 60000 ∷ 0 ∷ 1 ∷ 60000 ∷ 0 ∷ []) ∷ replicate 30 none;
}

pub slowest-legal : legal slowest ≡ true
unfolding opened
slowest-legal = refl

every-step : (x : ℕ) → ceil x 1 ≡ x
every-step x = omega (arith, ceil_least x 1 x (omega arith) (omega arith), ceil_covers x 1 (omega arith))

one_step_more : (x : ℕ) → demand slowest 1 x ≡ suc x
unfolding demand sum share above opened
one_step_more x = rw (every-step x) (omega arith)

every-length : (n x : ℕ) → n + x ≤ 60001 → length (lengths_from slowest 1 n x) ≡ n
unfolding lengths_from
every-length zero x l = refl
every-length (suc n) x l =
    let d : x < demand slowest 1 x = omega (arith, one_step_more x) in
    ap length (from_next slowest 1 n x (omega arith) d) ∙ rw (one_step_more x) (ap suc (every-length n (suc x) (omega arith)))

-- Each of the D - W + 1 lengths is tried.
pub tried_reached : tried slowest 1 ≡ 60000
unfolding tried lengths most_tried
tried_reached = every-length 60000 1 (omega arith)

-- So is thread 0's one length, and the two counts of the admission are together the worst count.
first_holds : demand slowest 0 1 ≤ 1
unfolding demand sum share above opened
first_holds = omega arith

first-tried : tried slowest 0 ≡ 1
unfolding tried lengths most_tried
first-tried = ap length (from_last slowest 0 0 1 (omega arith) first_holds)

first-bound : HasBound slowest 0
first-bound = record { steps = 1; is = record { from_budget = omega arith; to_deadline = omega arith; holds = first_holds; smallest = λ y l u. absurd (omega arith) } }

both_searched : searched slowest ≡ 2
both_searched =
    searched_with slowest 1
    (first-is slowest 1 (omega arith) (record { short = λ y l u. omega (arith, one_step_more y) })
    (λ j l. let e : j ≡ 0 = omega arith in rw e first-bound))

pub worst_reached : sum 32 (λ i. get_or (counts_given slowest) i 0) ≡ worst slowest
unfolding worst sum most_tried
worst_reached =
    let f : ℕ → ℕ = λ i. get_or (counts_given slowest) i 0 in
    let a : f 0 ≡ 1 = counts_at slowest slowest-legal 0 (rw both_searched (omega arith)) ∙ first-tried in
    let b : f 1 ≡ 60000 = counts_at slowest slowest-legal 1 (rw both_searched (omega arith)) ∙ tried_reached in
    let e : sum 32 f ≡ sum 2 f = sum-padded f 2 32 (omega arith) (λ i l. counts_past slowest slowest-legal i (rw both_searched l)) in
    omega (arith, a, b, e)
