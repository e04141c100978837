-- The tick may come before the walk: no walk reads or changes the clock or the steps since a release.
use Prim.Native.Nat.{ℕ, zero, suc, ◌+◌, ◌≤◌, ◌<◌}
use mathlib.Core.Path.{◌≡◌, refl, sym, ◌∙◌, ap}
use mathlib.Core.List.{List, [], ◌∷◌}
use native.Mathlib.Omega.{arith}
use native.Mathlib.Nat.{le_refl}
use lib.ListN.{get_or, set}
use lib.Dec.{eqb, ltb}
use Rattle.basis.specs.Tests.{pick}
use Rattle.basis.proofs.TestLaws.{by_test}
use Rattle.table.specs.Threads.{thread}
use Rattle.table.specs.Mark.{is_set}
use Rattle.table.specs.declared.Table.{Table}
use Rattle.table.specs.declared.Thread.{Thread}
use Rattle.table.specs.Mark.{Mark}
use Rattle.state.specs.State.{no_progress, longest_since, progress, put, each_thread}
use Rattle.state.specs.Release.{has_event, released, release}
use Rattle.state.specs.Methods.{paid, pay, done, finish, counted, count, aged, tick}
use Rattle.state.specs.declared.Progress.{Progress}
use Rattle.state.specs.declared.State.{State}
use Rattle.state.proofs.StateLaws.{changed_twice}
use Rattle.state.proofs.TickLaws.{tick_keeps}
use Rattle.state.proofs.ReleaseLaws.{release_clock}
use Rattle.walk.specs.Walk.{heard, runs, decided, visit, chosen, walk}
use Rattle.walk.specs.Step.{Input, ticked, advance}
use Rattle.block.proofs.ThreadLaws.{moved}

-- Two changes, each of one place, in either order: of one place where they commute.
swapped : (f g : Progress → Progress) (l : List Progress) (i n : ℕ) → (i ≡ n → (p : Progress) → f (g p) ≡ g (f p))
    → set (set l i (g (get_or l i no_progress))) n (f (get_or (set l i (g (get_or l i no_progress))) n no_progress))
    ≡ set (set l n (f (get_or l n no_progress))) i (g (get_or (set l n (f (get_or l n no_progress))) i no_progress))
swapped f g [] i n c = refl
swapped f g (p ∷ l) zero zero c = ap (λ (q : Progress). q ∷ l) (c refl p)
swapped f g (p ∷ l) zero (suc n) c = refl
swapped f g (p ∷ l) (suc i) zero c = refl
swapped f g (p ∷ l) (suc i) (suc n) c = ap (λ (k : List Progress). p ∷ k) (swapped f g l i n (λ e. c (ap suc e)))

-- A change of one place beside one of each of the first n.
module _ (f : ℕ → Progress → Progress) (g : Progress → Progress) (i m : ℕ) (c : (j : ℕ) → j < m → i ≡ j → (p : Progress) → f j (g p) ≡ g (f j p)) where
  each_beside : (n : ℕ) → n ≤ m → (s : State)
      → each_thread f n (put s i (g (progress s i))) ≡ put (each_thread f n s) i (g (progress (each_thread f n s) i))
  unfolding each_thread
  each_beside zero h s = refl
  each_beside (suc n) h s =
      let z : State = each_thread f n s in
      ap (λ (y : State). put y n (f n (progress y n))) (each_beside n (omega arith) s)
      ∙ ap (λ (l : List Progress). record { clock = z.clock; threads = l }) (swapped (f n) g z.threads i n (c n (omega arith)))

-- Two changes of each thread are one of each.
each_both : (f g : ℕ → Progress → Progress) (n : ℕ) (s : State) → each_thread (λ j p. g j (f j p)) n s ≡ each_thread g n (each_thread f n s)
unfolding each_thread
each_both f g zero s = refl
each_both f g (suc n) s =
    let y : State = each_thread f n s in
    let z : State = each_thread g n y in
    ap (λ (x : State). put x n (g n (f n (progress x n)))) (each_both f g n s)
    ∙ ap (λ (l : List Progress). record { clock = z.clock; threads = l }) (sym (changed_twice (f n) (g n) z.threads n))
    ∙ ap (λ (x : State). put x n (g n (progress x n))) (sym (each_beside g (f n) n n (λ j h e. absurd (omega arith)) n (le_refl n) y))

-- A change that leaves the steps since release beside a tick.
module _ (t : Table) where
  tick_beside : (g : Progress → Progress) → ((th : Thread) (p : Progress) → aged th (g p) ≡ g (aged th p)) → (s : State) (i : ℕ)
      → tick t (put s i (g (progress s i))) ≡ put (tick t s) i (g (progress (tick t s) i))
  unfolding tick
  tick_beside g c s i =
      ap (λ (z : State). record { clock = s.clock + 1; threads = z.threads })
      (each_beside (λ j. aged (thread t j)) g i t.count (λ j h e p. c (thread t j) p) t.count (le_refl _) s)

  tick-pay : (s : State) (i : ℕ) → tick t (pay s i) ≡ pay (tick t s) i
  unfolding pay aged pick
  tick-pay = tick_beside paid (λ th p. by_test (ltb p.since (longest_since th)) (λ e. rw e) (λ e. rw e))

  tick-finish : (s : State) (i : ℕ) → tick t (finish s i) ≡ finish (tick t s) i
  unfolding finish aged pick
  tick-finish = tick_beside done (λ th p. by_test (ltb p.since (longest_since th)) (λ e. rw e) (λ e. rw e))

  tick-count : (s : State) (i : ℕ) → tick t (count s i) ≡ count (tick t s) i
  unfolding count aged pick
  tick-count = tick_beside counted (λ th p. by_test (ltb p.since (longest_since th)) (λ e. rw e) (λ e. rw e))

  tick-heard : (b i : ℕ) (s : State) → heard b i (tick t s) ≡ tick t (heard b i s)
  unfolding heard pick
  tick-heard b i s = by_test (eqb b 2) (λ e. rw e (sym (tick-finish s i))) (λ e. rw e)

  runs-ticked : (b : ℕ) (s : State) (i : ℕ) → runs b (progress (tick t s) i) ≡ runs b (progress s i)
  unfolding runs aged pick
  runs-ticked b s i = tick_keeps t (λ p. runs b p) (λ th p. by_test (ltb p.since (longest_since th)) (λ e. rw e) (λ e. rw e)) s i

  rest_ticked : (s : State) (i : ℕ) → (progress (tick t s) i).rest ≡ (progress s i).rest
  unfolding aged pick
  rest_ticked s i = tick_keeps t (λ p. p.rest) (λ th p. by_test (ltb p.since (longest_since th)) (λ e. rw e) (λ e. rw e)) s i

  module _ (m : List Mark) where
    decided-ticked : (b i : ℕ) (s : State) → decided m b i (tick t s) ≡ ticked t (decided m b i s)
    unfolding decided ticked pick
    decided-ticked b i s =
        by_test (runs b (progress s i)) (λ r. rw (runs-ticked b s i, r, ← tick-pay s i, ← tick-count (pay s i) i))
        (λ r. by_test (is_set m i) (λ k. rw (runs-ticked b s i, r, k, ← tick-pay s i)) (λ k. rw (runs-ticked b s i, r, k, ← tick-pay s i)))

    visit-ticked : (b i : ℕ) (s : State) → visit m b i (tick t s) ≡ ticked t (visit m b i s)
    unfolding visit ticked pick
    visit-ticked b i s =
        by_test (eqb (progress s i).rest 0) (λ e. rw (rest_ticked s i, e))
        (λ e. rw (rest_ticked s i, e, tick-heard b i s) (decided-ticked b i (heard b i s)))

    walk-ticked : (bs is : List ℕ) (s : State) → walk m bs is (tick t s) ≡ ticked t (walk m bs is s)
    unfolding walk ticked pick
    walk-ticked bs [] s = refl
    walk-ticked bs (i ∷ is) s =
        by_test (chosen (visit m (get_or bs i 0) i s).answer)
        (λ e. rw (visit-ticked (get_or bs i 0) i s, e))
        (λ e. rw (visit-ticked (get_or bs i 0) i s, e) (walk-ticked bs is (visit m (get_or bs i 0) i s).state))

-- A step, by a walk from the state that release and tick have moved.
pub early : (t : Table) (m : List Mark) (is : List ℕ) (x : Input) (s : State) → walk m x.bytes is (tick t (release t x.mask s)) ≡ advance t m is x s
unfolding advance
early t m is x s = walk-ticked t m x.bytes is (release t x.mask s)

pub all_moved : (t : Table) (mask : ℕ) (s z : State) → z ≡ each_thread (λ j. moved (thread t j) s.clock (has_event mask j)) t.count s
    → ◌≡◌ {A = State} (record { clock = s.clock + 1; threads = z.threads }) (tick t (release t mask s))
unfolding tick release moved
all_moved t mask s z e =
    let r : State = each_thread (λ j. released (thread t j) s.clock (has_event mask j)) t.count s in
    ap (λ (y : State). record { clock = s.clock + 1; threads = y.threads })
    (e ∙ each_both (λ j. released (thread t j) s.clock (has_event mask j)) (λ j. aged (thread t j)) t.count s)
    ∙ ap (λ (c : ℕ). record { clock = c + 1; threads = (each_thread (λ j. aged (thread t j)) t.count r).threads }) (sym (release_clock t mask s))
