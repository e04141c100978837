-- The payments of a thread with a bound: while it has not paid W, each step since the threads above last rested has a payment of
-- theirs or its own, and in x such steps the demand leaves no room for so many.
use Prim.Native.Nat.{ℕ, zero, suc, ◌+◌, ◌-◌, ◌≤◌, ◌<◌, zero-le}
use mathlib.Core.Path.{◌≡◌, sym, ◌∙◌, ap}
use mathlib.Core.List.{List, [], ◌∷◌, ◌++◌}
use mathlib.Core.Bool.{true}
use mathlib.Core.Logic.{⊎_elim}
use native.Mathlib.Nat.{eq-or-lt_of_le}
use native.Mathlib.Decide.{dec_lt}
use native.Mathlib.Omega.{arith}
use lib.ListN.{length, take, drop, length-append, take-append-drop}
use lib.Seq.{length-take-le}
use Rattle.basis.specs.Turns.{after}
use Rattle.table.specs.Threads.{thread}
use Rattle.table.specs.Legal.{Legal}
use Rattle.table.specs.declared.Table.{Table}
use Rattle.state.specs.State.{progress, Fits}
use Rattle.state.specs.Release.{release, releases}
use Rattle.state.specs.declared.Progress.{Progress}
use Rattle.state.specs.declared.State.{State}
use Rattle.frame.specs.Mode.{unframed}
use Rattle.walk.specs.Step.{Input, step}
use Rattle.walk.specs.Paid.{pays, payments}
use Rattle.walk.proofs.MostLaws.{Room, room_later, fits-later, pays_from_rest}
use Rattle.admission.specs.Demand.{demand}
use Rattle.worth.proofs.PayerLaws.{Payer, step_payer}
use Rattle.worth.proofs.AboveLaws.{upper, upper_add, upper-one}
use Rattle.worth.proofs.MostLaws.{onward, payments_join}
use Rattle.worth.proofs.SinceLaws.{Since, calm, since_next, since_release, fills}
use Rattle.worth.proofs.BusyLaws.{upper_paid, Busy, upper_join, busy_clock, upper-within}

-- The first of these steps, if there is one, is a release of thread i.
abbrev pub Starts : Table → ℕ → List Input → State → Type 0
Starts t i [] s = Unit {0}
Starts t i (y ∷ a) s = releases t i y.mask s ≡ true

starts_take : (t : Table) (i n : ℕ) (a : List Input) (s : State) → Starts t i a s → Starts t i (take n a) s
starts_take t i zero a s h = tt
starts_take t i (suc n) [] s h = tt
starts_take t i (suc n) (y ∷ a) s h = h

module _ (t : Table) (g : Legal t) (i : ℕ) (l : i < t.count) where
  -- while thread i has a rest, it pays or one above it does
  own_or_upper : (y : Input) (s : State) → Fits t s → 0 < (progress (release t y.mask s) i).rest
      → 1 ≤ upper t i (λ k. pays t unframed y s k) + pays t unframed y s i
  own_or_upper y s f r =
      let p : Payer t i y s = step_payer t g y s f i l r in
      ⊎_elim
      (λ (e : (thread t i).priority ≡ (thread t p.payer).priority).
      let q : i ≡ p.payer = g.distinct i p.payer l p.below e in
      omega (arith, rw (← q) at p.one))
      (λ (a : (thread t i).priority < (thread t p.payer).priority).
      omega (arith, p.one, upper-one t i (λ k. pays t unframed y s k) p.payer p.below a))
      (eq-or-lt_of_le p.upper)

  upper_cons : (y : Input) (a : List Input) (s : State)
      → upper_paid t i (y ∷ a) s ≡ upper t i (λ k. pays t unframed y s k) + upper_paid t i a (step t unframed y s).state
  unfolding payments
  upper_cons y a s = upper_add t i (λ h. pays t unframed y s h) (λ h. payments t unframed h a (step t unframed y s).state)

  -- as long as it has not paid its rest, no step goes by without a payment: from the release on, and from any step after it
  abbrev Unlost : List Input → State → Type 0
  Unlost a s = length a ≤ upper_paid t i a s + payments t unframed i a s

  unlost_on : (y : Input) (a : List Input) (s : State) → Fits t s → payments t unframed i (y ∷ a) s < (progress (release t y.mask s) i).rest
      → (payments t unframed i a (step t unframed y s).state < (progress (step t unframed y s).state i).rest → Unlost a (step t unframed y s).state)
      → Unlost (y ∷ a) s
  unfolding payments
  unlost_on y a s f p h =
      omega (arith, pays_from_rest t unframed y s i, own_or_upper y s f (omega arith), upper_cons y a s, h (omega (arith, pays_from_rest t unframed y s i)))

  -- its rest after a release that leaves it alone
  calm_rest : (y : Input) (s : State) → Fits t s → (n : ℕ) → 1 ≤ n → n < (thread t i).deadline → Since t i n s
      → (progress (release t y.mask s) i).rest ≡ (progress s i).rest
  calm_rest y s f n a b c = ap (λ (p : Progress). p.rest) (calm t g i l y s f n a b c)

  unlost_calm : (a : List Input) (s : State) → Fits t s → Room a s → (n : ℕ) → 1 ≤ n → n + length a ≤ (thread t i).deadline → Since t i n s
      → payments t unframed i a s < (progress s i).rest → Unlost a s
  unlost_calm [] s f r n low high c p = zero-le
  unlost_calm (y ∷ a) s f r n low high c p =
      unlost_on y a s f (rw (calm_rest y s f n low (omega arith) c) p)
      (unlost_calm a (step t unframed y s).state (fits-later t unframed y a s f r) (room_later t unframed y a s r) (n + 1) (omega arith) (omega arith)
      (since_next t g i l y s f n low (omega arith) c))

  -- what it pays is gone from its rest
  left_calm : (a : List Input) (s : State) → Fits t s → Room a s → (n : ℕ) → 1 ≤ n → n + length a ≤ (thread t i).deadline → Since t i n s
      → (progress (onward t a s) i).rest + payments t unframed i a s ≡ (progress s i).rest
  unfolding payments after
  left_calm [] s f r n low high c = omega arith
  left_calm (y ∷ a) s f r n low high c = omega (
    arith,
    pays_from_rest t unframed y s i,
    calm_rest y s f n low (omega arith) c,
    left_calm a (step t unframed y s).state (fits-later t unframed y a s f r) (room_later t unframed y a s r) (n + 1) (omega arith) (omega arith)
        (since_next t g i l y s f n low (omega arith) c),
  )

  module _ (s : State) (f : Fits t s) where
    full : (y : Input) → releases t i y.mask s ≡ true → (progress (release t y.mask s) i).rest ≡ (thread t i).budget
    full y rel = (fills t g i l y s f rel).rest

    -- from its release on, up to the deadline
    unlost : (a : List Input) → Room a s → Starts t i a s → length a ≤ (thread t i).deadline → payments t unframed i a s < (thread t i).budget → Unlost a s
    unlost [] r rel d p = zero-le
    unlost (y ∷ a) r rel d p =
        unlost_on y a s f (rw (full y rel) p)
        (unlost_calm a (step t unframed y s).state (fits-later t unframed y a s f r) (room_later t unframed y a s r) 1 (omega arith) (omega arith)
        (since_release t g i l y s f rel))

    pub left-from : (y : Input) (a : List Input) → Room (y ∷ a) s → releases t i y.mask s ≡ true → length (y ∷ a) ≤ (thread t i).deadline
        → (progress (onward t (y ∷ a) s) i).rest + payments t unframed i (y ∷ a) s ≡ (thread t i).budget
    unfolding payments after
    left-from y a r rel d = omega (
      arith,
      full y rel,
      pays_from_rest t unframed y s i,
      left_calm a (step t unframed y s).state (fits-later t unframed y a s f r) (room_later t unframed y a s r) 1 (omega arith) (omega arith)
          (since_release t g i l y s f rel),
    )

    at_most : (a : List Input) → Room a s → Starts t i a s → length a ≤ (thread t i).deadline → payments t unframed i a s ≤ (thread t i).budget
    unfolding payments
    at_most [] r rel d = zero-le
    at_most (y ∷ a) r rel d = omega (arith, left-from y a r rel d)

    -- a length that holds its demand by the deadline: all that is used of a bound
    module _ (x : ℕ) (holds : demand t i x ≤ x) (in-time : x ≤ (thread t i).deadline) (b : Busy t i x s) where
      -- in what is left of x steps since the threads above last rested
      enough : (a : List Input) → Room a s → Starts t i a s → length b.steps + length a ≡ x → (thread t i).budget ≤ payments t unframed i a s
      enough a r rel e = go (dec_lt (payments t unframed i a s) (thread t i).budget)
        where
          go : Dec (payments t unframed i a s < (thread t i).budget) → (thread t i).budget ≤ payments t unframed i a s
          go (yes u) =
              let all : length (b.steps ++ a) ≡ x = length-append b.steps a ∙ e in
              let parts : upper_paid t i (b.steps ++ a) b.start ≡ upper_paid t i b.steps b.start + upper_paid t i a s
              = upper_join t i b.steps a b.start ∙ rw b.arrives in
              absurd (omega (
                arith,
                upper-within t i g x holds (b.steps ++ a) b.start b.fits (omega (arith, busy_clock t i x s b)) b.resting (omega arith),
                unlost a r rel (omega arith) u,
                b.busy,
              ))
          go (no u) = omega arith

      pub pays-from : (a : List Input) → Room a s → Starts t i a s → length a ≡ x → payments t unframed i a s ≡ (thread t i).budget
      pays-from a r rel e =
          let k : ℕ = x - length b.steps in
          let n : length (take k a) ≡ k = length-take-le k a (omega arith) in
          let whole : payments t unframed i a s ≡ payments t unframed i (take k a) s + payments t unframed i (drop k a) (onward t (take k a) s)
          = ap (λ (c : List Input). payments t unframed i c s) (sym (take-append-drop k a)) ∙ payments_join t i (take k a) (drop k a) s in
          omega (
            arith,
            enough (take k a) (omega arith) (starts_take t i k a s rel) (omega (arith, b.short)),
            at_most a r rel (omega arith),
          )
