-- What the code stores of one thread is what a release and a tick make of it.
use Prim.Native.Nat.{ℕ, ◌+◌, ◌-◌, ◌%◌, ◌<◌, zero-le}
use mathlib.Core.Path.{◌≡◌, sym, ◌∙◌, ap}
use mathlib.Core.Bool.{Bool, false}
use borrow.Author.Tests.{eq-eqb, ne_eqb, le-ltb}
use lib.ListN.{length, length-set}
use lib.Seq.{set-set, set-get_or, get_or-set_same}
use lib.Dec.{eqb, ltb, leb}
use native.Mathlib.Numerals.{add-one}
use Rattle.basis.specs.Tests.{pick, and}
use Rattle.basis.proofs.TestLaws.{by_test}
use Rattle.table.specs.declared.Thread.{Thread}
use Rattle.state.specs.State.{no_progress, with_rest, with_execution, with_finished, with_count, with_since, execution_budget, longest_since, progress, put, each_thread}
use Rattle.state.specs.Release.{refilled, cut, at_phase, by_clock, by_event, released}
use Rattle.state.specs.Methods.{aged}
use Rattle.state.specs.declared.Progress.{Progress}
use Rattle.state.specs.declared.State.{State}
use Rattle.block.specs.Play.{event_effect, clock_effect, since_after}
use Rattle.block.specs.declared.thread.Effect.{Effect}
use Rattle.block.specs.declared.thread.Effect.TheVariants.{Stay, Refill, Empty}

-- A field stored in what stands at a place, as the code does it.
abbrev pub rest_stored : State → ℕ → ℕ → State
rest_stored s i v = put s i (with_rest v (progress s i))

abbrev pub execution_stored : State → ℕ → ℕ → State
execution_stored s i v = put s i (with_execution v (progress s i))

abbrev pub mark_stored : State → ℕ → Bool → State
mark_stored s i v = put s i (with_finished v (progress s i))

abbrev pub count_stored : State → ℕ → ℕ → State
count_stored s i v = put s i (with_count v (progress s i))

abbrev pub since_stored : State → ℕ → ℕ → State
since_stored s i v = put s i (with_since v (progress s i))

module _ (s : State) (i : ℕ) where
  pub put_back : put s i (progress s i) ≡ s
  put_back = rw (set-get_or s.threads i no_progress)

  pub put-put : (p q : Progress) → put (put s i p) i q ≡ put s i q
  put-put p q = rw (set-set s.threads i p q)

  pub put-at : (p : Progress) → i < length s.threads → progress (put s i p) i ≡ p
  put-at p l = get_or-set_same s.threads i p no_progress l

  -- A change of what was just stored is one store.
  pub restored : (g : Progress → Progress) (p : Progress) → i < length s.threads → put (put s i p) i (g (progress (put s i p) i)) ≡ put s i (g p)
  restored g p l = ap (λ (q : Progress). put (put s i p) i (g q)) (put-at p l) ∙ put-put p (g p)

module _ (s : State) (i : ℕ) (l : i < length s.threads) where
  pub two-stored : (v x : ℕ) → execution_stored (rest_stored s i v) i x ≡ put s i (with_execution x (with_rest v (progress s i)))
  two-stored v x = restored s i (λ q. with_execution x q) (with_rest v (progress s i)) l

  pub three-stored : (v x : ℕ) (f : Bool) → mark_stored (execution_stored (rest_stored s i v) i x) i f
      ≡ put s i (with_finished f (with_execution x (with_rest v (progress s i))))
  three-stored v x f =
      ap (λ (z : State). mark_stored z i f) (two-stored v x)
      ∙ restored s i (λ q. with_finished f q) (with_execution x (with_rest v (progress s i))) l

  pub released-stored : (v x : ℕ) (f : Bool) (n : ℕ) → since_stored (mark_stored (execution_stored (rest_stored s i v) i x) i f) i n
      ≡ put s i (with_since n (with_finished f (with_execution x (with_rest v (progress s i)))))
  released-stored v x f n =
      ap (λ (z : State). since_stored z i n) (three-stored v x f)
      ∙ restored s i (λ q. with_since n q) (with_finished f (with_execution x (with_rest v (progress s i)))) l

  pub ran-stored : (v x n : ℕ) → count_stored (execution_stored (rest_stored s i v) i x) i n ≡ put s i (with_count n (with_execution x (with_rest v (progress s i))))
  ran-stored v x n =
      ap (λ (z : State). count_stored z i n) (two-stored v x)
      ∙ restored s i (λ q. with_count n q) (with_execution x (with_rest v (progress s i))) l

  pub waits_stored : (v : ℕ) (f : Bool) → mark_stored (rest_stored s i v) i f ≡ put s i (with_finished f (with_rest v (progress s i)))
  waits_stored v f = restored s i (λ q. with_finished f q) (with_rest v (progress s i)) l

-- The stores of a visit leave the number of places.
pub ran_long : (s : State) (i v x n : ℕ) → length (count_stored (execution_stored (rest_stored s i v) i x) i n).threads ≡ length s.threads
ran_long s i v x n = simp length-set

pub waits_long : (s : State) (i v : ℕ) (f : Bool) → length (mark_stored (rest_stored s i v) i f).threads ≡ length s.threads
waits_long s i v f = simp length-set

-- A release by its effect, whichever the kind.
unfoldable effect : Thread → ℕ → Bool → ℕ → Effect
effect th c e n = pick (eqb th.kind 1) (event_effect th e n) (clock_effect th c)

-- What an effect makes of a thread.
abbrev affected : Effect → Thread → Progress → Progress
affected Stay th p = p
affected Refill th p = refilled th p
affected Empty th p = cut p

released_by : (th : Thread) (c : ℕ) (e : Bool) (p : Progress) → released th c e p ≡ affected (effect th c e p.since) th p
unfolding released by_event by_clock at_phase effect event_effect clock_effect pick
released_by th c e p =
    by_test (eqb th.kind 1)
    (λ k. by_test (and e (leb th.period p.since)) (λ a. rw (k, a))
    (λ a. by_test (leb th.deadline p.since) (λ d. rw (k, a, d)) (λ d. rw (k, a, d))))
    (λ k. by_test (ltb c th.offset) (λ o. rw (k, o))
    (λ o. by_test (eqb ((c - th.offset) % th.period) 0) (λ f. rw (k, o, f))
    (λ f. by_test (leb th.deadline ((c - th.offset) % th.period)) (λ g. rw (k, o, f, g)) (λ g. rw (k, o, f, g)))))

by_its_event : (th : Thread) (c : ℕ) (ev : Bool) (n : ℕ) (e : Effect) → th.kind ≡ 1 → e ≡ event_effect th ev n → e ≡ effect th c ev n
unfolding effect pick
by_its_event th c ev n e k q = rw (eq-eqb th.kind 1 k) q

by_the_clock : (th : Thread) (c : ℕ) (ev : Bool) (n : ℕ) (e : Effect) → (th.kind ≡ 1 → ⊥) → e ≡ clock_effect th c → e ≡ effect th c ev n
unfolding effect pick
by_the_clock th c ev n e k q = rw (ne_eqb th.kind 1 k) q

-- Steps since release, as the code stores them; a periodic thread's stay.
aged_by : (th : Thread) (p : Progress) → aged th p ≡ with_since (since_after th p.since) p
unfolding aged longest_since since_after pick
aged_by th p =
    by_test (eqb th.kind 1)
    (λ k. by_test (ltb p.since th.period) (λ e. rw (k, e)) (λ e. rw (k, e)))
    (λ k. rw (k, le-ltb p.since 0 zero-le))

since_stays : (th : Thread) (n : ℕ) → (th.kind ≡ 1 → ⊥) → since_after th n ≡ n
unfolding since_after pick
since_stays th n k = rw (ne_eqb th.kind 1 k)

-- What the release and the tick together make of one thread.
unfoldable pub moved : Thread → ℕ → Bool → Progress → Progress
moved th c ev p = aged th (released th c ev p)

-- Their three effects, as the code stores them: first with the steps since release.
module _ (s : State) (i : ℕ) (l : i < length s.threads) (th : Thread) (c : ℕ) (ev : Bool) where
  abbrev Told : Effect → Type 0
  Told e = e ≡ effect th c ev (progress s i).since

  refills : Told Refill → (x n : ℕ) → x ≡ execution_budget th → n ≡ since_after th 0
      → since_stored (mark_stored (execution_stored (rest_stored s i th.budget) i x) i false) i n ≡ put s i (moved th c ev (progress s i))
  unfolding moved
  refills told x n b a = released-stored s i l th.budget x false n ∙ rw (released_by th c ev (progress s i), ← told, b, a, aged_by th (refilled th (progress s i)))

  empties : Told Empty → (n : ℕ) → n ≡ since_after th (progress s i).since
      → since_stored (execution_stored (rest_stored s i 0) i 0) i n ≡ put s i (moved th c ev (progress s i))
  unfolding moved
  empties told n a =
      ap (λ (z : State). since_stored z i n) (two-stored s i l 0 0)
      ∙ restored s i (λ r. with_since n r) (cut (progress s i)) l
      ∙ rw (released_by th c ev (progress s i), ← told, a, aged_by th (cut (progress s i)))

  leaves : Told Stay → (n : ℕ) → n ≡ since_after th (progress s i).since → since_stored s i n ≡ put s i (moved th c ev (progress s i))
  unfolding moved
  leaves told n a = rw (released_by th c ev (progress s i), ← told, a, aged_by th (progress s i))

  -- .. and without them, where they stay.
  empties_still : since_after th (progress s i).since ≡ (progress s i).since → Told Empty
      → execution_stored (rest_stored s i 0) i 0 ≡ put s i (moved th c ev (progress s i))
  unfolding moved
  empties_still a told = two-stored s i l 0 0 ∙ rw (released_by th c ev (progress s i), ← told, aged_by th (cut (progress s i)), a)

  leaves_still : since_after th (progress s i).since ≡ (progress s i).since → Told Stay → s ≡ put s i (moved th c ev (progress s i))
  unfolding moved
  leaves_still a told = rw (released_by th c ev (progress s i), ← told, aged_by th (progress s i), a) (sym (put_back s i))

-- The same of an event thread, ..
module _ (s : State) (i : ℕ) (l : i < length s.threads) (th : Thread) (c : ℕ) (ev : Bool) (k : th.kind ≡ 1) where
  pub event_refills : Refill ≡ event_effect th ev (progress s i).since → (x n : ℕ) → x ≡ execution_budget th → n ≡ since_after th 0
      → since_stored (mark_stored (execution_stored (rest_stored s i th.budget) i x) i false) i n ≡ put s i (moved th c ev (progress s i))
  event_refills told = refills s i l th c ev (by_its_event th c ev (progress s i).since Refill k told)

  pub event_empties : Empty ≡ event_effect th ev (progress s i).since → (n : ℕ) → n ≡ since_after th (progress s i).since
      → since_stored (execution_stored (rest_stored s i 0) i 0) i n ≡ put s i (moved th c ev (progress s i))
  event_empties told = empties s i l th c ev (by_its_event th c ev (progress s i).since Empty k told)

  pub event-leaves : Stay ≡ event_effect th ev (progress s i).since → (n : ℕ) → n ≡ since_after th (progress s i).since
      → since_stored s i n ≡ put s i (moved th c ev (progress s i))
  event-leaves told = leaves s i l th c ev (by_its_event th c ev (progress s i).since Stay k told)

-- .. and of a periodic one.
module _ (s : State) (i : ℕ) (l : i < length s.threads) (th : Thread) (c : ℕ) (ev : Bool) (k : th.kind ≡ 1 → ⊥) where
  pub clock_refills : Refill ≡ clock_effect th c → (x : ℕ) → x ≡ execution_budget th
      → since_stored (mark_stored (execution_stored (rest_stored s i th.budget) i x) i false) i 0 ≡ put s i (moved th c ev (progress s i))
  clock_refills told x b = refills s i l th c ev (by_the_clock th c ev (progress s i).since Refill k told) x 0 b (sym (since_stays th 0 k))

  pub clock_empties : Empty ≡ clock_effect th c → execution_stored (rest_stored s i 0) i 0 ≡ put s i (moved th c ev (progress s i))
  clock_empties told = empties_still s i l th c ev (since_stays th (progress s i).since k) (by_the_clock th c ev (progress s i).since Empty k told)

  pub clock_leaves : Stay ≡ clock_effect th c → s ≡ put s i (moved th c ev (progress s i))
  clock_leaves told = leaves_still s i l th c ev (since_stays th (progress s i).since k) (by_the_clock th c ev (progress s i).since Stay k told)

-- One thread more is changed.
pub each_more : (f : ℕ → Progress → Progress) (i : ℕ) (y z : State) → z ≡ each_thread f i y → put z i (f i (progress z i)) ≡ each_thread f (i + 1) y
unfolding each_thread
each_more f i y z e = rw (add-one i, e)
