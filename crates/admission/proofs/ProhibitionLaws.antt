-- The prohibition time is what the plain rows say, and the largest of any legal table, which no sum on the way passes.
use Prim.Native.Nat.{ℕ, ◌*◌, ◌≤◌, ◌<◌}
use mathlib.Core.Path.{◌≡◌, sym, ◌∙◌, ap, subst}
use Rattle.std.proofs.Common.{List, get_or, is_some}
use Rattle.basis.specs.Search.{nothing}
use mathlib.Core.Bool.{Bool, true, false, true≢false}
use mathlib.Core.Logic.{◌↔◌}
use native.Mathlib.Nat.{le_refl, le_trans, mul-le-mul_left}
use native.Mathlib.Omega.{arith}
use lib.Dec.{ltb}
use borrow.Author.Tests.{lt-ltb, le-ltb, ltb-true, ltb-false}
use Rattle.basis.specs.Tests.{pick, and}
use Rattle.basis.specs.Ceil.{ceil}
use Rattle.basis.specs.Told.{Told}
use Rattle.basis.proofs.TestLaws.{by_test, either, and-false}
use Rattle.table.specs.Threads.{thread}
use Rattle.table.specs.Legal.{legal, Legal, LegalThread}
use Rattle.table.specs.Mark.{Mark, marked, mark, marks_of}
use Rattle.table.specs.declared.Table.{Table}
use Rattle.table.specs.declared.Thread.{Thread}
use Rattle.table.proofs.MarkLaws.{mark_sound, mark_complete, set_exactly}
use Rattle.admission.specs.Demand.{sum, SumOf, above}
use Rattle.admission.specs.Prohibition.{stretch, prohibition, prohibiting, Prohibits, marked-above, otherwise, ProhibitionAnswer, not-legal, no_thread, prohibited}
use Rattle.admission.proofs.SumLaws.{sum_longer, sum_but_one, sum-given, sum_only}
use Rattle.admission.proofs.DemandLaws.{brings_most}

-- What a thread brings, where it is marked and stands above, and where it does not.
pub stretch-above : (own h : Thread) (m : Bool) → m ≡ true → own.priority < h.priority
    → stretch own m h ≡ ceil own.period h.period * h.blocking
unfolding stretch above pick
stretch-above own h m e l = rw (e, lt-ltb _ _ l)

pub stretch_unmarked : (own h : Thread) (m : Bool) → m ≡ false → stretch own m h ≡ 0
unfolding stretch above pick
stretch_unmarked own h m e = rw e

pub stretch_other : (own h : Thread) (m : Bool) → h.priority ≤ own.priority → stretch own m h ≡ 0
unfolding stretch above pick
stretch_other own h m l = rw (le-ltb _ _ l, and-false m)

module _ (t : Table) (l h : ℕ) where
  stretch-given : Prohibits t l h (stretch (thread t l) (marked t h) (thread t h))
  stretch-given = by_test (marked t h)
      (λ e. by_test (ltb (thread t l).priority (thread t h).priority)
      (λ f. let k : (thread t l).priority < (thread t h).priority = ltb-true _ _ f in
      rw (stretch-above (thread t l) (thread t h) (marked t h) e k) (marked-above (mark_sound t h e) k))
      (λ f. let k : (thread t h).priority ≤ (thread t l).priority = ltb-false _ _ f in
      rw (stretch_other (thread t l) (thread t h) (marked t h) k) (otherwise (λ m u. omega arith))))
      (λ e. rw (stretch_unmarked (thread t l) (thread t h) (marked t h) e)
      (otherwise (λ m u. true≢false (sym (mark_complete t h m) ∙ e))))

  stretch_only : {n : ℕ} → Prohibits t l h n → stretch (thread t l) (marked t h) (thread t h) ≡ n
  stretch_only (marked-above m k) = stretch-above (thread t l) (thread t h) (marked t h) (mark_complete t h m) k
  stretch_only (otherwise f) = by_test (marked t h)
      (λ e. by_test (ltb (thread t l).priority (thread t h).priority)
      (λ g. absurd (f (mark_sound t h e) (ltb-true _ _ g)))
      (λ g. stretch_other (thread t l) (thread t h) (marked t h) (ltb-false _ _ g)))
      (λ e. stretch_unmarked (thread t l) (thread t h) (marked t h) e)

  -- a thread brings what the plain reading says, and nothing else
  pub stretch_exactly : (n : ℕ) → (stretch (thread t l) (marked t h) (thread t h) ≡ n) ↔ Prohibits t l h n
  stretch_exactly n = (λ e. subst (λ (k : ℕ). Prohibits t l h k) e stretch-given, λ r. stretch_only r)

module _ (t : Table) (l : ℕ) where
  time_given : SumOf (Prohibits t l) t.count (prohibition t l)
  unfolding prohibition
  time_given = sum-given _ (Prohibits t l) (stretch_exactly t l) t.count

  time_only : {time : ℕ} → SumOf (Prohibits t l) t.count time → prohibition t l ≡ time
  unfolding prohibition
  time_only r = sum_only _ (Prohibits t l) (stretch_exactly t l) r

  -- the time is the sum of what each thread brings, and nothing else
  pub prohibition_exactly : (time : ℕ) → (prohibition t l ≡ time) ↔ SumOf (Prohibits t l) t.count time
  prohibition_exactly time = (λ e. subst (λ (n : ℕ). SumOf (Prohibits t l) t.count n) e time_given, λ r. time_only r)

  answer_only : {w : Told} → ProhibitionAnswer t l w → prohibiting t l ≡ w
  unfolding prohibiting pick
  answer_only (not-legal a) = rw a
  answer_only (no_thread a b) = rw (a, le-ltb _ _ b)
  answer_only (prohibited a b time r) = rw (a, lt-ltb _ _ b, time_only r)

  here : {w : Told} → ProhibitionAnswer t l w → ProhibitionAnswer t l (prohibiting t l)
  here r = subst (λ (w : Told). ProhibitionAnswer t l w) (sym (answer_only r)) r

  answer-given : ProhibitionAnswer t l (prohibiting t l)
  answer-given =
      by_test (legal t)
      (λ a. by_test (ltb l t.count) (λ b. here (prohibited a (ltb-true _ _ b) (prohibition t l) time_given)) (λ b. here (no_thread a (ltb-false _ _ b))))
      (λ a. here (not-legal a))

  -- what `prohibition` tells is exactly what the plain rows say
  pub prohibiting_exactly : (w : Told) → (prohibiting t l ≡ w) ↔ ProhibitionAnswer t l w
  prohibiting_exactly w = (λ e. subst (λ (v : Told). ProhibitionAnswer t l v) e answer-given, λ r. answer_only r)

-- A thread brings at most 119,998: no more than it would demand in that period.
stretch-most : (v d : ℕ) (own h : Thread) (m : Bool) → own.period ≤ 60000 → LegalThread v d h → stretch own m h ≤ 119998
unfolding stretch
stretch-most v d own h m p g =
    either (λ (n : ℕ). n ≤ 119998) (and m (above own h))
    (λ e. le_trans (mul-le-mul_left (ceil own.period h.period) g.blocking_high) (brings_most v d h g own.period p)) (λ e. omega arith)

-- The largest prohibition time: 31 threads above with 119,998 each.
pub prohibition-most : (t : Table) → Legal t → (l : ℕ) → l < t.count → prohibition t l ≤ 3719938
unfolding prohibition
prohibition-most t g l k =
    let own = thread t l in
    let s = sum_but_one (λ h. stretch own (marked t h) (thread t h)) 119998 t.count l k
    (stretch_other own own (marked t l) (le_refl _))
    (λ h u. stretch-most t.version t.domains own (thread t h) (marked t h) (g.threads l k).period_high (g.threads h u)) in
    omega (arith, s, g.count_high)

-- No sum on the way is larger.
pub prohibition_partial : (t : Table) → Legal t → (l n : ℕ) → l < t.count → n ≤ t.count
    → sum n (λ h. stretch (thread t l) (marked t h) (thread t h)) ≤ 3719938
unfolding prohibition
prohibition_partial t g l n k m =
    le_trans (sum_longer (λ h. stretch (thread t l) (marked t h) (thread t h)) n t.count m) (prohibition-most t g l k)

-- What is brought by the mark that stands in the list of all marks is what the table's own mark brings.
pub brought : (t : Table) (l k r : ℕ) (b : Bool) (h : Thread) (m : Mark) (ms : List Mark) → k < t.count → r ≡ stretch (thread t l) b h → b ≡ is_some m → h ≡ thread t k
    → m ≡ get_or ms k (mark nothing) → ms ≡ marks_of t → r ≡ stretch (thread t l) (marked t k) (thread t k)
brought t l k r b h m ms lt e f g i j = rw (e, f, g, i, j) (ap (λ (x : Bool). stretch (thread t l) x (thread t k)) (set_exactly t k lt))
