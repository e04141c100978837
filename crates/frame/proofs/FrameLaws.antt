-- Laws of a frame: it passes exactly where its plain reading holds, and then each clock falls in one window, of a domain of the table.
use Prim.Native.Nat.{ℕ, zero, suc, ◌+◌, ◌*◌, ◌≤◌, ◌<◌}
use mathlib.Core.Path.{◌≡◌, refl, ap}
use mathlib.Core.Bool.{true}
use mathlib.Core.Logic.{◌↔◌}
use native.Mathlib.Decide.{dec_lt, le_ind}
use native.Mathlib.Nat.{le_refl, mod-lt, zero-mod, add-mod_right, add-mul-mod_self_right}
use native.Mathlib.Omega.{arith}
use borrow.Author.Tests.{ltb-true, lt-ltb, le-ltb}
use lib.Dec.{ltb}
use Rattle.basis.specs.Tests.{pick}
use Rattle.basis.specs.Search.{Sought, nothing, found, first}
use Rattle.basis.proofs.TestLaws.{and_both, and-of, every-at, every-all}
use Rattle.basis.proofs.SearchLaws.{first-nothing, first_found, FoundAt}
use Rattle.table.specs.Ranges.{within}
use Rattle.table.specs.Legal.{Legal}
use Rattle.table.specs.declared.Table.{Table}
use Rattle.table.proofs.RangeLaws.{within_low, within_high, within-is}
use Rattle.frame.specs.declared.Frame.{Frame}
use Rattle.frame.specs.declared.Window.{Window}
use Rattle.frame.specs.Frame.{window, window_counts, window_lengths, window_ok, frame_ok, before, frame_length, ends_behind, number, window_within, window_at, domain_at, Fitting, Framed, Timed, FallsWithin, Falls}

-- A window passes exactly where its plain reading holds.
window-fits : (d : ℕ) (w : Window) → window_ok d w ≡ true → Fitting d w
unfolding window_ok
window-fits d w e =
    let b = and_both (ltb w.domain d) (within window_lengths w.length) e in
    record {
      domain_high = ltb-true w.domain d b.0;
      length_low = within_low window_lengths w.length b.1;
      length_high = omega (arith, within_high window_lengths w.length b.1);
    }

fits-window : (d : ℕ) (w : Window) → Fitting d w → window_ok d w ≡ true
unfolding window_ok
fits-window d w h =
    and-of (lt-ltb w.domain d h.domain_high) (within-is window_lengths w.length h.length_low (omega (arith, h.length_high)))

module _ (t : Table) (f : Frame) where
  pub ok_framed : frame_ok t f ≡ true → Framed t f
  unfolding frame_ok
  ok_framed e =
      let b = and_both (within window_counts f.count) _ e in
      let most : f.count ≤ 64 = omega (arith, within_high window_counts f.count b.0) in
      record {
        count_low = within_low window_counts f.count b.0;
        count_high = most;
        windows = λ k h. window-fits t.domains (window f k) (every-at _ _ k b.1 (omega arith));
      }

  pub framed_ok : Framed t f → frame_ok t f ≡ true
  unfolding frame_ok
  framed_ok h =
      and-of (within-is window_counts f.count h.count_low (omega (arith, h.count_high)))
      (every-all _ _ (λ k l. fits-window t.domains (window f k) (h.windows k l)))

  -- A frame passes exactly where its plain reading holds.
  pub framed_exactly : (frame_ok t f ≡ true) ↔ Framed t f
  framed_exactly = (ok_framed, framed_ok)

  pub framed_timed : Framed t f → Timed f
  framed_timed h = record { count_low = h.count_low; count_high = h.count_high; lengths = λ k l. (h.windows k l).length_low }

module _ (f : Frame) where
  -- The steps before the first window, and before the next.
  pub before-none : before f 0 ≡ 0
  unfolding before
  before-none = refl

  pub before-next : (k : ℕ) {n : ℕ} → n ≡ before f k → n + (window f k).length ≡ before f (suc k)
  unfolding before
  before-next k e = rw e

  -- No window begins before an earlier one.
  before_up : (j k : ℕ) → j ≤ k → before f j ≤ before f k
  unfolding before
  before_up j k h = le_ind (λ (m : ℕ). before f j ≤ before f m) (le_refl _) (λ m l r. omega arith) k h

  -- A frame that passes takes a step or more.
  pub frame_takes : Timed f → 1 ≤ frame_length f
  unfolding frame_length before
  frame_takes h = omega (arith, h.lengths 0 h.count_low, before_up 1 f.count h.count_low)

  -- A window answers at a place exactly where it ends behind it.
  pub behind : (p k : ℕ) → p < before f (suc k) → ends_behind f p k ≡ found k
  unfolding ends_behind pick
  behind p k h = rw (lt-ltb p (before f (suc k)) h)

  pub not_behind : (p k : ℕ) → before f (suc k) ≤ p → ends_behind f p k ≡ nothing
  unfolding ends_behind pick
  not_behind p k h = rw (le-ltb p (before f (suc k)) h)

  answers : (p j k : ℕ) → ends_behind f p j ≡ found k → (p < before f (suc j)) × (j ≡ k)
  answers p j k e = go (dec_lt p (before f (suc j)))
    where
      go : Dec (p < before f (suc j)) → (p < before f (suc j)) × (j ≡ k)
      go (yes l) = let q = behind p j l in (l, (cc))
      go (no l) = let q = not_behind p j (omega arith) in let z : ◌≡◌ {A = ℕ} 0 1 = cc in absurd (omega arith)

  silent : (p j : ℕ) → ends_behind f p j ≡ nothing → before f (suc j) ≤ p
  silent p j e = go (dec_lt p (before f (suc j)))
    where
      go : Dec (p < before f (suc j)) → before f (suc j) ≤ p
      go (yes l) = let q = behind p j l in let z : ◌≡◌ {A = ℕ} 0 1 = cc in absurd (omega arith)
      go (no l) = omega arith

  -- At a place of the frame the last window in use answers, if none before it does.
  some-answers : (p n : ℕ) → p < before f n → first n (ends_behind f p) ≡ nothing → ⊥
  unfolding before
  some-answers p zero h e = omega arith
  some-answers p (suc n) h e = omega (arith, silent p n (first-nothing _ (suc n) n e (omega arith)))

  begun_by : (p k : ℕ) → first k (ends_behind f p) ≡ nothing → before f k ≤ p
  unfolding before
  begun_by p zero e = omega arith
  begun_by p (suc k) e = silent p k (first-nothing _ (suc k) k e (omega arith))

  -- Each place of the frame falls in the window that is found ..
  pub within_falls : (p : ℕ) → p < frame_length f → FallsWithin f p (window_within f p)
  unfolding frame_length window_within
  within_falls p h = go (first f.count (ends_behind f p)) refl
    where
      go : (s : Sought ℕ) → first f.count (ends_behind f p) ≡ s → FallsWithin f p (number s)
      go nothing e = absurd (some-answers p f.count h e)
      go (found k) e =
          let a : FoundAt (ends_behind f p) f.count k = first_found _ f.count k e in
          let b = answers p a.number k a.answers in
          let c : FallsWithin f p a.number = record { in_use = a.below; begun = begun_by p a.number a.earlier; unended = b.0 } in
          rw b.1 at c

  -- .. and in no second one.
  pub within-once : (p j k : ℕ) → FallsWithin f p j → FallsWithin f p k → j ≡ k
  within-once p j k a b = go (dec_lt j k) (dec_lt k j)
    where
      go : Dec (j < k) → Dec (k < j) → j ≡ k
      go (yes l) d = absurd (omega (arith, before_up (suc j) k l, a.unended, b.begun))
      go (no l) (yes m) = absurd (omega (arith, before_up (suc k) j m, b.unended, a.begun))
      go (no l) (no m) = omega arith

  -- What is found is the window in which the place falls, and no other.
  pub within_exactly : (p k : ℕ) → p < frame_length f → (window_within f p ≡ k) ↔ FallsWithin f p k
  within_exactly p k h =
      let a = within_falls p h in
      (λ (e : window_within f p ≡ k). rw e at a, λ (b : FallsWithin f p k). within-once p _ k a b)

  -- Each clock falls in one window ..
  pub falls : Timed f → (c : ℕ) → Falls f c (window_at f c)
  unfolding window_at
  falls h c = within_falls _ (mod-lt c (frame_takes h))

  pub falls_once : (c j k : ℕ) → Falls f c j → Falls f c k → j ≡ k
  falls_once c j k a b = within-once _ j k a b

  pub falls_exactly : Timed f → (c k : ℕ) → (window_at f c ≡ k) ↔ Falls f c k
  unfolding window_at
  falls_exactly h c k = within_exactly _ k (mod-lt c (frame_takes h))

  -- .. window 0 at clock 0 ..
  pub starts : Timed f → window_at f 0 ≡ 0
  unfolding frame_length before
  starts h =
      (falls_exactly h 0 0).1 (record {
        in_use = h.count_low;
        begun = omega arith;
        unended = rw (zero-mod (frame_length f)) (omega (arith, h.lengths 0 h.count_low));
      })

  -- .. and the same one after a whole frame, and after any number of them.
  pub repeats : (c : ℕ) → window_at f (c + frame_length f) ≡ window_at f c
  unfolding window_at
  repeats c = ap (window_within f) (add-mod_right c (frame_length f))

  pub repeats_ever : (c n : ℕ) → window_at f (c + n * frame_length f) ≡ window_at f c
  unfolding window_at
  repeats_ever c n = ap (window_within f) (add-mul-mod_self_right c n (frame_length f))

  pub domain_repeats : (c n : ℕ) → domain_at f (c + n * frame_length f) ≡ domain_at f c
  unfolding domain_at
  domain_repeats c n = ap (λ (k : ℕ). (window f k).domain) (repeats_ever c n)

module _ (t : Table) (f : Frame) (h : Framed t f) where
  -- A window's domain is one of the table's, so below 16 where the table is legal.
  pub domain_high : (c : ℕ) → domain_at f c < t.domains
  unfolding domain_at
  domain_high c = (h.windows _ (falls f (framed_timed t f h) c).in_use).domain_high

  pub domain_small : Legal t → (c : ℕ) → domain_at f c < 16
  domain_small g c = omega (arith, domain_high c, g.domains_high)

  -- The longest frame takes 64 times 60,000 steps.
  before-most : (k : ℕ) → k ≤ f.count → before f k ≤ k * 60000
  unfolding before
  before-most zero l = omega arith
  before-most (suc k) l = omega (arith, before-most k (omega arith), (h.windows k l).length_high)

  pub frame-longest : frame_length f ≤ 3840000
  unfolding frame_length
  frame-longest = omega (arith, before-most f.count (le_refl _), h.count_high)
