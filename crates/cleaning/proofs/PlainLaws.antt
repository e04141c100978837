-- The scan in one pass and the plain reading agree: the list has each cleaning that is due, once and in order, and nothing else.
use Prim.Native.Nat.{ℕ, zero, suc, ◌+◌, ◌<◌, ◌≤◌}
use mathlib.Core.Path.{◌≡◌, refl, sym, ◌∙◌, ap, ap₂, subst}
use mathlib.Core.List.{List, [], ◌∷◌, ◌++◌}
use mathlib.Core.Bool.{true, false, not}
use native.Mathlib.Omega.{arith}
use borrow.Author.Tests.{ltb-true, ltb-false, lt-ltb, eqb-false, ne_eqb, not-true}
use lib.Dec.{eqb, ltb}
use lib.ListN.{length, get_or, drop, length-drop}
use lib.Seq.{drop-drop, drop-cons}
use Rattle.basis.proofs.ListLaws.{Each}
use Rattle.basis.proofs.TestLaws.{by_test, either, refuted, and_both}
use Rattle.table.specs.declared.Table.{Table}
use Rattle.cleaning.specs.declared.Cleaning.{Cleaning}
use Rattle.cleaning.specs.Cleanings.{nobody, may_pass, must_clean, latest, cleaned, cleanings}
use Rattle.cleaning.specs.Scan.{none}
use Rattle.cleaning.specs.Plain.{Runs, Last, Due, Stands, Lists}

-- What the test of two threads says.
pub record Barred (t : Table) (a b : ℕ) : Type 0 where
  pub runs : b < t.count
  pub in_table : a < t.count
  pub another : a ≡ b → ⊥
  pub barred : may_pass t a b ≡ false

pub must_barred : (t : Table) (a b : ℕ) → must_clean t a b ≡ true → Barred t a b
unfolding must_clean
must_barred t a b e =
    let o = and_both (ltb b t.count) _ e in
    let p = and_both (ltb a t.count) _ o.1 in
    let q = and_both (not (eqb a b)) (not (may_pass t a b)) p.1 in
    record { runs = ltb-true _ _ o.0; in_table = ltb-true _ _ p.0; another = eqb-false _ _ (not-true _ q.0); barred = not-true _ q.1 }

pub barred_must : (t : Table) (a b : ℕ) → Barred t a b → must_clean t a b ≡ true
unfolding must_clean
barred_must t a b h = rw (lt-ltb b t.count h.runs, lt-ltb a t.count h.in_table, ne_eqb a b h.another, h.barred)

-- The first byte of what is left of a trace is the one at that step.
pub step-within : (tr : List ℕ) (k b : ℕ) (bs : List ℕ) → drop k tr ≡ b ∷ bs → k < length tr
step-within tr k b bs e = let l : length (drop k tr) ≡ suc (length bs) = ap length e in omega (arith, l, length-drop k tr)

pub step-byte : (tr : List ℕ) (k b : ℕ) (bs : List ℕ) → drop k tr ≡ b ∷ bs → get_or tr k 0 ≡ b
step-byte tr k b bs e = ap (λ (l : List ℕ). get_or l 0 0) (sym (drop-cons tr k 0 (step-within tr k b bs e)) ∙ e)

pub step_rest : (tr : List ℕ) (k b : ℕ) (bs : List ℕ) → drop k tr ≡ b ∷ bs → drop (k + 1) tr ≡ bs
step_rest tr k b bs e = sym (drop-drop 1 k tr) ∙ ap (drop 1) e

pub trace-ended : (tr : List ℕ) (k : ℕ) → drop k tr ≡ [] → length tr ≤ k
trace-ended tr k e = let l : length (drop k tr) ≡ 0 = ap length e in omega (arith, l, length-drop k tr)

-- a is who last ran before step k: a thread that did, or, where a is no thread, nobody.
pub record Known (t : Table) (tr : List ℕ) (k a : ℕ) : Type 0 where
  pub ran : a < t.count → Last t tr k a
  pub nobody-ran : t.count ≤ a → (j h : ℕ) → j < k → Runs t tr j h → ⊥

-- The steps of a list rise from m on.
abbrev Rising : ℕ → List Cleaning → Type 0
Rising m [] = Unit {0}
Rising m (c ∷ l) = (m ≤ c.step) × Rising (c.step + 1) l

-- What is listed from step k on.
record Listed (t : Table) (tr : List ℕ) (k : ℕ) (l : List Cleaning) : Type 0 where
  only : Each (Due t tr) l
  each : (c : Cleaning) → Due t tr c → k ≤ c.step → Stands c l
  rising : Rising k l

module _ (t : Table) (tr : List ℕ) where
  -- One thread runs at a step.
  pub one-runs : (k i j : ℕ) → Runs t tr k i → Runs t tr k j → i ≡ j
  one-runs k i j u v = sym u.byte ∙ v.byte

  -- One thread is the last before a step.
  pub one_last : (k i j : ℕ) → Last t tr k i → Last t tr k j → i ≡ j
  one_last k i j u v =
      by_test (ltb u.at v.at)
      (λ e. absurd (u.since v.at j (ltb-true _ _ e) v.earlier v.runs))
      (λ e. by_test (ltb v.at u.at)
      (λ f. absurd (v.since u.at i (ltb-true _ _ f) u.earlier u.runs))
      (λ f. let p : v.at ≤ u.at = ltb-false _ _ e in
      let q : u.at ≤ v.at = ltb-false _ _ f in
      let same : u.at ≡ v.at = omega arith in
      sym u.runs.byte ∙ ap (λ (n : ℕ). get_or tr n 0) same ∙ v.runs.byte))

  pub known-first : (a : ℕ) → t.count ≤ a → Known t tr 0 a
  known-first a l = record { ran = λ h. absurd (omega arith); nobody-ran = λ _ j h b. absurd (omega arith) }

  pub known-run : (k b : ℕ) → Runs t tr k b → Known t tr (k + 1) b
  known-run k b u = record {
    ran = λ _. record { at = k; earlier = omega arith; runs = u; since = λ j h l m v. absurd (omega arith) };
    nobody-ran = λ l. absurd (omega (arith, u.in_table));
  }

  -- A byte that is no thread is no run.
  pub no_run : (k b h : ℕ) → get_or tr k 0 ≡ b → t.count ≤ b → Runs t tr k h → ⊥
  no_run k b h e l v = omega (arith, e, l, v.byte, v.in_table)

  pub known-idle : (k a b : ℕ) → get_or tr k 0 ≡ b → t.count ≤ b → Known t tr k a → Known t tr (k + 1) a
  known-idle k a b e l h = record {
    ran = λ m. extended (h.ran m);
    nobody-ran = λ m j i q v. by_test (ltb j k) (λ f. h.nobody-ran m j i (ltb-true _ _ f) v)
        (λ f. let w : k ≤ j = ltb-false _ _ f in let same : j ≡ k = omega arith in no_run k b i e l (subst (λ (n : ℕ). Runs t tr n i) same v));
  }
    where
      extended : Last t tr k a → Last t tr (k + 1) a
      extended u = record {
        at = u.at;
        earlier = omega (arith, u.earlier);
        runs = u.runs;
        since = λ j i p q v. by_test (ltb j k) (λ f. u.since j i p (ltb-true _ _ f) v)
            (λ f. let w : k ≤ j = ltb-false _ _ f in let same : j ≡ k = omega arith in no_run k b i e l (subst (λ (n : ℕ). Runs t tr n i) same v));
      }

  -- Who last ran before the step after this one.
  pub known_next : (k a b : ℕ) → get_or tr k 0 ≡ b → k < length tr → Known t tr k a → Known t tr (k + 1) (latest t.count a b)
  unfolding latest
  known_next k a b e l h =
      let P : ℕ → Type 0 = Known t tr (k + 1) in
      either P (ltb b t.count)
      (λ f. known-run k b (record { in_table = ltb-true _ _ f; within = l; byte = e }))
      (λ f. known-idle k a b e (ltb-false _ _ f) h)

  -- Where a thread runs and the test says so, a cleaning is due.
  pub due-here : (k a b : ℕ) → Known t tr k a → Runs t tr k b → must_clean t a b ≡ true → Due t tr (record { step = k; before = a; after = b })
  due-here k a b h u e =
      let w = must_barred t a b e in
      record { runs = u; last = h.ran w.in_table; another = w.another; barred = w.barred }

  -- A cleaning that is due at a step is that of who runs there and who ran last.
  pub due_must : (c : Cleaning) → Due t tr c → must_clean t c.before c.after ≡ true
  due_must c d = barred_must t c.before c.after (record { runs = d.runs.in_table; in_table = d.last.runs.in_table; another = d.another; barred = d.barred })

  pub due-last : (k a : ℕ) (c : Cleaning) → Known t tr k a → Due t tr c → c.step ≡ k → c.before ≡ a
  due-last k a c h d e =
      let u : Last t tr k c.before = subst (λ (n : ℕ). Last t tr n c.before) e d.last in
      by_test (ltb a t.count) (λ f. one_last k c.before a u (h.ran (ltb-true _ _ f)))
      (λ f. absurd (h.nobody-ran (ltb-false _ _ f) u.at c.before u.earlier u.runs))

  pub due-runs : (k b : ℕ) (c : Cleaning) → get_or tr k 0 ≡ b → Due t tr c → c.step ≡ k → c.after ≡ b
  due-runs k b c e d s = sym d.runs.byte ∙ ap (λ (n : ℕ). get_or tr n 0) s ∙ e

  -- Two at one step are one.
  pub one-due : (c d : Cleaning) → Due t tr c → Due t tr d → c.step ≡ d.step → c ≡ d
  one-due c d u v e =
      let b : c.before ≡ d.before = one_last d.step c.before d.before (subst (λ (n : ℕ). Last t tr n c.before) e u.last) v.last in
      let a : c.after ≡ d.after = one-runs d.step c.after d.after (subst (λ (n : ℕ). Runs t tr n c.after) e u.runs) v.runs in
      λ i. record { step = e i; before = b i; after = a i }

  rising_sooner : (m : ℕ) (l : List Cleaning) → Rising (m + 1) l → Rising m l
  rising_sooner m [] r = tt
  rising_sooner m (c ∷ l) r = (omega (arith, r.0), r.1)

  rising_at : (l : List Cleaning) (m n : ℕ) → Rising m l → n < length l → m ≤ (get_or l n none).step
  rising_at [] m n r h = absurd (omega arith)
  rising_at (c ∷ l) m zero r h = r.0
  rising_at (c ∷ l) m (suc n) r h = omega (arith, r.0, rising_at l (c.step + 1) n r.1 (omega arith))

  rising_order : (l : List Cleaning) (m j k : ℕ) → Rising m l → j < k → k < length l → (get_or l j none).step < (get_or l k none).step
  rising_order [] m j k r h b = absurd (omega arith)
  rising_order (c ∷ l) m j zero r h b = absurd (omega arith)
  rising_order (c ∷ l) m zero (suc k) r h b = omega (arith, rising_at l (c.step + 1) k r.1 (omega arith))
  rising_order (c ∷ l) m (suc j) (suc k) r h b = rising_order l (c.step + 1) j k r.1 (omega arith) (omega arith)

  each_in : (P : Cleaning → Type 0) (l : List Cleaning) (n : ℕ) → Each P l → n < length l → P (get_or l n none)
  each_in P [] n e h = absurd (omega arith)
  each_in P (c ∷ l) zero e h = e.0
  each_in P (c ∷ l) (suc n) e h = each_in P l n e.1 (omega arith)

  behind : (c d : Cleaning) (l : List Cleaning) → Stands c l → Stands c (d ∷ l)
  behind c d l s = record { place = suc s.place; below = omega (arith, s.below); there = s.there }

  -- A cleaning from step k on is at k or behind it.
  from_next : {A : Type 0} (k n : ℕ) → k ≤ n → (n ≡ k → A) → (k + 1 ≤ n → A) → A
  from_next k n l here next = by_test (ltb k n) (λ e. let m : k < n = ltb-true _ _ e in next (omega arith)) (λ e. let m : n ≤ k = ltb-false _ _ e in here (omega arith))

  module _ (k a b : ℕ) (e : get_or tr k 0 ≡ b) (h : Known t tr k a) where
    listed_entry : (l : List Cleaning) → k < length tr → must_clean t a b ≡ true → Listed t tr (k + 1) l → Listed t tr k (record { step = k; before = a; after = b } ∷ l)
    listed_entry l w m q =
        let u : Runs t tr k b = record { in_table = (must_barred t a b m).runs; within = w; byte = e } in
        let c : Cleaning = record { step = k; before = a; after = b } in
        let d : Due t tr c = due-here k a b h u m in
        record {
          only = (d, q.only);
          each = λ x v g. from_next k x.step g
              (λ s. record { place = 0; below = omega arith; there = one-due c x d v (sym s) })
              (λ g'. behind x c l (q.each x v g'));
          rising = (omega arith, q.rising);
        }

    listed-none : (l : List Cleaning) → must_clean t a b ≡ false → Listed t tr (k + 1) l → Listed t tr k l
    listed-none l m q = record {
      only = q.only;
      each = λ x v g. from_next k x.step g (λ s. refuted (meets x v s) m) (λ g'. q.each x v g');
      rising = rising_sooner k l q.rising;
    }
      where
        meets : (x : Cleaning) → Due t tr x → x.step ≡ k → must_clean t a b ≡ true
        meets x v s =
            subst (λ (n : ℕ). must_clean t n b ≡ true) (due-last k a x h v s)
            (subst (λ (n : ℕ). must_clean t x.before n ≡ true) (due-runs k b x e v s) (due_must x v))

  scan_lists : (bs : List ℕ) (k a : ℕ) → drop k tr ≡ bs → Known t tr k a → Listed t tr k (cleaned (must_clean t) t.count k a bs)
  unfolding cleaned
  scan_lists [] k a e h = record { only = tt; each = λ x v g. absurd (omega (arith, trace-ended tr k e, v.runs.within)); rising = tt }
  scan_lists (b ∷ bs) k a e h =
      let byte : get_or tr k 0 ≡ b = step-byte tr k b bs e in
      let within : k < length tr = step-within tr k b bs e in
      let more : Listed t tr (k + 1) (cleaned (must_clean t) t.count (k + 1) (latest t.count a b) bs)
      = scan_lists bs (k + 1) (latest t.count a b) (step_rest tr k b bs e) (known_next k a b byte within h) in
      let P : List Cleaning → Type 0 = λ l. Listed t tr k (l ++ cleaned (must_clean t) t.count (k + 1) (latest t.count a b) bs) in
      either P (must_clean t a b) (λ m. listed_entry k a b byte h _ within m more) (λ m. listed-none k a b byte h _ m more)

  -- The list is exactly the cleanings that are due, in order.
  pub cleanings_list : t.count ≤ nobody → Lists t tr (cleanings t tr)
  unfolding cleanings
  cleanings_list few =
      let l : List Cleaning = cleaned (must_clean t) t.count 0 nobody tr in
      let q : Listed t tr 0 l = scan_lists tr 0 nobody refl (known-first nobody few) in
      record {
        only = λ n h. each_in (Due t tr) l n q.only h;
        each = λ c d. q.each c d (omega arith);
        ordered = λ j k h b. rising_order l 0 j k q.rising h b;
      }

-- Two lists have the same first n places.
record Agrees (l m : List Cleaning) (n : ℕ) : Type 0 where
  left : (j : ℕ) → j < n → j < length l → j < length m
  right : (j : ℕ) → j < n → j < length m → j < length l
  same : (j : ℕ) → j < n → j < length l → get_or l j none ≡ get_or m j none

flipped : (l m : List Cleaning) (n : ℕ) → Agrees l m n → Agrees m l n
flipped l m n g = record { left = g.right; right = g.left; same = λ j p h. sym (g.same j p (g.right j p h)) }

same_lists : (l m : List Cleaning) → length l ≡ length m → ((n : ℕ) → n < length l → get_or l n none ≡ get_or m n none) → l ≡ m
same_lists [] [] e h = refl
same_lists [] (d ∷ m) e h = absurd (omega arith)
same_lists (c ∷ l) [] e h = absurd (omega arith)
same_lists (c ∷ l) (d ∷ m) e h = ap₂ ◌∷◌ (h 0 (omega arith)) (same_lists l m (omega arith) (λ n p. h (suc n) (omega arith)))

module _ (t : Table) (tr : List ℕ) where
  in_order : (l : List Cleaning) → Lists t tr l → (j k : ℕ) → j ≤ k → k < length l → (get_or l j none).step ≤ (get_or l k none).step
  in_order l u j k p h =
      by_test (ltb j k) (λ e. let w : j < k = ltb-true _ _ e in omega (arith, u.ordered j k w h))
      (λ e. let w : k ≤ j = ltb-false _ _ e in let q : j ≡ k = omega arith in let s : (get_or l j none).step ≡ (get_or l k none).step = ap (λ (n : ℕ). (get_or l n none).step) q in omega (arith, s))

  -- What stands at place n of one list is not among the first n of the other.
  late : (l m : List Cleaning) → Lists t tr l → (n : ℕ) → Agrees l m n → n < length l → (s : Stands (get_or l n none) m) → n ≤ s.place
  late l m u n g h s =
      by_test (ltb s.place n)
      (λ e. let p : s.place < n = ltb-true _ _ e in
      let q : s.place < length l = g.right s.place p s.below in
      let k : (get_or l s.place none).step ≡ (get_or l n none).step = ap (λ (c : Cleaning). c.step) (g.same s.place p q ∙ s.there) in
      absurd (omega (arith, k, u.ordered s.place n p h)))
      (λ e. ltb-false _ _ e)

  next-inside : (l m : List Cleaning) → Lists t tr l → Lists t tr m → (n : ℕ) → Agrees l m n → n < length l → n < length m
  next-inside l m u v n g h =
      let s : Stands (get_or l n none) m = v.each (get_or l n none) (u.only n h) in
      omega (arith, s.below, late l m u n g h s)

  not_sooner : (l m : List Cleaning) → Lists t tr l → Lists t tr m → (n : ℕ) → Agrees l m n → n < length l → (get_or m n none).step ≤ (get_or l n none).step
  not_sooner l m u v n g h =
      let s : Stands (get_or l n none) m = v.each (get_or l n none) (u.only n h) in
      let e : (get_or m s.place none).step ≡ (get_or l n none).step = ap (λ (c : Cleaning). c.step) s.there in
      omega (arith, e, in_order m v n s.place (late l m u n g h s) s.below)

  next-same : (l m : List Cleaning) → Lists t tr l → Lists t tr m → (n : ℕ) → Agrees l m n → n < length l → get_or l n none ≡ get_or m n none
  next-same l m u v n g h =
      let k : n < length m = next-inside l m u v n g h in
      let a : (get_or m n none).step ≤ (get_or l n none).step = not_sooner l m u v n g h in
      let b : (get_or l n none).step ≤ (get_or m n none).step = not_sooner m l v u n (flipped l m n g) k in
      let e : (get_or l n none).step ≡ (get_or m n none).step = omega (arith, a, b) in
      one-due t tr (get_or l n none) (get_or m n none) (u.only n h) (v.only n k) e

  agree : (l m : List Cleaning) → Lists t tr l → Lists t tr m → (n : ℕ) → Agrees l m n
  agree l m u v zero = record { left = λ j p. absurd (omega arith); right = λ j p. absurd (omega arith); same = λ j p. absurd (omega arith) }
  agree l m u v (suc n) = one_more (agree l m u v n)
    where
      below_or : {A : Type 0} (j : ℕ) → j < suc n → (j < n → A) → (n ≡ j → A) → A
      below_or j p f g = by_test (ltb j n) (λ e. f (ltb-true _ _ e)) (λ e. let q : n ≤ j = ltb-false _ _ e in g (omega arith))

      one_more : Agrees l m n → Agrees l m (suc n)
      one_more g = record {
        left = λ j p h. below_or j p (λ q. g.left j q h)
            (λ e. subst (λ (k : ℕ). k < length m) e (next-inside l m u v n g (subst (λ (k : ℕ). k < length l) (sym e) h)));
        right = λ j p h. below_or j p (λ q. g.right j q h)
            (λ e. subst (λ (k : ℕ). k < length l) e (next-inside m l v u n (flipped l m n g) (subst (λ (k : ℕ). k < length m) (sym e) h)));
        same = λ j p h. below_or j p (λ q. g.same j q h)
            (λ e. subst (λ (k : ℕ). get_or l k none ≡ get_or m k none) e (next-same l m u v n g (subst (λ (k : ℕ). k < length l) (sym e) h)));
      }

  -- No second list has each cleaning that is due, nothing else, and in order.
  pub lists_once : (l m : List Cleaning) → Lists t tr l → Lists t tr m → l ≡ m
  lists_once l m u v =
      let n : ℕ = length l + length m + 1 in
      let g : Agrees l m n = agree l m u v n in
      same_lists l m (as_long g) (λ j h. g.same j (omega arith) h)
    where
      as_long : Agrees l m (length l + length m + 1) → length l ≡ length m
      as_long g =
          by_test (ltb (length l) (length m))
          (λ e. let p : length l < length m = ltb-true _ _ e in absurd (omega (arith, g.right (length l) (omega arith) p)))
          (λ e. by_test (ltb (length m) (length l))
          (λ f. let p : length m < length l = ltb-true _ _ f in absurd (omega (arith, g.left (length m) (omega arith) p)))
          (λ f. let p : length m ≤ length l = ltb-false _ _ e in let q : length l ≤ length m = ltb-false _ _ f in omega arith))
