-- A long trace in parts: each later part begins with the byte of who last ran in the parts before it, and the parts' cleanings joined are those of the whole.
use Prim.Native.Nat.{ℕ, suc, ◌+◌, ◌-◌, ◌<◌, ◌≤◌}
use mathlib.Core.Path.{◌≡◌, refl, sym, ◌∙◌, ap, ap₂, subst}
use mathlib.Core.List.{List, [], ◌∷◌, ◌++◌, map, append_assoc}
use mathlib.Core.Bool.{false}
use native.Mathlib.Omega.{arith}
use borrow.Author.Tests.{ltb-true, ltb-false, le-ltb}
use lib.Dec.{ltb}
use lib.ListN.{length}
use Rattle.basis.specs.Tests.{pick}
use Rattle.basis.proofs.TestLaws.{by_test, and-false}
use Rattle.table.specs.declared.Table.{Table}
use Rattle.cleaning.specs.declared.Cleaning.{Cleaning}
use Rattle.cleaning.specs.Cleanings.{nobody, must_clean, latest, last_run, cleaned, cleanings}
use Rattle.cleaning.specs.Plain.{later, in_parts, joined}

module _ (t : Table) where
  abbrev here : ℕ → ℕ → ℕ → Cleaning
  here k a b = record { step = k; before = a; after = b }

  abbrev goes : ℕ → ℕ → List ℕ → List Cleaning
  goes = cleaned (must_clean t) t.count

  -- The scan goes on behind a first part from its place and its last runner.
  scan_join : (p q : List ℕ) (k a : ℕ) → goes k a (p ++ q) ≡ goes k a p ++ goes (k + length p) (last_run t a p) q
  unfolding cleaned last_run
  scan_join [] q k a = let e : k ≡ k + 0 = omega arith in ap (λ (n : ℕ). goes n a q) e
  scan_join (b ∷ p) q k a =
      let x : ℕ = latest t.count a b in
      let one : List Cleaning = pick (must_clean t a b) (here k a b ∷ []) [] in
      let s : (k + 1) + length p ≡ k + suc (length p) = omega arith in
      ap (λ (l : List Cleaning). one ++ l) (scan_join p q (k + 1) x ∙ ap (λ (n : ℕ). goes (k + 1) x p ++ goes n (last_run t x p) q) s)
      ∙ sym (append_assoc one (goes (k + 1) x p) (goes (k + suc (length p)) (last_run t x p) q))

  -- A scan that starts n steps later gives the same cleanings, n steps later.
  scan_later : (bs : List ℕ) (n k a : ℕ) → goes (n + k) a bs ≡ map (later n) (goes k a bs)
  unfolding cleaned pick
  scan_later [] n k a = refl
  scan_later (b ∷ bs) n k a =
      let x : ℕ = latest t.count a b in
      let s : n + (k + 1) ≡ n + k + 1 = omega arith in
      let next : goes (n + k + 1) x bs ≡ map (later n) (goes (k + 1) x bs) = subst (λ (m : ℕ). goes m x bs ≡ map (later n) (goes (k + 1) x bs)) s (scan_later bs n (k + 1) x) in
      by_test (must_clean t a b)
      (λ f. rw f (ap (λ (l : List Cleaning). here (n + k) a b ∷ l) next))
      (λ f. rw f next)

  -- The scan of the whole from step 0 on.
  begun : (p q : List ℕ) → cleanings t (p ++ q) ≡ cleanings t p ++ goes (length p) (last_run t nobody p) q
  unfolding cleanings
  begun p q = let e : 0 + length p ≡ length p = omega arith in scan_join p q 0 nobody ∙ ap (λ (n : ℕ). goes 0 nobody p ++ goes n (last_run t nobody p) q) e

  last_on : (p q : List ℕ) (a : ℕ) → last_run t a (p ++ q) ≡ last_run t (last_run t a p) q
  unfolding last_run
  last_on [] q a = refl
  last_on (b ∷ p) q a = last_on p q (latest t.count a b)

  -- Who last ran is a thread, or nobody.
  last_someone : (p : List ℕ) (a : ℕ) → (t.count ≤ a → a ≡ nobody) → t.count ≤ last_run t a p → last_run t a p ≡ nobody
  unfolding last_run latest pick
  last_someone [] a h = h
  last_someone (b ∷ p) a h =
      by_test (ltb b t.count)
      (λ e. rw e (last_someone p b (λ l. let m : b < t.count = ltb-true _ _ e in absurd (omega arith))))
      (λ e. rw e (last_someone p a h))

  -- With nobody before it, a byte of a thread, or of nobody, is who last ran after it.
  latest-first : (a : ℕ) → (t.count ≤ a → a ≡ nobody) → latest t.count nobody a ≡ a
  unfolding latest pick
  latest-first a h = by_test (ltb a t.count) (λ e. rw e) (λ e. rw e (sym (h (ltb-false _ _ e))))

  module _ (few : t.count ≤ nobody) where
    -- Where nobody ran, nothing is cleaned.
    clean_start : (a : ℕ) → must_clean t nobody a ≡ false
    unfolding must_clean
    clean_start a = rw (le-ltb nobody t.count few, and-false (ltb a t.count))

    -- A trace that begins with a byte of a thread, or of nobody, is one before which it ran.
    front-run : (a : ℕ) (q : List ℕ) → (t.count ≤ a → a ≡ nobody) → cleanings t (a ∷ q) ≡ goes 1 a q
    unfolding cleanings cleaned pick
    front-run a q h = rw (clean_start a) (ap (λ (x : ℕ). goes 1 x q) (latest-first a h))

    front-last : (a : ℕ) (q : List ℕ) → (t.count ≤ a → a ≡ nobody) → last_run t nobody (a ∷ q) ≡ last_run t a q
    unfolding last_run
    front-last a q h = ap (λ (x : ℕ). last_run t x q) (latest-first a h)

    -- The parts' cleanings joined are those of the whole: the later part's first byte stands for the last of the parts before it.
    pub parts_join : (p q : List ℕ) → 0 < length p
        → cleanings t (p ++ q) ≡ cleanings t p ++ map (later (length p - 1)) (cleanings t (last_run t nobody p ∷ q))
    parts_join p q l =
        let a : ℕ = last_run t nobody p in
        let e : length p - 1 + 1 ≡ length p = omega arith in
        let f : cleanings t (a ∷ q) ≡ goes 1 a q = front-run a q (last_someone p nobody (λ _. refl)) in
        begun p q
        ∙ ap (λ (n : ℕ). cleanings t p ++ goes n a q) (sym e)
        ∙ ap (λ (x : List Cleaning). cleanings t p ++ x) (scan_later q (length p - 1) 1 a ∙ ap (λ (x : List Cleaning). map (later (length p - 1)) x) (sym f))

    -- What the later part hands on is who last ran in the whole.
    pub last_join : (p q : List ℕ) → last_run t nobody (p ++ q) ≡ last_run t nobody (last_run t nobody p ∷ q)
    last_join p q = last_on p q nobody ∙ sym (front-last (last_run t nobody p) q (last_someone p nobody (λ _. refl)))

    -- A scan from step n + 1 on goes part by part.
    goes_parts : (ps : List (List ℕ)) (n a : ℕ) → (t.count ≤ a → a ≡ nobody) → goes (n + 1) a (joined ps) ≡ in_parts t n a ps
    unfolding in_parts cleaned
    goes_parts [] n a h = refl
    goes_parts (p ∷ ps) n a h =
        let q : List ℕ = joined ps in
        let b : ℕ = last_run t a p in
        let part : goes (n + 1) a p ≡ map (later n) (cleanings t (a ∷ p)) = scan_later p n 1 a ∙ ap (λ (l : List Cleaning). map (later n) l) (sym (front-run a p h)) in
        let step : n + 1 + length p ≡ n + length p + 1 = omega arith in
        let more : goes (n + length p + 1) b q ≡ in_parts t (n + length p) b ps = goes_parts ps (n + length p) b (last_someone p a h) in
        scan_join p q (n + 1) a
        ∙ ap (λ (m : ℕ). goes (n + 1) a p ++ goes m b q) step
        ∙ ap₂ (λ (l m : List Cleaning). l ++ m) part (more ∙ ap (λ (x : ℕ). in_parts t (n + length p) x ps) (sym (front-last a p h)))

    -- The cleanings of any number of parts, joined, are those of the whole, each one step later, as the first part is read behind a byte too (255).
    pub all_parts : (ps : List (List ℕ)) → map (later 1) (cleanings t (joined ps)) ≡ in_parts t 0 nobody ps
    unfolding cleanings
    all_parts ps = sym (scan_later (joined ps) 1 0 nobody) ∙ goes_parts ps 0 nobody (λ _. refl)
