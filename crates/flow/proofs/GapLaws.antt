-- The search for the first gap says what it should: the first triple in the order of a, then b, then c, or that there is none.
use Prim.Native.Nat.{ℕ, ◌<◌}
use mathlib.Core.Path.{◌≡◌, refl, ap, sym, ◌∙◌}
use mathlib.Core.Bool.{Bool, true, false, true≢false}
use mathlib.Core.List.{List}
use native.Mathlib.Omega.{arith}
use lib.ListN.{get_or}
use native.Mathlib.Decide.{dec_lt}
use Rattle.basis.specs.Tests.{pick}
use Rattle.basis.specs.Search.{Sought, nothing, found}
use Rattle.basis.specs.Told.{Told}
use Rattle.basis.proofs.SearchLaws.{first-nothing, first_found, first-all, FoundAt}
use borrow.Author.Tests.{eqb-true, eq-eqb, not-true, not-false}
use lib.Bits.{bit_and}
use lib.Dec.{eqb}
use Rattle.flow.proofs.FlowLaws.{covered_bit}
use Rattle.basis.proofs.TestLaws.{refuted, fails, and_both}
use Rattle.flow.specs.Flow.{flows}
use Rattle.flow.specs.declared.Gap.{Gap}
use Rattle.std.specs.Prelude.{Option, Some, None}
use Rattle.flow.specs.Gap.{broken, Triple, gap_at, gap_by_c, gap_by_b, first_gap, gap_told, told, IsFirstGap, WithoutGap}

pub gap_at-none : (rows : List ℕ) (a b c : ℕ) → broken rows a b c ≡ false → gap_at rows a b c ≡ nothing
unfolding gap_at pick
gap_at-none rows a b c e = rw e

pub gap_at_hit : (rows : List ℕ) (a b c : ℕ) → broken rows a b c ≡ true → gap_at rows a b c ≡ found (record { a = a; b = b; c = c })
unfolding gap_at pick
gap_at_hit rows a b c e = rw e

not_hit : (g : Triple) (t : Bool) → pick t (found g) nothing ≡ nothing → t ≡ false
unfolding pick
not_hit g true q = let z : ◌≡◌ {A = ℕ} 0 1 = cc in absurd (omega arith)
not_hit g false q = refl

hit : (g h : Triple) (t : Bool) → pick t (found g) nothing ≡ found h → (t ≡ true) × (g ≡ h)
unfolding pick
hit g h true q = (refl, (cc))
hit g h false q = let z : ◌≡◌ {A = ℕ} 0 1 = cc in absurd (omega arith)

-- No gap: no triple is broken, and the other way round.
pub gap-nothing : (rows : List ℕ) (n : ℕ) → first_gap rows n ≡ nothing → WithoutGap rows n
unfolding first_gap gap_by_b gap_by_c gap_at
gap-nothing rows n e = record {
  whole = λ a b c ha hb hc. not_hit _ _ (first-nothing _ n c (first-nothing _ n b (first-nothing _ n a e ha) hb) hc);
}

pub no_gap : (rows : List ℕ) (n : ℕ) → WithoutGap rows n → first_gap rows n ≡ nothing
unfolding first_gap gap_by_b gap_by_c
no_gap rows n w =
    first-all _ n (λ a ha. first-all _ n (λ b hb. first-all _ n (λ c hc. gap_at-none rows a b c (w.whole a b c ha hb hc))))

moved : {rows : List ℕ} {n : ℕ} {g h : Triple} → g ≡ h → IsFirstGap rows n g → IsFirstGap rows n h
moved e r = rw e at r

pub gap-found : (rows : List ℕ) (n : ℕ) (g : Triple) → first_gap rows n ≡ found g → IsFirstGap rows n g
unfolding first_gap gap_by_b gap_by_c gap_at
gap-found rows n g e =
    let f : FoundAt (gap_by_b rows n) n g = first_found _ n g e in
    let h : FoundAt (gap_by_c rows n f.number) n g = first_found _ n g f.answers in
    let k : FoundAt (gap_at rows f.number h.number) n g = first_found _ n g h.answers in
    let q = hit _ g _ k.answers in
    let r : IsFirstGap rows n (record { a = f.number; b = h.number; c = k.number }) = record {
      a_below = f.below;
      b_below = h.below;
      c_below = k.below;
      breaks = q.0;
      smaller_a = λ x y z l m o. not_hit _ _ (first-nothing _ n z (first-nothing _ n y (first-nothing _ _ x f.earlier l) m) o);
      smaller_b = λ y z l m. not_hit _ _ (first-nothing _ n z (first-nothing _ _ y h.earlier l) m);
      smaller_c = λ z l. not_hit _ _ (first-nothing _ _ z k.earlier l);
    } in
    moved q.1 r

-- Two first gaps are one: a smaller one would have been found first.
same_gap : (rows : List ℕ) (n : ℕ) (g h : Triple) → IsFirstGap rows n g → IsFirstGap rows n h → g ≡ h
same_gap rows n g h r s =
    let a-le : (g h : Triple) → IsFirstGap rows n g → IsFirstGap rows n h → g.a < h.a → ⊥
    = λ g h r s l. true≢false (sym r.breaks ∙ s.smaller_a _ _ _ l r.b_below r.c_below) in
    let ea : g.a ≡ h.a = level (a-le g h r s) (a-le h g s r) in
    let eb : g.b ≡ h.b = level
    (λ l. true≢false (sym (rw ea at r.breaks) ∙ s.smaller_b _ _ l r.c_below))
    (λ l. true≢false (sym (rw (sym ea) at s.breaks) ∙ r.smaller_b _ _ l s.c_below)) in
    let ec : g.c ≡ h.c = level
    (λ l. true≢false (sym (rw (ea, eb) at r.breaks) ∙ s.smaller_c _ l))
    (λ l. true≢false (sym (rw (sym ea, sym eb) at s.breaks) ∙ r.smaller_c _ l)) in
    let e : ◌≡◌ {A = Triple} (record { a = g.a; b = g.b; c = g.c }) (record { a = h.a; b = h.b; c = h.c }) = rw (ea, eb, ec) in
    e
  where
    level : {x y : ℕ} → (x < y → ⊥) → (y < x → ⊥) → x ≡ y
    level {x} {y} p q = go (dec_lt x y) (dec_lt y x)
      where
        go : Dec (x < y) → Dec (y < x) → x ≡ y
        go (yes l) d = absurd (p l)
        go (no l) (yes m) = absurd (q m)
        go (no l) (no m) = omega arith

-- A gap and none at once cannot be, and two first gaps are one.
pub gap-first : (rows : List ℕ) (n : ℕ) (g : Triple) → IsFirstGap rows n g → first_gap rows n ≡ found g
gap-first rows n g r = go (first_gap rows n) refl
  where
    go : (s : Sought Triple) → first_gap rows n ≡ s → first_gap rows n ≡ found g
    go nothing e = refuted r.breaks ((gap-nothing rows n e).whole _ _ _ r.a_below r.b_below r.c_below)
    go (found h) e = e ∙ ap found (same_gap rows n h g (gap-found rows n h e) r)

-- The answer of the code has one reading.
pub told_injective : (g h : Option Gap) → told g ≡ told h → g ≡ h
told_injective (Some g) (Some h) e =
    let v = ap (λ (t : Told). t.values) e in
    let ea : g.a ≡ h.a = cc in
    let eb : g.b ≡ h.b = cc in
    let ec : g.c ≡ h.c = cc in
    let f : ◌≡◌ {A = Gap} (record { a = g.a; b = g.b; c = g.c }) (record { a = h.a; b = h.b; c = h.c }) = rw (ea, eb, ec) in
    ap Some f
told_injective (Some g) None e = let v = ap (λ (t : Told). t.number) e in absurd (omega arith)
told_injective None (Some h) e = let v = ap (λ (t : Told). t.number) e in absurd (omega arith)
told_injective None None e = refl

-- No second answer fits `first_gap`.
pub first_gap_unique : (rows : List ℕ) (n : ℕ) (g h : Option Gap) → told g ≡ gap_told (first_gap rows n) → told h ≡ gap_told (first_gap rows n) → g ≡ h
first_gap_unique rows n g h p q = told_injective g h (p ∙ sym q)

-- What a caller learns from the answer of `first_gap`.
abbrev pub sought : Option Gap → Sought Triple
sought (Some g) = found (record { a = g.a; b = g.b; c = g.c })
sought None = nothing

pub gap-sought : (r : Option Gap) (s : Sought Triple) → told r ≡ gap_told s → s ≡ sought r
gap-sought (Some h) (found g) e =
    let v = ap (λ (t : Told). t.values) e in
    let ea : h.a ≡ g.a = cc in
    let eb : h.b ≡ g.b = cc in
    let ec : h.c ≡ g.c = cc in
    let f : ◌≡◌ {A = Triple} (record { a = g.a; b = g.b; c = g.c }) (record { a = h.a; b = h.b; c = h.c }) = rw (ea, eb, ec) in
    ap found f
gap-sought (Some h) nothing e = let v = ap (λ (t : Told). t.number) e in absurd (omega arith)
gap-sought None (found g) e = let v = ap (λ (t : Told). t.number) e in absurd (omega arith)
gap-sought None nothing e = refl

-- Without a gap the relation is transitive, and the other way round.
pub whole-flows : (rows : List ℕ) (n : ℕ) → WithoutGap rows n → (a b c : ℕ) → a < n → b < n → c < n
    → flows rows a b ≡ true → flows rows b c ≡ true → flows rows a c ≡ true
unfolding broken
whole-flows rows n w a b c ha hb hc p q = not-false _ (rw (p, q) at (w.whole a b c ha hb hc))

pub flows-whole : (rows : List ℕ) (n : ℕ) → ((a b c : ℕ) → a < n → b < n → c < n → flows rows a b ≡ true → flows rows b c ≡ true → flows rows a c ≡ true)
    → WithoutGap rows n
unfolding broken
flows-whole rows n h = record {
  whole = λ a b c ha hb hc. fails _ (λ e.
      let p = and_both (flows rows a b) _ e in
      let q = and_both (flows rows b c) _ p.1 in
      true≢false (sym (h a b c ha hb hc p.0 q.0) ∙ not-true _ q.1));
}

-- Where a does not flow to b, or flows wherever b does, no c breaks transitivity.
pub apart-whole : (rows : List ℕ) (a b c : ℕ) → flows rows a b ≡ false → broken rows a b c ≡ false
unfolding broken
apart-whole rows a b c e = rw e

pub whole_by_c : (rows : List ℕ) (n a b : ℕ) → ((c : ℕ) → broken rows a b c ≡ false) → gap_by_c rows n a b ≡ nothing
unfolding gap_by_c
whole_by_c rows n a b h = first-all _ n (λ c _. gap_at-none rows a b c (h c))

pub covered_whole : (rows : List ℕ) (a b c : ℕ) → eqb (bit_and (get_or rows b 0) (get_or rows a 0)) (get_or rows b 0) ≡ true → broken rows a b c ≡ false
unfolding broken flows
covered_whole rows a b c e = fails _ (λ f.
    let p = and_both (flows rows a b) _ f in
    let q = and_both (flows rows b c) _ p.1 in
    let bit = covered_bit c _ _ (eqb-true _ _ e) (eqb-true _ _ q.0) in
    true≢false (sym (eq-eqb _ _ bit) ∙ not-true _ q.1))

-- The first gap is decided by what the rows hold.
pub gap_same : (rows qs : List ℕ) (n : ℕ) → ((i : ℕ) → get_or rows i 0 ≡ get_or qs i 0) → first_gap rows n ≡ first_gap qs n
unfolding first_gap gap_by_b gap_by_c gap_at broken flows
gap_same rows qs n h = simp (gap_by_b, gap_by_c, gap_at, broken, flows, h)
