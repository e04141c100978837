-- A template is filled in character by character: what was put and what is to come are the whole. And how long it is at most.
use Prim.Native.Nat.{ℕ, ◌+◌, ◌-◌, ◌*◌, ◌≤◌, ◌<◌}
use mathlib.Core.Path.{◌≡◌, refl, ap, sym, ◌∙◌}
use mathlib.Core.List.{List, [], ◌∷◌, ◌++◌, append-nil, append_assoc}
use native.Mathlib.Omega.{arith}
use native.Mathlib.Nat.{add-zero}
use lib.ListN.{length, get_or, drop, length-append, drop_of_length-le}
use lib.Seq.{get_or-drop, drop-drop}
use borrow.Author.Tests.{eq-eqb, ne_eqb, eqb-true, eqb-false}
use Rattle.basis.specs.Tests.{pick}
use Rattle.basis.proofs.TestLaws.{by_test, both_ways}
use Rattle.basis.proofs.ListLaws.{drop-some}
use Rattle.decimal.specs.Decimal.{decimal}
use Rattle.decimal.proofs.DecimalLaws.{decimal_long, decimal-short}
use Rattle.writer.specs.Buffer.{Room, Put}
use Rattle.writer.proofs.WriterLaws.{put-none, put_join, put-length}
use Rattle.phrase.specs.Phrase.{is_hole, piece, used, filled}

-- A hole, and any other character.
pub piece_hole : (b n : ℕ) → b ≡ 35 → piece b n ≡ decimal n
unfolding piece pick
piece_hole b n h = rw (eq-eqb b 35 h)

pub piece_other : (b n : ℕ) → (b ≡ 35 → ⊥) → piece b n ≡ b ∷ []
unfolding piece pick
piece_other b n h = rw (ne_eqb b 35 h)

pub used_hole : (b : ℕ) → b ≡ 35 → used b ≡ 1
unfolding used pick
used_hole b h = rw (eq-eqb b 35 h)

pub used_other : (b : ℕ) → (b ≡ 35 → ⊥) → used b ≡ 0
unfolding used pick
used_other b h = rw (ne_eqb b 35 h)

pub used_small : (b : ℕ) → used b ≤ 1
unfolding used
used_small b = both_ways (λ (n : ℕ). n ≤ 1) (is_hole b) 1 0 (omega arith) (omega arith)

module _ (t ns : List ℕ) where
  -- One character more.
  pub filled_next : (i j : ℕ) → i < length t →
      filled (drop i t) (drop j ns) ≡ piece (get_or t i 0) (get_or ns j 0) ++ filled (drop (i + 1) t) (drop (j + used (get_or t i 0)) ns)
  unfolding filled
  filled_next i j h = rw (drop-some t i (get_or t i 0) refl h, get_or-drop j ns 0 0, add-zero j, drop-drop (used (get_or t i 0)) j ns)

  pub filled_none : (i j : ℕ) → length t ≤ i → filled (drop i t) (drop j ns) ≡ []
  unfolding filled
  filled_none i j h = rw (drop_of_length-le t h)

  pub filled_size : (i j : ℕ) → i < length t →
      length (filled (drop i t) (drop j ns))
      ≡ length (piece (get_or t i 0) (get_or ns j 0)) + length (filled (drop (i + 1) t) (drop (j + used (get_or t i 0)) ns))
  filled_size i j h = ap length (filled_next i j h) ∙ length-append (piece (get_or t i 0) (get_or ns j 0)) _

  -- What is left of a room, one character more.
  pub record Leaving (room left i j : ℕ) : Type 0 where
    pub sum : length (filled t ns) + left ≡ length (filled (drop i t) (drop j ns)) + room

  module _ {room left i j n size : ℕ} (l : Leaving room left i j) (h : i < length t) (e : n ≡ get_or ns j 0) (s : size ≡ length (piece (get_or t i 0) n)) where
    next_size : length (filled (drop i t) (drop j ns)) ≡ size + length (filled (drop (i + 1) t) (drop (j + used (get_or t i 0)) ns))
    next_size = rw (s, e) (filled_size i j h)

    pub leaving_goes : {j' : ℕ} → j' ≡ j + used (get_or t i 0) → size ≤ left → Leaving room (left - size) (i + 1) j'
    leaving_goes {j'} f k = record { sum = rw f (omega (arith, l.sum, next_size)) }

    pub leaving_short : left < size → room < length (filled t ns)
    leaving_short k = omega (arith, l.sum, next_size)

  pub leaving_ends : {room left i j : ℕ} → Leaving room left i j → length t ≤ i → length (filled t ns) ≤ room
  leaving_ends {room} {left} {i} {j} l h = omega (arith, l.sum, ap length (filled_none i j h))

  -- What was put before character i, with j numbers used up.
  pub record Filling (b : List ℕ) (at : ℕ) (b' : List ℕ) (k i j : ℕ) : Type 0 where
    pub done : List ℕ
    pub put : Put b at b' k done
    pub whole : done ++ filled (drop i t) (drop j ns) ≡ filled t ns

  pub filling_starts : (b : List ℕ) (at : ℕ) → Filling b at b at 0 0
  filling_starts b at = record { done = []; put = put-none b at; whole = refl }

  module _ {b : List ℕ} {at : ℕ} {b' : List ℕ} {k i j : ℕ} (f : Filling b at b' k i j) where
    pub filling_room : {n : ℕ} → Room b at (filled t ns) → i < length t → n ≡ get_or ns j 0 → Room b' k (piece (get_or t i 0) n)
    filling_room r h e = record {
      fits = rw e (omega (arith, r.fits, f.put.end, put-length f.put, ap length f.whole, length-append f.done (filled (drop i t) (drop j ns)), filled_size i j h));
    }

    pub filling_goes : {n j' : ℕ} {b'' : List ℕ} {k' : ℕ} → i < length t → n ≡ get_or ns j 0 → j' ≡ j + used (get_or t i 0) →
        Put b' k b'' k' (piece (get_or t i 0) n) → Filling b at b'' k' (i + 1) j'
    filling_goes {n} {j'} h e g p = record {
      done = f.done ++ piece (get_or t i 0) n;
      put = put_join f.put p;
      whole = rw (e, g) (append_assoc f.done (piece (get_or t i 0) (get_or ns j 0)) _ ∙ ap (λ (l : List ℕ). f.done ++ l) (sym (filled_next i j h)) ∙ f.whole);
    }

    pub filling_ends : length t ≤ i → Put b at b' k (filled t ns)
    filling_ends h =
        let e : f.done ≡ filled t ns = sym (append-nil f.done) ∙ ap (λ (l : List ℕ). f.done ++ l) (sym (filled_none i j h)) ∙ f.whole in
        rw e at f.put

-- A filled template takes no more than its characters and 20 bytes a number.
pub filled_long : (t ns : List ℕ) → length (filled t ns) ≤ length t + 20 * length ns
unfolding filled
filled_long [] ns = omega arith
filled_long (b ∷ t) [] =
    by_test (is_hole b)
    (λ e. let h : b ≡ 35 = eqb-true b 35 e in
    rw (piece_hole b 0 h, used_hole b h) (omega (arith, decimal-short 1 0 (omega arith) (omega arith), length-append (decimal 0) (filled t []), filled_long t [])))
    (λ e. let h : b ≡ 35 → ⊥ = eqb-false b 35 e in
    rw (piece_other b 0 h, used_other b h) (omega (arith, filled_long t [])))
filled_long (b ∷ t) (n ∷ ns) =
    by_test (is_hole b)
    (λ e. let h : b ≡ 35 = eqb-true b 35 e in
    rw (piece_hole b n h, used_hole b h) (omega (arith, length-append (decimal n) (filled t ns), decimal_long n, filled_long t ns)))
    (λ e. let h : b ≡ 35 → ⊥ = eqb-false b 35 e in
    rw (piece_other b n h, used_other b h) (omega (arith, filled_long t (n ∷ ns))))
