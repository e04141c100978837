-- The bytes of numbers below 65,536: each is a byte, three at most are of one number, one of them says that it ends, and they are of one
-- list of numbers only.
use Prim.Native.Nat.{ℕ, zero, suc, ◌+◌, ◌*◌, ◌/◌, ◌%◌, ◌≤◌, ◌<◌}
use mathlib.Core.Path.{◌≡◌, refl, ap, sym, ◌∙◌}
use mathlib.Core.List.{List, [], ◌∷◌, ◌++◌}
use native.Mathlib.Omega.{arith}
use lib.ListN.{length, get_or, drop, length-append}
use lib.Seq.{drop-append_seam}
use lib.Dec.{ltb}
use borrow.Author.Tests.{ltb-true, ltb-false, lt-ltb, le-ltb}
use Rattle.basis.specs.Tests.{pick}
use Rattle.basis.proofs.TestLaws.{by_test}
use Rattle.numeral.specs.Number.{Value}
use Rattle.numeral.specs.Number.{number, encode, encode_all}
use Rattle.numeral.specs.NumberRules.{Bytes}
use Rattle.numeral.proofs.NumberLaws.{encode_one, encode-two, encode-three, encode-some, number-encode}
use Rattle.sheet.specs.Scan.{numbers_in}

-- Each number of a list is below a bound.
pub record Below (n : ℕ) (vs : List ℕ) : Type 0 where
  pub each : (i : ℕ) → get_or vs i 0 < n

-- Each number is one that the bytes can hold.
abbrev pub Low : List ℕ → Type 0
Low vs = Below 65536 vs

module _ {n : ℕ} where
  pub below_none : 0 < n → Below n []
  below_none h = record { each = λ i. h }

  pub below_more : {v : ℕ} {vs : List ℕ} → v < n → Below n vs → Below n (v ∷ vs)
  below_more {v} {vs} h b = record { each = here }
    where
      here : (i : ℕ) → get_or (v ∷ vs) i 0 < n
      here zero = h
      here (suc i) = b.each i

  below_rest : {v : ℕ} {vs : List ℕ} → Below n (v ∷ vs) → Below n vs
  below_rest b = record { each = λ i. b.each (suc i) }

  pub below_join : (vs ws : List ℕ) → Below n vs → Below n ws → Below n (vs ++ ws)
  below_join [] ws b c = c
  below_join (v ∷ vs) ws b c = below_more (b.each 0) (below_join vs ws (below_rest b) c)

pub low_none : Low []
low_none = below_none (omega arith)

pub low_next : (vs : List ℕ) (v : ℕ) → Low vs → v < 65536 → Low (vs ++ (v ∷ []))
low_next vs v b h = below_join vs (v ∷ []) b (below_more h low_none)

-- One number, in its one, two or three bytes.
by_size : (P : List ℕ → Type 0) (v : ℕ) → (v < 128 → P (v ∷ []))
    → (128 ≤ v → v < 16384 → P ((128 + v % 128) ∷ (v / 128) ∷ []))
    → (16384 ≤ v → P ((128 + v % 128) ∷ (128 + v / 128 % 128) ∷ (v / 16384) ∷ [])) → P (encode v)
by_size P v one two three =
    by_test (ltb v 128) (λ t. let l = ltb-true v 128 t in rw (encode_one v l) (one l))
    (λ t. let h = ltb-false v 128 t in
    by_test (ltb v 16384) (λ u. let l = ltb-true v 16384 u in rw (encode-two v h l) (two h l))
    (λ u. let l = ltb-false v 16384 u in rw (encode-three v l) (three l)))

one_ends : (v : ℕ) → v < 65536 → numbers_in (encode v) ≡ 1
unfolding numbers_in pick
one_ends v h =
    by_size (λ bs. numbers_in bs ≡ 1) v
    (λ l. rw (lt-ltb v 128 l))
    (λ l m. rw (le-ltb (128 + v % 128) 128 (omega arith), lt-ltb (v / 128) 128 (omega arith)))
    (λ l. rw (le-ltb (128 + v % 128) 128 (omega arith), le-ltb (128 + v / 128 % 128) 128 (omega arith), lt-ltb (v / 16384) 128 (omega arith)))

numbers-append : (xs ys : List ℕ) → numbers_in (xs ++ ys) ≡ numbers_in xs + numbers_in ys
unfolding numbers_in
numbers-append [] ys = omega arith
numbers-append (b ∷ xs) ys = omega (arith, numbers-append xs ys)

-- As many numbers end in their bytes as there are.
pub numbers-all : (vs : List ℕ) → Low vs → numbers_in (encode_all vs) ≡ length vs
unfolding numbers_in encode_all
numbers-all [] b = refl
numbers-all (v ∷ vs) b =
    omega (arith, numbers-append (encode v) (encode_all vs), one_ends v (b.each 0), numbers-all vs (below_rest b))

-- They are written in bytes.
one_byte : (v : ℕ) → v < 65536 → Below 256 (encode v)
one_byte v h =
    let end : Below 256 [] = below_none (omega arith) in
    by_size (Below 256) v (λ l. below_more (omega arith) end)
    (λ l m. below_more (omega arith) (below_more (omega arith) end))
    (λ l. below_more (omega arith) (below_more (omega arith) (below_more (omega arith) end)))

all_below : (vs : List ℕ) → Low vs → Below 256 (encode_all vs)
unfolding encode_all
all_below [] b = below_none (omega arith)
all_below (v ∷ vs) b = below_join (encode v) (encode_all vs) (one_byte v (b.each 0)) (all_below vs (below_rest b))

pub bytes-all : (vs : List ℕ) → Low vs → Bytes (encode_all vs)
bytes-all vs b = record { each = (all_below vs b).each }

-- Three bytes at most for each.
one-short : (v : ℕ) → length (encode v) ≤ 3
one-short v = by_size (λ bs. length bs ≤ 3) v (λ l. omega arith) (λ l m. omega arith) (λ l. omega arith)

pub all_short : (vs : List ℕ) → length (encode_all vs) ≤ 3 * length vs
unfolding encode_all
all_short [] = omega arith
all_short (v ∷ vs) = omega (arith, length-append (encode v) (encode_all vs), one-short v, all_short vs)

-- Bytes are of one list of numbers only: the first number is what is read at their front.
encode-apart : (v w : ℕ) (p q : List ℕ) → v < 65536 → w < 65536 → encode v ++ p ≡ encode w ++ q → (v ≡ w) × (p ≡ q)
encode-apart v w p q h k e =
    let a : Value v (0 + length (encode v)) ≡ Value w (0 + length (encode w)) = sym (number-encode v 0 p h) ∙ ap (number 0) e ∙ number-encode w 0 q k in
    let f : v ≡ w = cc in
    let g : encode v ++ p ≡ encode v ++ q = e ∙ ap (λ (x : ℕ). encode x ++ q) (sym f) in
    (f, sym (drop-append_seam (encode v) p) ∙ ap (drop (length (encode v))) g ∙ drop-append_seam (encode v) q)

pub encode-all_same : (vs ws : List ℕ) → Low vs → Low ws → encode_all vs ≡ encode_all ws → vs ≡ ws
unfolding encode_all
encode-all_same [] [] b c e = refl
encode-all_same [] (w ∷ ws) b c e = absurd (omega (arith, ap length e, encode-some w, length-append (encode w) (encode_all ws)))
encode-all_same (v ∷ vs) [] b c e = absurd (omega (arith, ap length e, encode-some v, length-append (encode v) (encode_all vs)))
encode-all_same (v ∷ vs) (w ∷ ws) b c e =
    let p = encode-apart v w (encode_all vs) (encode_all ws) (b.each 0) (c.each 0) e in
    let q : vs ≡ ws = encode-all_same vs ws (below_rest b) (below_rest c) p.1 in
    cc
