-- Reading and writing a number are each other's inverse.
use Prim.Native.Nat.{ℕ, suc, ◌+◌, ◌-◌, ◌*◌, ◌/◌, ◌%◌, ◌≤◌, ◌<◌}
use mathlib.Core.Path.{◌≡◌, refl, ap, sym}
use mathlib.Core.List.{List, [], ◌∷◌, ◌++◌, append_assoc, append-nil}
use native.Mathlib.Omega.{arith}
use lib.ListN.{length, get_or, take, drop}
use lib.Seq.{get_or-drop, take-suc}
use lib.Dec.{eqb, ltb, leb}
use borrow.Author.Tests.{lt-leb, lt-ltb, le-ltb, ne_eqb, ltb-true, ltb-false, leb-false, eqb-false}
use Rattle.numeral.specs.Number.{Number, Value, Refused, third, second, number, number_at, encode, encode_all}
use Rattle.numeral.specs.NumberRules.{Bytes, Stands}
use mathlib.Core.Logic.{◌≢◌}
use mir.Val.{Fits}
use mir.Syntax.{w8}
use Rattle.basis.specs.Tests.{pick}
use Rattle.basis.proofs.TestLaws.{by_test, either}

-- the bytes of a number by its size
pub encode_one : (v : ℕ) → v < 128 → encode v ≡ v ∷ []
unfolding encode pick
encode_one v h = rw (lt-ltb v 128 h)

pub encode-two : (v : ℕ) → 128 ≤ v → v < 16384 → encode v ≡ (128 + v % 128) ∷ (v / 128) ∷ []
unfolding encode pick
encode-two v h k = rw (le-ltb v 128 h, lt-ltb v 16384 k)

pub encode-three : (v : ℕ) → 16384 ≤ v → encode v ≡ (128 + v % 128) ∷ (128 + v / 128 % 128) ∷ (v / 16384) ∷ []
unfolding encode pick
encode-three v h = rw (le-ltb v 128 (omega arith), le-ltb v 16384 h)

pub encode-some : (v : ℕ) → 0 < length (encode v)
encode-some v =
    by_test (ltb v 128) (λ e. rw (encode_one v (ltb-true _ _ e)) (omega arith))
    (λ e. by_test (ltb v 16384) (λ f. rw (encode-two v (ltb-false _ _ e) (ltb-true _ _ f)) (omega arith))
    (λ f. rw (encode-three v (ltb-false _ _ f)) (omega arith)))

-- read after write
pub number-encode : (v at : ℕ) (post : List ℕ) → v < 65536 → number at (encode v ++ post) ≡ Value v (at + length (encode v))
unfolding number second third pick
number-encode v at post h =
    by_test (ltb v 128)
    (λ e. rw (encode_one v (ltb-true _ _ e), e))
    (λ e. let l : 128 ≤ v = ltb-false _ _ e in
    by_test (ltb v 16384)
    (λ f. let m : v < 16384 = ltb-true _ _ f in
    let ev : 128 + v % 128 - 128 + 128 * (v / 128) ≡ v = omega arith in
    let en : at + 1 + 1 ≡ at + 2 = omega arith in
    rw (encode-two v l m, le-ltb (128 + v % 128) 128 (omega arith), ne_eqb (v / 128) 0 (λ z. omega arith), lt-ltb (v / 128) 128 (omega arith), ev, en))
    (λ f. let m : 16384 ≤ v = ltb-false _ _ f in
    let ev : 128 + v % 128 - 128 + 128 * (128 + v / 128 % 128 - 128) + 16384 * (v / 16384) ≡ v = omega arith in
    let en : at + 1 + 1 + 1 ≡ at + 3 = omega arith in
    rw (
      encode-three v m,
      le-ltb (128 + v % 128) 128 (omega arith),
      ne_eqb (128 + v / 128 % 128) 0 (λ z. omega arith),
      le-ltb (128 + v / 128 % 128) 128 (omega arith),
      lt-leb 128 (v / 16384) (omega arith),
      ne_eqb (v / 16384) 0 (λ z. omega arith),
      ev,
      le-ltb 65535 v (omega arith),
      en,
    )))

-- No number is refused with 0.
abbrev pub ToldWhy : Number → Type 0
ToldWhy (Value v next) = 0 < 1
ToldWhy (Refused why) = 0 < why

third_why : (at v : ℕ) (s : List ℕ) → ToldWhy (third at v s)
unfolding third
third_why at v [] = omega arith
third_why at v (b ∷ s) =
    either ToldWhy (leb 128 b) (λ t. omega arith)
    (λ t. either ToldWhy (eqb b 0) (λ u. omega arith)
    (λ u. either ToldWhy (ltb 65535 (v + 16384 * b)) (λ w. omega arith) (λ w. omega arith)))

second_why : (at v : ℕ) (s : List ℕ) → ToldWhy (second at v s)
unfolding second
second_why at v [] = omega arith
second_why at v (b ∷ s) =
    either ToldWhy (eqb b 0) (λ t. omega arith)
    (λ t. either ToldWhy (ltb b 128) (λ u. omega arith) (λ u. third_why (at + 1) _ s))

pub number_why : (at : ℕ) (s : List ℕ) → ToldWhy (number at s)
unfolding number
number_why at [] = omega arith
number_why at (b ∷ s) = either ToldWhy (ltb b 128) (λ t. omega arith) (λ t. second_why (at + 1) _ s)

-- What is known of a slice of bytes.
pub held_bytes : {s : List ℕ} → ((i : ℕ) → Fits w8 (get_or s i 0)) → Bytes s
held_bytes h = record { each = λ i. (h i).fits }

stands : {p v n : ℕ} {s : List ℕ} (e : List ℕ) → encode v ≡ e → v < 65536 → n ≡ p + length e → s ≡ e ++ drop (length e) s → Stands p v n s
stands e q h k l = record { small = h; next_place = rw q k; bytes = rw q l }

no : {A : Type 0} {x v n : ℕ} → Refused x ≡ Value v n → A
no e = let z : ◌≡◌ {A = ℕ} 0 1 = cc in absurd (omega arith)

low : (x y : ℕ) → x < 128 → (x + 128 * y) % 128 ≡ x
low x y h = omega arith

third_back : (p a b v n : ℕ) (s : List ℕ) → 128 ≤ a → a < 256 → 128 ≤ b → b < 256 →
    third (p + 1 + 1) (a - 128 + 128 * (b - 128)) s ≡ Value v n → Stands p v n (a ∷ b ∷ s)
unfolding third pick
third_back p a b v n [] ha ha' hb hb' e = no e
third_back p a b v n (c ∷ s) ha ha' hb hb' e =
    by_test (leb 128 c) (λ t. no (rw t at e))
    (λ t. by_test (eqb c 0) (λ u. no (rw (t, u) at e))
    (λ u. by_test (ltb 65535 (a - 128 + 128 * (b - 128) + 16384 * c)) (λ w. no (rw (t, u, w) at e))
    (λ w. let f : Value (a - 128 + 128 * (b - 128) + 16384 * c) (p + 1 + 1 + 1) ≡ Value v n = rw (t, u, w) at e in
    let ev : a - 128 + 128 * (b - 128) + 16384 * c ≡ v = cc in
    let en : p + 1 + 1 + 1 ≡ n = cc in
    let lc : c < 128 = leb-false 128 c t in
    let nz : c ≢ 0 = eqb-false c 0 u in
    let lv : a - 128 + 128 * (b - 128) + 16384 * c ≤ 65535 = ltb-false _ _ w in
    let e1 : a ≡ 128 + v % 128 = omega arith in
    let q : v / 128 ≡ b - 128 + 128 * c = omega arith in
    let e2 : b ≡ 128 + v / 128 % 128 = omega (arith, ap (λ (k : ℕ). k % 128) q, low (b - 128) c (omega arith)) in
    let e3 : c ≡ v / 16384 = omega arith in
    stands _ (encode-three v (omega arith)) (omega arith) (omega arith) (cc))))

second_back : (p a v n : ℕ) (s : List ℕ) → 128 ≤ a → a < 256 → Bytes s → second (p + 1) (a - 128) s ≡ Value v n → Stands p v n (a ∷ s)
unfolding second pick
second_back p a v n [] ha ha' hs e = no e
second_back p a v n (b ∷ s) ha ha' hs e =
    by_test (eqb b 0) (λ t. no (rw t at e))
    (λ t. by_test (ltb b 128)
    (λ u. let f : Value (a - 128 + 128 * b) (p + 1 + 1) ≡ Value v n = rw (t, u) at e in
    let ev : a - 128 + 128 * b ≡ v = cc in
    let en : p + 1 + 1 ≡ n = cc in
    let nz : b ≢ 0 = eqb-false b 0 t in
    let lb : b < 128 = ltb-true b 128 u in
    let e1 : a ≡ 128 + v % 128 = omega arith in
    let e2 : b ≡ v / 128 = omega arith in
    stands _ (encode-two v (omega arith) (omega arith)) (omega arith) (omega arith) (cc))
    (λ u. third_back p a b v n s ha ha' (ltb-false b 128 u) (hs.each 0) (rw (t, u) at e)))

-- write after read: an accepted number stands there in its bytes
pub number_back : (p v n : ℕ) (s : List ℕ) → Bytes s → number p s ≡ Value v n → Stands p v n s
unfolding number pick
number_back p v n [] hs e = no e
number_back p v n (a ∷ s) hs e =
    by_test (ltb a 128)
    (λ u. let f : Value a (p + 1) ≡ Value v n = rw u at e in
    let ev : a ≡ v = cc in
    let en : p + 1 ≡ n = cc in
    let la : a < 128 = ltb-true a 128 u in
    stands _ (encode_one v (omega arith)) (omega arith) (omega arith) (cc))
    (λ u. second_back p a v n s (ltb-false a 128 u) (hs.each 0) (record { each = λ i. hs.each (suc i) }) (rw u at e))

-- the same at a place of a longer list
pub number_at_back : (s : List ℕ) (at v n : ℕ) → Bytes s → number_at s at ≡ Value v n → Stands at v n (drop at s)
unfolding number_at
number_at_back s at v n hs e = number_back at v n (drop at s) (record { each = λ i. rw (get_or-drop at s i 0) (hs.each (at + i)) }) e

-- The bytes of several numbers.
pub encode_all-append : (xs ys : List ℕ) → encode_all (xs ++ ys) ≡ encode_all xs ++ encode_all ys
unfolding encode_all
encode_all-append [] ys = refl
encode_all-append (x ∷ xs) ys = rw (encode_all-append xs ys) (sym (append_assoc (encode x) (encode_all xs) (encode_all ys)))

pub encode_all-last : (xs : List ℕ) (v : ℕ) → encode_all (xs ++ (v ∷ [])) ≡ encode_all xs ++ encode v
unfolding encode_all
encode_all-last xs v = rw (encode_all-append xs (v ∷ []), append-nil)

pub encode_all-take : (vs : List ℕ) (k : ℕ) → k < length vs → encode_all (take (suc k) vs) ≡ encode_all (take k vs) ++ encode (get_or vs k 0)
encode_all-take vs k h = rw (take-suc vs k 0 h) (encode_all-last (take k vs) (get_or vs k 0))
