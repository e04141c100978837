-- Laws of lists that the kit lacks.
use Prim.Native.Nat.{ℕ, zero, suc, ◌+◌, ◌-◌, ◌≤◌, ◌<◌}
use mathlib.Core.Path.{◌≡◌, refl, sym, ◌∙◌}
use mathlib.Core.List.{List, [], ◌∷◌, ◌++◌, map}
use native.Mathlib.Nat.{sub-zero, suc-sub-suc}
use native.Mathlib.Numerals.{add-one}
use native.Mathlib.Omega.{arith}
use lib.ListN.{length, get_or, set, take, drop, replicate, take-append-drop, length-drop, length-replicate, get_or-replicate, length-map, get_or-append}
use lib.Seq.{drop-set-lt, drop-drop, drop-cons, set_at, take-suc, append_snoc, length-take-le, get_or-take, get_or-drop, ext_get_or}

-- The length of an array of structs, from what owning it tells: for a search's list.
pub long_of : (X Y : Type 0) (f : X → Y) (l : List X) (n : ℕ) → length (map f l) ≡ n → length l ≡ n
long_of X Y f l n e = sym (length-map l f) ∙ e

-- The list from a place on, where the places from there on are all alike.
pub unused_by : {A : Type 0} (l : List A) (d n : ℕ) (a : A) → length l ≡ n → ((i : ℕ) → d ≤ i → i < n → get_or l i a ≡ a) → drop d l ≡ replicate (n - d) a
unused_by l d n a e h =
    ext_get_or a (drop d l) (replicate (n - d) a) (length-drop d l ∙ rw (e, length-replicate (n - d) a))
    (λ i k. let k' : i < n - d = rw (length-drop d l, e) at k in
    get_or-drop d l i a ∙ h (d + i) (omega arith) (omega arith) ∙ sym (get_or-replicate (n - d) i a a k'))

pub unused_at : {A : Type 0} (l : List A) (d n i : ℕ) (a : A) → drop d l ≡ replicate (n - d) a → d ≤ i → i < n → get_or l i a ≡ a
unused_at l d n i a e h k =
    let q : d + (i - d) ≡ i = omega arith in
    (rw q at (sym (get_or-drop d l (i - d) a))) ∙ rw e (get_or-replicate (n - d) (i - d) a a (omega arith))

pub unused_set : {A : Type 0} (l : List A) (i n : ℕ) (a v : A) → i < n → drop i l ≡ replicate (n - i) a → drop (suc i) (set l i v) ≡ replicate (n - suc i) a
unused_set l i n a v h e =
    let q : n - i ≡ suc (n - suc i) = omega arith in
    let f : drop (suc i) l ≡ drop 1 (drop i l) = rw (← add-one i) (sym (drop-drop 1 i l)) in
    rw (drop-set-lt (suc i) l i v (omega arith), f, e, q)

-- The first i of l, and behind them what stands in z: a list filled from the front by stores.
abbrev pub front : {A : Type 0} → List A → List A → ℕ → List A
front l z i = take i l ++ drop i z

pub front-suc : {A : Type 0} (l z : List A) (i : ℕ) (a : A) → i < length l → i < length z →
    set (front l z i) i (get_or l i a) ≡ front l z (suc i)
front-suc l z i a h k =
    let f : length (take i l) ≡ i = length-take-le i l (omega arith) in
    rw (drop-cons z i a k, set_at (take i l) (get_or z i a) (drop (suc i) z) (get_or l i a) i f, take-suc l i a h)
    (sym (append_snoc (take i l) (get_or l i a) (drop (suc i) z)))

drop-replicate : {A : Type 0} (i n : ℕ) (a : A) → drop i (replicate n a) ≡ replicate (n - i) a
drop-replicate zero n a = rw sub-zero
drop-replicate (suc i) zero a = let e : zero - suc i ≡ zero = omega arith in rw e
drop-replicate (suc i) (suc n) a = rw suc-sub-suc (drop-replicate i n a)

pub front-all : {A : Type 0} (l : List A) (i n : ℕ) (a : A) → drop i l ≡ replicate (n - i) a → front l (replicate n a) i ≡ l
front-all l i n a e = rw (drop-replicate i n a, ← e) (take-append-drop i l)

pub front_getD : {A : Type 0} (l z : List A) (i j : ℕ) (a : A) → j < i → i ≤ length l → get_or (front l z i) j a ≡ get_or l j a
front_getD l z i j a h k =
    get_or-append (take i l) (drop i z) a j (rw (length-take-le i l k) h) ∙ get_or-take i l j a h

-- What stands in a list from a place on, by the element there.
pub drop-some : (s : List ℕ) (i b : ℕ) → b ≡ get_or s i 0 → i < length s → drop i s ≡ b ∷ drop (i + 1) s
drop-some s i b e h = rw (add-one, e, drop-cons s i 0)

-- An array that is filled from the front with what is read, and holds the same value behind.
pub all_alike : {A : Type 0} (n j : ℕ) (a : A) → get_or (replicate n a) j a ≡ a
all_alike zero j a = refl
all_alike (suc n) zero a = refl
all_alike (suc n) (suc j) a = all_alike n j a

pub padded : {A : Type 0} (l : List A) (n j : ℕ) (a : A) → get_or (l ++ replicate n a) j a ≡ get_or l j a
padded [] n j a = all_alike n j a
padded (x ∷ l) n zero a = refl
padded (x ∷ l) n (suc j) a = padded l n j a

pub fill_next : {A : Type 0} (l : List A) (i n : ℕ) (v a : A) → length l ≡ i → i < n → set (l ++ replicate (n - i) a) i v ≡ (l ++ (v ∷ [])) ++ replicate (n - suc i) a
fill_next l i n v a e h =
    let q : n - i ≡ suc (n - suc i) = omega arith in
    rw (q, set_at l a (replicate (n - suc i) a) v i e) (sym (append_snoc l v (replicate (n - suc i) a)))

-- What holds of each element of a list, and of the value past its end, holds at every place.
abbrev pub Each : {A : Type 0} → (A → Type 0) → List A → Type 0
Each P [] = Unit {0}
Each P (x ∷ l) = P x × Each P l

pub each_at : {A : Type 0} (P : A → Type 0) (l : List A) (a : A) → Each P l → P a → (k : ℕ) → P (get_or l k a)
each_at P [] a h p k = p
each_at P (x ∷ l) a h p zero = h.0
each_at P (x ∷ l) a h p (suc k) = each_at P l a h.1 p k
