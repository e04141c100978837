-- A run of bytes stands in a list between two places; a number is read there exactly where its bytes stand there.
use Prim.Native.Nat.{ℕ, ◌+◌, ◌<◌}
use mathlib.Core.Path.{◌≡◌, refl, sym, ◌∙◌, subst}
use mathlib.Core.List.{List, [], ◌++◌, append_assoc, append-nil}
use native.Mathlib.Omega.{arith}
use lib.ListN.{length, drop, length-append}
use lib.Seq.{drop-append_seam, drop-drop, drop-length}
use Rattle.numeral.specs.Number.{Value, number_at, encode}
use Rattle.numeral.specs.NumberRules.{Bytes, Stands}
use Rattle.numeral.proofs.NumberLaws.{number_at_back, number-encode}

pub record Reads (s : List ℕ) (p q : ℕ) (xs : List ℕ) : Type 0 where
  pub stands : drop p s ≡ xs ++ drop q s
  pub ends : q ≡ p + length xs

pub reads_nil : (s : List ℕ) (p : ℕ) → Reads s p p []
reads_nil s p = record { stands = refl; ends = omega arith }

pub reads_join : {s : List ℕ} {p q r : ℕ} {xs ys : List ℕ} → Reads s p q xs → Reads s q r ys → Reads s p r (xs ++ ys)
reads_join {s} {p} {q} {r} {xs} {ys} f g = record {
  stands = rw (append_assoc, ← g.stands) f.stands;
  ends = omega (arith, f.ends, g.ends, length-append xs ys);
}

pub reads_split : {s : List ℕ} {p r : ℕ} (xs ys : List ℕ) → Reads s p r (xs ++ ys) → (Reads s p (p + length xs) xs) × (Reads s (p + length xs) r ys)
reads_split {s} {p} {r} xs ys h =
    let e : drop p s ≡ xs ++ (ys ++ drop r s) = rw append_assoc at h.stands in
    let f : drop (p + length xs) s ≡ ys ++ drop r s = sym (drop-drop (length xs) p s) ∙ (rw e (drop-append_seam xs (ys ++ drop r s))) in
    (record { stands = rw f e; ends = refl }, record { stands = f; ends = omega (arith, h.ends, length-append xs ys) })

pub reads_all : (s : List ℕ) → Reads s 0 (length s) s
reads_all s = record { stands = rw (drop-length s) (sym (append-nil s)); ends = omega arith }

pub number_reads : (s : List ℕ) (p v q : ℕ) → Bytes s → number_at s p ≡ Value v q → (v < 65536) × (Reads s p q (encode v))
number_reads s p v q hs e =
    let h : Stands p v q (drop p s) = number_at_back s p v q hs e in
    (h.small, record { stands = rw (h.next_place, ← drop-drop (length (encode v)) p s) h.bytes; ends = h.next_place })

pub reads_number : (s : List ℕ) (p v q : ℕ) → v < 65536 → Reads s p q (encode v) → number_at s p ≡ Value v q
unfolding number_at
reads_number s p v q h r = rw (r.stands, r.ends) (number-encode v p _ h)

pub reads_whole : {s xs : List ℕ} → s ≡ xs → Reads s 0 (length s) xs
reads_whole {s} {xs} e = subst (λ (l : List ℕ). Reads s 0 (length s) l) e (reads_all s)
