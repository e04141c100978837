-- A number is read exactly where the rules say that one stands, and refused exactly with what they give.
use Prim.Native.Nat.{ℕ, ◌+◌, ◌-◌, ◌*◌, ◌≤◌}
use mathlib.Core.Path.{◌≡◌, refl, sym, ap, ◌∙◌, subst}
use mathlib.Core.List.{List, [], ◌∷◌}
use mathlib.Core.Logic.{◌↔◌, ◌≢◌}
use native.Mathlib.Omega.{arith}
use lib.ListN.{length, drop}
use lib.Dec.{eqb, ltb, leb}
use borrow.Author.Tests.{le-leb, lt-leb, lt-ltb, le-ltb, ne_eqb, ltb-true, ltb-false, leb-true, leb-false, eqb-true, eqb-false}
use Rattle.std.specs.Prelude.{Result, Ok, Err}
use Rattle.basis.specs.Tests.{pick}
use Rattle.basis.specs.Refusals.{number as number_of, values}
use Rattle.basis.specs.declared.refusal.Refusal.{Refusal}
use Rattle.basis.specs.declared.refusal.Refusal.TheVariants.{Intransitive}
use Rattle.basis.proofs.RefusalLaws.{refused-apart}
use Rattle.basis.proofs.TestLaws.{either}
use Rattle.numeral.specs.Number.{Number, Value, Refused, third, second, number, number_at, given, encode}
use Rattle.numeral.specs.declared.Numeral.{Numeral}
use Rattle.numeral.specs.NumberRules.{of_three, NoNumber, first-missing, second-missing, third-missing, third-goes_on, second-zero, third-zero, too_large, NumberValue, one_byte, two_bytes, three-bytes, Rule, Bytes, Stands}
use Rattle.numeral.proofs.NumberLaws.{number-encode, number_at_back}

third_rule : (at a b : ℕ) (s : List ℕ) → 128 ≤ a → 128 ≤ b → Rule at (a ∷ b ∷ s) (third (at + 1 + 1) (a - 128 + 128 * (b - 128)) s)
unfolding third
third_rule at a b [] ha hb = third-missing a b ha hb
third_rule at a b (c ∷ s) ha hb =
    either (Rule at (a ∷ b ∷ c ∷ s)) (leb 128 c) (λ t. third-goes_on a b c s ha hb (leb-true 128 c t))
    (λ t. either (Rule at (a ∷ b ∷ c ∷ s)) (eqb c 0) (λ u. rw (eqb-true c 0 u) (third-zero a b s ha hb))
    (λ u. let nz : c ≢ 0 = eqb-false c 0 u in
    either (Rule at (a ∷ b ∷ c ∷ s)) (ltb 65535 (of_three a b c))
    (λ w. too_large a b c s ha hb (omega arith) (leb-false 128 c t) (ltb-true 65535 (of_three a b c) w))
    (λ w. let e : at + 1 + 1 + 1 ≡ at + 3 = omega arith in
    rw e (three-bytes a b c s ha hb (omega arith) (leb-false 128 c t) (ltb-false 65535 (of_three a b c) w)))))

second_rule : (at a : ℕ) (s : List ℕ) → 128 ≤ a → Rule at (a ∷ s) (second (at + 1) (a - 128) s)
unfolding second
second_rule at a [] ha = second-missing a ha
second_rule at a (b ∷ s) ha =
    either (Rule at (a ∷ b ∷ s)) (eqb b 0) (λ t. rw (eqb-true b 0 t) (second-zero a s ha))
    (λ t. let nz : b ≢ 0 = eqb-false b 0 t in
    either (Rule at (a ∷ b ∷ s)) (ltb b 128)
    (λ u. let e : at + 1 + 1 ≡ at + 2 = omega arith in rw e (two_bytes a b s ha (omega arith) (ltb-true b 128 u)))
    (λ u. third_rule at a b s ha (ltb-false b 128 u)))

-- The answer follows a rule.
number_rule : (at : ℕ) (s : List ℕ) → Rule at s (number at s)
unfolding number
number_rule at [] = first-missing
number_rule at (a ∷ s) =
    either (Rule at (a ∷ s)) (ltb a 128) (λ t. one_byte a s (ltb-true a 128 t)) (λ t. second_rule at a s (ltb-false a 128 t))

-- Each rule gives its answer.
refused_by : (at : ℕ) (s : List ℕ) (why : ℕ) → NoNumber s why → number at s ≡ Refused why
unfolding number second third pick
refused_by at s why first-missing = refl
refused_by at s why (second-missing a ha) = rw (le-ltb a 128 ha)
refused_by at s why (third-missing a b ha hb) = rw (le-ltb a 128 ha, ne_eqb b 0 (λ z. omega arith), le-ltb b 128 hb)
refused_by at s why (third-goes_on a b c r ha hb hc) =
    rw (le-ltb a 128 ha, ne_eqb b 0 (λ z. omega arith), le-ltb b 128 hb, le-leb 128 c hc)
refused_by at s why (second-zero a r ha) = rw (le-ltb a 128 ha)
refused_by at s why (third-zero a b r ha hb) = rw (le-ltb a 128 ha, ne_eqb b 0 (λ z. omega arith), le-ltb b 128 hb)
refused_by at s why (too_large a b c r ha hb hc kc hv) =
    rw (
      le-ltb a 128 ha,
      ne_eqb b 0 (λ z. omega arith),
      le-ltb b 128 hb,
      lt-leb 128 c kc,
      ne_eqb c 0 (λ z. omega arith),
      lt-ltb 65535 (of_three a b c) hv,
    )

value_by : (at : ℕ) (s : List ℕ) (v next : ℕ) → NumberValue at s v next → number at s ≡ Value v next
unfolding number second third pick
value_by at s v next (one_byte a r ha) = rw (lt-ltb a 128 ha)
value_by at s v next (two_bytes a b r ha hb kb) =
    let e : at + 1 + 1 ≡ at + 2 = omega arith in
    rw (le-ltb a 128 ha, ne_eqb b 0 (λ z. omega arith), lt-ltb b 128 kb, e)
value_by at s v next (three-bytes a b c r ha hb hc kc hv) =
    let e : at + 1 + 1 + 1 ≡ at + 3 = omega arith in
    rw (
      le-ltb a 128 ha,
      ne_eqb b 0 (λ z. omega arith),
      le-ltb b 128 hb,
      lt-leb 128 c kc,
      ne_eqb c 0 (λ z. omega arith),
      le-ltb 65535 (of_three a b c) hv,
      e,
    )

rule_by : (at : ℕ) (s : List ℕ) (r : Number) → Rule at s r → number at s ≡ r
rule_by at s (Value v next) h = value_by at s v next h
rule_by at s (Refused why) h = refused_by at s why h

-- The answer at a place is the one that the rules give for the bytes from there on: 1, 2, 3, or the value and the place after it.
pub number_exactly : (s : List ℕ) (at : ℕ) (r : Number) → (number_at s at ≡ r) ↔ Rule at (drop at s) r
unfolding number_at
number_exactly s at r =
    (λ e. subst (λ (n : Number). Rule at (drop at s) n) e (number_rule at (drop at s)), λ h. rule_by at (drop at s) r h)

-- A value is answered exactly where its shortest bytes stand, and it is at most 65,535.
pub value_exactly : (s : List ℕ) (at v next : ℕ) → Bytes s → (number_at s at ≡ Value v next) ↔ Stands at v next (drop at s)
unfolding number_at
value_exactly s at v next hs = (
  λ e. number_at_back s at v next hs e,
  λ h. rw (h.next_place, h.bytes) (number-encode v at (drop (length (encode v)) (drop at s)) h.small),
)

-- What refuses a number is 1, 2 or 3, and so comes with no values.
few : {s : List ℕ} {why : ℕ} → NoNumber s why → why ≤ 3
few first-missing = omega arith
few (second-missing a ha) = omega arith
few (third-missing a b ha hb) = omega arith
few (third-goes_on a b c s ha hb hc) = omega arith
few (second-zero a s ha) = omega arith
few (third-zero a b s ha hb) = omega arith
few (too_large a b c s ha hb hc kc hv) = omega arith

few-plain : (why : Refusal) → number_of why ≤ 3 → values why ≡ []
few-plain (Intransitive a b c) h = absurd (omega arith)
few-plain why h = refl

pub refused-plain : (s : List ℕ) (at : ℕ) (why : Refusal) → given (Err why) ≡ number_at s at → values why ≡ []
refused-plain s at why e = few-plain why (few ((number_exactly s at (given (Err why))).0 (sym e)))

-- No second answer fits `read_number`.
pub read_number_unique : (s : List ℕ) (at : ℕ) (r q : Result Numeral Refusal) → given r ≡ number_at s at → given q ≡ number_at s at → r ≡ q
read_number_unique s at (Ok n) (Ok m) e f =
    let g : given (Ok n) ≡ given (Ok m) = e ∙ sym f in
    let v : n.value ≡ m.value = cc in
    let w : n.next ≡ m.next = cc in
    ap Ok (λ i. record { value = v i; next = w i })
read_number_unique s at (Ok n) (Err why) e f = let g : given (Ok n) ≡ given (Err why) = e ∙ sym f in cc
read_number_unique s at (Err why) (Ok n) e f = let g : given (Err why) ≡ given (Ok n) = e ∙ sym f in cc
read_number_unique s at (Err why) (Err other) e f =
    let g : Refused (number_of why) ≡ Refused (number_of other) = e ∙ sym f in
    let n : number_of why ≡ number_of other = cc in
    let v : values why ≡ values other = refused-plain s at why e ∙ sym (refused-plain s at other f) in
    ap Err (refused-apart why other (cc))
