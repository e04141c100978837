-- What the byte form says of the bytes of numbers: which number is objected to, that one is missing, or that they are read.
use Prim.Native.Nat.{ℕ, ◌+◌, ◌<◌}
use mathlib.Core.Path.{◌≡◌, refl, ap, ◌∙◌, subst}
use mathlib.Core.Bool.{true, false}
use mathlib.Core.List.{List, [], ◌∷◌, ◌++◌}
use lib.ListN.{length, get_or, take}
use lib.Seq.{take-length, drop-length, take-append_seam, drop-append_seam, get_or-append_seam}
use Rattle.basis.specs.Told.{Told, answered, refused}
use Rattle.numeral.specs.Number.{number_at, encode, encode_all}
use Rattle.numeral.specs.NumberRules.{first-missing}
use Rattle.numeral.specs.Number.{Value}
use Rattle.numeral.proofs.NumberLaws.{number-encode, encode_all-append}
use Rattle.numeral.proofs.RuleLaws.{number_exactly}
use Rattle.reader.specs.Reader.{reading}
use Rattle.codec.specs.Judging.{objection, wanted, Before, place, Judgment, no_number, objected, all_read}
use Rattle.codec.proofs.BeforeLaws.{each_next, before_small}
use Rattle.codec.proofs.JudgingLaws.{judged_exactly}
use Rattle.sheet.specs.Sheet.{placed}
use Rattle.sheet.specs.SheetJudging.{SheetBefore}
use Rattle.sheet.specs.Scan.{numbers_in}
use Rattle.sheet.proofs.EncodeLaws.{Low, numbers-all, bytes-all}

-- The numbers, each wanted where it stands and not objected to: those that a text starts with pass in the byte form too.
abbrev pub Passing : List ℕ → Type 0
Passing vs = Before (encode_all vs) vs

pub passing_before : {s vs : List ℕ} → SheetBefore s vs → Passing vs
passing_before {s} {vs} b = record { stands = take-length (encode_all vs); wants = b.wants; passed = b.passed }

pub passing_next : (vs : List ℕ) (v : ℕ) → Passing vs → wanted vs ≡ true → objection vs v ≡ answered [] → Passing (vs ++ (v ∷ []))
passing_next vs v b w o = record {
  stands = take-length (encode_all (vs ++ (v ∷ [])));
  wants = each_next (λ ws x. wanted ws ≡ true) vs v b.wants w;
  passed = each_next (λ ws x. objection ws x ≡ answered []) vs v b.passed o;
}

-- Numbers that pass are such as bytes can hold.
pub before_low : {s vs : List ℕ} → Before s vs → Low vs
before_low {s} {vs} b = record { each = λ k. rw (take-length vs) at ((before_small b (length vs)).each k) }

told_by : (us : List ℕ) → Low us → (o : Told) → Judgment (encode_all us) o → (reading (encode_all us)).told ≡ o
told_by us low o j = (judged_exactly (encode_all us) (bytes-all us low) o).1 j

module _ (us : List ℕ) (b : Passing us) where
  pub all_pass : wanted us ≡ false → (reading (encode_all us)).told ≡ answered []
  all_pass w = told_by us (before_low b) (answered []) (all_read us b w refl)

  pub one-missing : wanted us ≡ true → (reading (encode_all us)).told ≡ placed (refused 1) (place us)
  one-missing w = told_by us (before_low b) _ (no_number us 1 b w (rw (drop-length (encode_all us)) first-missing))

-- The numbers vs pass, and behind them stands v, with more or without.
module _ (us vs : List ℕ) (v : ℕ) (rest : List ℕ) (low : Low us) (e : us ≡ vs ++ v ∷ rest) (b : Passing vs) where
  apart : encode_all us ≡ encode_all vs ++ (encode v ++ encode_all rest)
  unfolding encode_all
  apart = ap encode_all e ∙ encode_all-append vs (v ∷ rest)

  front : take (place vs) (encode_all us) ≡ encode_all vs
  front = ap (take (place vs)) apart ∙ take-append_seam (encode_all vs) (encode v ++ encode_all rest)

  v_small : v < 65536
  v_small = subst (λ (x : ℕ). x < 65536) (ap (λ (l : List ℕ). get_or l (length vs) 0) e ∙ get_or-append_seam vs v rest 0) (low.each (length vs))

  stands_there : number_at (encode_all us) (place vs) ≡ Value v (place vs + length (encode v))
  unfolding number_at
  stands_there =
      rw (apart, drop-append_seam (encode_all vs) (encode v ++ encode_all rest)) (number-encode v (place vs) (encode_all rest) v_small)

  pub one_objected : wanted vs ≡ true → 0 < (objection vs v).number → (reading (encode_all us)).told ≡ placed (objection vs v) (place vs)
  one_objected w h =
      told_by us low _
      (objected vs v (place vs + length (encode v)) (record { stands = front; wants = b.wants; passed = b.passed }) w
      ((number_exactly (encode_all us) (place vs) (Value v (place vs + length (encode v)))).0 stands_there) h)

  pub count-before : numbers_in (take (place vs) (encode_all us)) ≡ length vs
  count-before = ap numbers_in front ∙ numbers-all vs (before_low b)
